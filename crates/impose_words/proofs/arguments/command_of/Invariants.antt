use Rattle.std.proofs.Common.{◌≡◌, drop}
use Rattle.std.specs.List.{fold}
use Rattle.clap.specs.Words.{app_of}
use Rattle.impose_words.specs.Command.{app_in, with_group}
use Rattle.impose_words.proofs.arguments.command_of.Given as goal

abbrev pub invariant-loop-group : goal.invariant-loop-group
invariant-loop-group l = fold with_group (app_of l.command) (drop l.group-index l.row.groups.now) ≡ app_in l.row
