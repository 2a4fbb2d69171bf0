use Rattle.std.proofs.Common.{◌≡◌, drop}
use Rattle.std.specs.List.{fold}
use Rattle.clap.specs.Words.{app_of}
use Rattle.impose_words.specs.Command.{with_app}
use Rattle.impose_words.proofs.arguments.with_subcommands.Given as goal

abbrev pub invariant-loop-row : goal.invariant-loop-row
invariant-loop-row l = fold with_app (app_of l.command) (drop l.row-index l.rows) ≡ fold with_app (app_of l.initial.command) l.rows
