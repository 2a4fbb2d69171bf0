use Rattle.std.proofs.Common.{◌≡◌, drop}
use Rattle.std.specs.List.{fold}
use Rattle.clap.specs.Words.{app_of}
use Rattle.impose_words.specs.Command.{with_row}
use Rattle.impose_words.proofs.arguments.with_arguments.Given as goal

abbrev pub invariant-loop-argument : goal.invariant-loop-argument
invariant-loop-argument l = fold with_row (app_of l.command) (drop l.argument-index l.arguments) ≡ fold with_row (app_of l.initial.command) l.arguments
