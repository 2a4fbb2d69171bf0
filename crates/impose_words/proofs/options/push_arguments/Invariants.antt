use Rattle.std.proofs.Common.{◌≡◌, drop}
use Rattle.std.specs.List.{fold}
use Rattle.impose_words.specs.Options.{with_shown}
use Rattle.impose_words.proofs.options.push_arguments.Given as goal

abbrev pub invariant-loop-argument : goal.invariant-loop-argument
invariant-loop-argument l = fold (with_shown l.hidden) l.text.items (drop l.argument-index l.arguments) ≡ fold (with_shown l.hidden) l.initial.text.items l.arguments
