use Rattle.std.proofs.Common.{◌≡◌, drop}
use Rattle.std.specs.List.{fold}
use Rattle.impose_words.specs.Options.{with_command}
use Rattle.impose_words.proofs.options.push_commands.Given as goal

abbrev pub invariant-loop-row : goal.invariant-loop-row
invariant-loop-row l = fold (with_command l.table) l.text.items (drop l.row-index l.table.commands.now) ≡ fold (with_command l.table) l.initial.text.items l.table.commands.now
