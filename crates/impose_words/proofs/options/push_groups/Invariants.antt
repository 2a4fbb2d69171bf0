use Rattle.std.proofs.Common.{◌≡◌, drop}
use Rattle.std.specs.List.{fold}
use Rattle.impose_words.specs.Options.{with_group}
use Rattle.impose_words.proofs.options.push_groups.Given as goal

abbrev pub invariant-loop-group : goal.invariant-loop-group
invariant-loop-group l = fold (with_group l.table l.row.hidden.now) l.text.items (drop l.group-index l.row.groups.now) ≡ fold (with_group l.table l.row.hidden.now) l.initial.text.items l.row.groups.now
