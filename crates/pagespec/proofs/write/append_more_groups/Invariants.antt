use Rattle.std.proofs.Common.{◌≡◌, ◌++◌, ◌∷◌, take}
use Rattle.std.specs.Prelude.{flat_map}
use Rattle.rules.specs.Bytes.{comma}
use Rattle.pagespec.specs.Items.{groups_of, group_text}
use Rattle.pagespec.proofs.write.append_more_groups.Given as goal

abbrev pub invariant-loop-group : goal.invariant-loop-group
invariant-loop-group l = l.out.items ≡ l.initial.out.items ++ flat_map (λ g. comma ∷ group_text g) (groups_of (take l.group-index l.groups))
