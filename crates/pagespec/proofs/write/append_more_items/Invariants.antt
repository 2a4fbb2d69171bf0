use Rattle.std.proofs.Common.{◌≡◌, ◌++◌, ◌∷◌, take, map}
use Rattle.std.specs.Prelude.{flat_map}
use Rattle.rules.specs.Bytes.{plus_sign}
use Rattle.rules.specs.Specification.{item_text}
use Rattle.pagespec.specs.Items.{item_of}
use Rattle.pagespec.proofs.write.append_more_items.Given as goal

abbrev pub invariant-loop-item : goal.invariant-loop-item
invariant-loop-item l = l.out.items ≡ l.initial.out.items ++ flat_map (λ i. plus_sign ∷ item_text i) (map item_of (take l.item-index l.items))
