use Rattle.std.proofs.Common.{arith, rules, ◌≡◌, ◌∙◌, ℕ, ◌+◌, ◌<◌, ◌≤◌, List, [], ◌∷◌, ◌++◌, ap, ap₂, get_or, length, map, nat_cmp, refl, sym, take}
use Rattle.std.specs.Prelude.{max}
use Rattle.std.specs.Ordering.{ord_max}
use Rattle.std.specs.Vec.{vec_len}
use Rattle.std.specs.declared.vec.Vec.{Vec}
use Rattle.std.specs.declared.alloc.Global.{Global}
use Rattle.std.proofs.lemmas.List.{length-map, map_more}
use Rattle.rules.specs.Specification.{Item}
use Rattle.pagespec.specs.declared.item.Item.{Item as PageItem}
use Rattle.pagespec.specs.Items.{groups_of, item_of}
use Rattle.sheet_plan.proofs.Access.{block_more, block_part}
use Rattle.row_runs.specs.Readings.{most_items}
use Rattle.row_runs.proofs.reading.most_items.Goals as goal

greater : (a b : ℕ) → ord_max nat_cmp a b ≡ max a b
greater a b = search rules

most_push : (n : ℕ) (groups : List (List Item)) (group : List Item) → most_items n (groups ++ group ∷ []) ≡ max (most_items n groups) (length group)
most_push n [] group = refl
most_push n (g ∷ groups) group = most_push (max n (length g)) groups group

as_long : (group : Vec PageItem Global) → vec_len group ≡ length (map item_of group.items)
as_long group =
    let l : length group.items ≡ vec_len group = omega arith in
    sym (length-map group.items item_of ∙ l)

-- one group more
more_groups : (groups : List (Vec PageItem Global)) (i count most new : ℕ) (group : Vec PageItem Global) → i < length groups → group ≡ get_or groups i group → count ≡ vec_len group
    → new ≡ ord_max nat_cmp most count → most ≡ most_items 1 (groups_of (take i groups)) → new ≡ most_items 1 (groups_of (take (i + 1) groups))
more_groups groups i count most new group lt is counted made so_far =
    let len : count ≡ length (map item_of (get_or groups i group).items) = counted ∙ ap (λ (g : Vec PageItem Global). vec_len g) is ∙ as_long (get_or groups i group) in
    made ∙ greater most count ∙ ap₂ max so_far len
    ∙ sym (most_push 1 (groups_of (take i groups)) (map item_of (get_or groups i group).items))
    ∙ ap (most_items 1) (sym (map_more (λ (g : Vec PageItem Global). map item_of g.items) groups i group lt))

pub overflow_cast-len : goal.overflow_cast-len
overflow_cast-len c =
    let more = block_more c.args.groups.now c.loop-group.group-index c.len.result c.group-item.result c.loop-group-test.true c.group-item.is c.len.ensures in
    let part = block_part c.args.groups.now (c.loop-group.group-index + 1) in
    omega arith

pub loop-group-preserved : goal.loop-group-preserved
loop-group-preserved c = (
  more_groups c.args.groups.now c.loop-group.group-index c.len.result c.loop-group.most c.max-most.result c.group-item.result c.loop-group-test.true c.group-item.is c.len.ensures c.max-most.ensures c.loop-group.invariant.0,
  at_least c.loop-group.most c.len.result c.max-most.result c.max-most.ensures c.loop-group.invariant.1,
)
  where
    at_least : (most count new : ℕ) → new ≡ ord_max nat_cmp most count → 1 ≤ most → 1 ≤ new
    at_least most count new made some = omega (arith, made ∙ greater most count)
