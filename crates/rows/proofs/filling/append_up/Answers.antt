use Rattle.std.proofs.Common.{◌+◌, ◌-◌, ◌++◌, ◌∙◌, ◌≡◌, ap, arith, map, Some}
use Rattle.std.specs.List.{range_with_len}
use Rattle.rules.specs.Rows.{Row}
use Rattle.rows.proofs.Between.{one_more, all_up, pages_up}
use Rattle.rows.proofs.filling.append_up.Goals as goal

pub push_reserved-requires : goal.push_reserved-requires
push_reserved-requires c = omega (arith, pages_up c.args.first c.args.last c.requires.last, c.requires.room, c.loop-i.invariant.1, c.loop-i.invariant.2, c.loop-i-test.true, c.loop-i.auto.i-end)

pub loop-i-preserved : goal.loop-i-preserved
loop-i-preserved c = (
  one_more (λ i. Some (c.args.first - 1 + i)) c.args.row.now.items c.loop-i.row.items _ c.loop-i.i c.loop-i.invariant.0 c.push_reserved.ensures.items,
  omega (arith, c.push_reserved.ensures.len, c.loop-i.invariant.1),
  c.push_reserved.ensures.capacity ∙ c.loop-i.invariant.2,
)

pub returns-clause-appended : goal.returns-clause-appended
returns-clause-appended c =
    let all : c.loop-i.i ≡ c.args.last - c.args.first + 1 = omega (arith, c.loop-i-test.false, c.loop-i.auto.i-end) in
    c.loop-i.invariant.0
    ∙ ap (λ n. c.args.row.now.items ++ map (λ i. Some (c.args.first - 1 + i)) (range_with_len 0 n)) all
    ∙ ap (λ (r : Row). c.args.row.now.items ++ r) (all_up c.args.first c.args.last c.requires.first c.requires.last)
