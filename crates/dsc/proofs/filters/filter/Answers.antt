use Rattle.std.proofs.Common.{arith, ◌<◌, ◌++◌, ◌∙◌, [], take, drop, length, ap, sym, if◌then◌else◌, length-drop}
use Rattle.dsc.specs.Filters.{is_dropped}
use Rattle.dsc.specs.Views.{unit_of, at_depth}
use Rattle.dsc.proofs.Filtering.{filter_more}
use Rattle.dsc.proofs.Walking.{less_left}
use Rattle.dsc.proofs.filters.filter.Goals as goal

pub step-requires : goal.step-requires
step-requires c = c.is_done.ensures.going c.loop-drops-test.true

pub go_on-requires : goal.go_on-requires
go_on-requires c =
    let k = c.loop-drops.kept in
    let i = c.loop-drops.invariant in
    let same = ap length i.after in
    let left = length-drop k.run_len k.run.now in
    let fits = c.in_ok-step.ensures.piece.within in
    omega (arith, same, left, fits, i.within)

pub loop-drops-preserved : goal.loop-drops-preserved
loop-drops-preserved c =
    let p = c.loop-drops.walk in
    let k = c.loop-drops.kept in
    let u = unit_of c.in_ok-step.step.unit in
    let i = c.loop-drops.invariant in
    let step = c.in_ok-step.ensures in
    let some : 0 < length p.rest = c.is_done.ensures.going c.loop-drops-test.true in
    record {
      within = c.in_ok-go_on.ensures.within;
      after = c.in_ok-go_on.ensures.rest ∙ ap (drop (length u.bytes)) i.after ∙ sym (ap (λ q. q.rest) step.place);
      so_far =
          filter_more c.args.drops c.loop-drops.was c.drops_unit-was.result ((k.copied.items ++ k.held.now) ++ take k.run_len k.run.now) _ p c.step.new.self u _ some step.piece step.place
          (c.drops_unit-was.ensures ∙ ap (λ d. is_dropped c.args.drops c.loop-drops.was (at_depth d u)) step.depth)
          (c.in_ok-go_on.ensures.kept ∙ ap (λ t. ((k.copied.items ++ k.held.now) ++ take k.run_len k.run.now) ++ (if c.drops_unit-was.result then [] else take (length u.bytes) t)) i.after)
          i.so_far;
    }

pub loop-drops-smaller : goal.loop-drops-smaller
loop-drops-smaller c =
    less_left c.loop-drops.walk c.step.new.self (unit_of c.in_ok-step.step.unit) c.in_ok-step.ensures.place (c.is_done.ensures.going c.loop-drops-test.true) c.in_ok-step.ensures.piece.some
