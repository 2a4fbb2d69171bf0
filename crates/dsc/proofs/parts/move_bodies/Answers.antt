use Rattle.std.proofs.Common.{ℕ, arith, get_or}
use Rattle.std.proofs.lemmas.List.{get_or_default}
use Rattle.std.proofs.lemmas.List.Edits.{map_over_more}
use Rattle.dsc.specs.Later.{later_found}
use Rattle.dsc.proofs.parts.move_bodies.Goals as goal

pub loop-body-preserved : goal.loop-body-preserved
loop-body-preserved c =
    let old : ℕ = get_or c.loop-body.body-items c.loop-body.body-index 0 in
    rw c.later_found.ensures
    (map_over_more (later_found c.args.by) c.deref_mut-body-items.result.now c.loop-body.body-items c.loop-body.body-index old c.loop-body-test.true c.loop-body.invariant
    (get_or_default c.loop-body.body-items c.loop-body.body-index 0 old (omega (arith, c.loop-body-test.true, c.loop-body.auto.body-items))))
