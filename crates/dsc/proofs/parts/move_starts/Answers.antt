use Rattle.std.proofs.Common.{ℕ, arith, get_or}
use Rattle.std.proofs.lemmas.List.{get_or_default}
use Rattle.std.proofs.lemmas.List.Edits.{map_over_more}
use Rattle.dsc.specs.Later.{later}
use Rattle.dsc.proofs.parts.move_starts.Goals as goal

pub loop-start-preserved : goal.loop-start-preserved
loop-start-preserved c =
    let old : ℕ = get_or c.loop-start.start-items c.loop-start.start-index 0 in
    map_over_more (later c.args.by) c.deref_mut-start-items.result.now c.loop-start.start-items c.loop-start.start-index old c.loop-start-test.true c.loop-start.invariant
    (get_or_default c.loop-start.start-items c.loop-start.start-index 0 old (omega (arith, c.loop-start-test.true, c.loop-start.auto.start-items)))
