use Rattle.std.proofs.Common.{rules, arith, ap, ◌≡◌, ◌<◌, length}
use Rattle.dsc.specs.Views.{unit_of, at_depth}
use Rattle.dsc.specs.Filters.{is_dropped}
use Rattle.dsc.specs.declared.filters.Drops.TheVariants.{PageSetup}
use Rattle.dsc.proofs.Scans.{scan_more, fewer}
use Rattle.dsc.proofs.BodyMarks.{sought_more}
use Rattle.dsc.proofs.PageBodies.{all_found}
use Rattle.dsc.proofs.Walking.{less_left, still_placed}
use Rattle.dsc.proofs.scan.scan.Goals as goal

pub step-requires : goal.step-requires
step-requires c = c.is_done.ensures.going c.loop-walk-test.true

pub loop-walk-preserved : goal.loop-walk-preserved
loop-walk-preserved c =
    let p = c.loop-walk.walk in
    let step = c.in_ok-step.ensures in
    let some : 0 < length p.rest = c.is_done.ensures.going c.loop-walk-test.true in
    record {
      placed = still_placed p c.step.new.self (unit_of c.in_ok-step.step.unit) _ step.place step.piece.within c.loop-walk.invariant.placed;
      so_far =
          scan_more 1_000_001 (omega arith) c.loop-walk.seen.starts.items _ c.loop-walk.seen.stop _ p c.step.new.self (unit_of c.in_ok-step.step.unit) c.in_ok-step.step.at _ _ _ some step.piece step.place step.at
          step.page step.trailer c.in_ok-note_unit.ensures.starts c.in_ok-note_unit.ensures.stop c.loop-walk.invariant.so_far;
      bodies = λ few.
          sought_more c.loop-walk.bodies _ p c.step.new.self (unit_of c.in_ok-step.step.unit) c.in_ok-step.step.at _ _ _ _ some step.piece step.place step.at
          step.page step.trailer (ap (λ d. is_dropped PageSetup c.loop-walk.bodies.was (at_depth d (unit_of c.in_ok-step.step.unit))) step.depth)
          (c.in_ok-note_unit.ensures.bodies few) (c.loop-walk.invariant.bodies (fewer 1_000_001 1_000_001 _ _ _ _ _ _ c.in_ok-note_unit.ensures.starts few));
    }

pub returns-clause-bodies : goal.returns-clause-bodies
returns-clause-bodies c = λ few.
    let none : length c.loop-walk.walk.rest ≡ 0 = search rules in
    all_found c.args.text.now c.loop-walk.walk.rest _ c.loop-walk.bodies _ _ none (c.loop-walk.invariant.bodies few) c.in_ok-bodies.ensures

pub loop-walk-smaller : goal.loop-walk-smaller
loop-walk-smaller c =
    less_left c.loop-walk.walk c.step.new.self (unit_of c.in_ok-step.step.unit) c.in_ok-step.ensures.place (c.is_done.ensures.going c.loop-walk-test.true) c.in_ok-step.ensures.piece.some
