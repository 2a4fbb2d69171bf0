use Rattle.std.proofs.Common.{subst}
use Rattle.pagespec.proofs.Scans.{measure_kept, measure_lost, too_large}
use Rattle.pagespec.proofs.MeasureStuck.{measure_stuck, measure_ended, UnitStuck}
use Rattle.pagespec.proofs.Scans.{not_number}
use Rattle.pagespec.proofs.scan.read_measure.Goals as goal

pub stop_in_number-requires : goal.stop_in_number-requires
stop_in_number-requires c = not_number _ c.in-Err-NotANumber.field-0 c.in-Err-NotANumber.field-0-is c.in-Err-NotANumber.ensures.none

pub returns-in-Ok : goal.returns-in-Ok
returns-in-Ok c = (
  measure_kept _ _ _ _ _ _ c.in-Ok.ensures.found.1 c.split_at.ensures.back c.in-Ok.ensures.longest.1 c.read_unit-unit.ensures.unit c.read_unit-unit.ensures.rest,
  measure_ended c.args.bytes.now _ _ _ _ c.in-Ok.ensures.found.1 (subst (λ x. UnitStuck x c.read_unit-unit.result.1.text.now c.read_unit-unit.result.1.stuck.left) c.split_at.ensures.back c.read_unit-unit.ensures.stuck),
)

pub returns-in-Err-TooLarge : goal.returns-in-Err-TooLarge
returns-in-Err-TooLarge c = (
  measure_lost _ _ _ c.in-Err-TooLarge.len c.in-Err-TooLarge.field-0 _ c.in-Err-TooLarge.field-0-is c.in-Err-TooLarge.ensures.none c.split_at-in-Err-TooLarge.ensures.back
      c.read_unit.ensures.unit c.read_unit.ensures.rest,
  measure_ended c.args.bytes.now _ _ _ _ (too_large _ _ _ c.in-Err-TooLarge.field-0-is c.in-Err-TooLarge.ensures.none).2
      (subst (λ x. UnitStuck x c.read_unit.result.1.text.now c.read_unit.result.1.stuck.left) c.split_at-in-Err-TooLarge.ensures.back c.read_unit.ensures.stuck),
)

pub returns-in-Err-NotANumber : goal.returns-in-Err-NotANumber
returns-in-Err-NotANumber c = measure_stuck c.args.bytes.now _ c.stop_in_number.ensures
