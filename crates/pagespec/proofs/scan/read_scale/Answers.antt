use Rattle.pagespec.proofs.Scans.{scale_kept, scale_lost, not_number}
use Rattle.pagespec.proofs.MeasureStuck.{scale_stuck}
use Rattle.pagespec.proofs.scan.read_scale.Goals as goal

pub stop_in_number-requires : goal.stop_in_number-requires
stop_in_number-requires c = not_number _ c.in-Err-NotANumber.field-0 c.in-Err-NotANumber.field-0-is c.in-Err-NotANumber.ensures.none

pub returns-in-Ok : goal.returns-in-Ok
returns-in-Ok c = scale_kept _ _ _ _ c.in-Ok.ensures.found.1 c.split_at.ensures.back c.in-Ok.ensures.longest.1

pub returns-in-Err-TooLarge : goal.returns-in-Err-TooLarge
returns-in-Err-TooLarge c =
    scale_lost _ _ c.in-Err-TooLarge.len c.in-Err-TooLarge.field-0 c.in-Err-TooLarge.field-0-is c.in-Err-TooLarge.ensures.none c.split_at-in-Err-TooLarge.ensures.back

pub returns-in-Err-NotANumber : goal.returns-in-Err-NotANumber
returns-in-Err-NotANumber c = scale_stuck c.args.bytes.now _ c.stop_in_number.ensures
