use Rattle.std.proofs.Common.{arith}
use Rattle.sheet_plan.specs.OfSheets.{slots_at}
use Rattle.preview.specs.Listing.{blank_in}
use Rattle.preview.proofs.Numbered.{sum_more}
use Rattle.preview.proofs.listing.count_blanks_on.Goals as goal

pub loop-slot-preserved : goal.loop-slot-preserved
loop-slot-preserved c =
    let before = c.loop-slot.invariant.few in
    let one = c.blank-blanks.ensures.few in
    record {
      is = sum_more blank_in (slots_at c.args.sheets.now c.args.sheet) c.loop-slot.slot _ _ _ c.placed.ensures c.loop-slot.invariant.is c.blank-blanks.ensures.value;
      few = omega (arith, before, one);
    }
