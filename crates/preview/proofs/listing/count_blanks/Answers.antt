use Rattle.std.proofs.Common.{arith, ap, ◌∙◌}
use Rattle.rules.specs.Made.{MadeSheet}
use Rattle.preview.specs.Listing.{blanks_on}
use Rattle.preview.proofs.Numbered.{sum_more, there, slots_are}
use Rattle.preview.proofs.listing.count_blanks.Goals as goal

pub loop-sheet-preserved : goal.loop-sheet-preserved
loop-sheet-preserved c =
    let all = c.args.sheets.now in
    let s = c.loop-sheet.sheet in
    let here = there all s (omega arith) in
    let before = c.loop-sheet.invariant.few in
    record {
      is = sum_more (λ (sheet : MadeSheet). blanks_on sheet.slots) all s here.0 _ _ here.1 c.loop-sheet.invariant.is
          (c.from-blanks.ensures ∙ c.count_blanks_on.ensures ∙ ap blanks_on (slots_are all s here.0 here.1));
      few = omega (arith, before);
    }
