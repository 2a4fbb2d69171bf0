use Rattle.std.proofs.Common.{arith, sym, get_or}
use Rattle.std.proofs.lemmas.Option.{slice_get-get_or}
use Rattle.rules.specs.Made.{Blank}
use Rattle.rules.specs.MadePlans.{lacks_page}
use Rattle.sheet_plan.specs.OfSheets.{slots_at}
use Rattle.sheet_plan.proofs.Accepted.{any_found, any_passed, any_none}
use Rattle.sheet_plan.proofs.made_expansion.is_page_missing.Goals as goal

pub returns-then-is_missing_in : goal.returns-then-is_missing_in
returns-then-is_missing_in c =
    let xs = slots_at c.args.made.now c.args.sheet in
    let k = c.loop-slot.slot in
    sym (any_found (lacks_page c.args.pages) xs k Blank c.is_missing_in.result (omega arith) c.loop-slot.invariant (c.is_missing_in.ensures (get_or xs k Blank) (slice_get-get_or xs k Blank (omega arith))) c.if-is_missing_in.true)

pub loop-slot-preserved : goal.loop-slot-preserved
loop-slot-preserved c =
    let xs = slots_at c.args.made.now c.args.sheet in
    let k = c.loop-slot.slot in
    any_passed (lacks_page c.args.pages) xs k Blank c.is_missing_in.result (omega arith) c.loop-slot.invariant (c.is_missing_in.ensures (get_or xs k Blank) (slice_get-get_or xs k Blank (omega arith))) c.if-is_missing_in.false

pub returns : goal.returns
returns c = sym (any_none (lacks_page c.args.pages) (slots_at c.args.made.now c.args.sheet) c.loop-slot.slot (omega arith) c.loop-slot.invariant)
