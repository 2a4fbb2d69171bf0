use Rattle.std.proofs.Common.{arith, ◌≡◌, suc, ◌-◌, sym, ap, ◌∙◌}
use Rattle.std.proofs.lemmas.Option.{get_or_from_slice_get, slice_get_within}
use Rattle.sheet_plan.specs.Store.{slots_start}
use Rattle.sheet_plan.proofs.Stored.{start_first, start_before}
use Rattle.sheet_plan.proofs.made.start_at.Goals as goal

pub returns-then-sheet-eq0 : goal.returns-then-sheet-eq0
returns-then-sheet-eq0 c =
    let e : c.args.sheet ≡ 0 = omega arith in
    sym (ap (slots_start 0 c.args.sheets.now) e ∙ start_first 0 c.args.sheets.now)

pub returns : goal.returns
returns c =
    let e : c.args.sheet ≡ suc (c.args.sheet - 1) = omega arith in
    start_before c.args.sheets.now c.args.sheet (c.args.sheet - 1) c.sheet_at-before.result e
    (slice_get_within c.args.sheets.now (c.args.sheet - 1) c.sheet_at-before.result c.sheet_at-before.ensures)
    (sym (get_or_from_slice_get c.args.sheets.now (c.args.sheet - 1) c.sheet_at-before.result c.sheet_at-before.result c.sheet_at-before.ensures))
