-- A booklet that is asked for is read in the order of its row.
use Rattle.std.proofs.Common.{arith, ◌≡◌, ◌∙◌, ℕ, ◌*◌, ◌/◌, ◌%◌, Bool, true, false, List, Some, Option, length, map, ap, subst}
use Rattle.std.specs.Prelude.{flat_map, option_map, IfSome}
use Rattle.std.specs.List.{range_with_len}
use Rattle.rules.specs.Papers.{Paper}
use Rattle.rules.specs.Sheets.{blocks}
use Rattle.rules.specs.Signatures.{entry_of}
use Rattle.rules.specs.Choice.{sides_for}
use Rattle.rules.specs.Leaves.{faces, read_signature}
use Rattle.rules.specs.Rows.{Row, auto_leaves, in_signatures, leaves_for}
use Rattle.rules.proofs.Folded.{row_is_read}
use Rattle.layouts.specs.declared.setting.Setting.{Setting}
use Rattle.rows.specs.Sewing.{MayBeSewn, signing_of}
use Rattle.rows.specs.declared.sewing.Signing.{Signing}
use Rattle.rows.specs.declared.sewing.Signing.TheVariants as code
use Rattle.row_sheets.specs.Bound.{as_bound, faces_on}
use Rattle.row_sheets.specs.SameScale.{at_one_scale}
use Rattle.row_sheets.specs.Shapes.{filling}
use Rattle.row_sheets.proofs.Folding.{faces_read}
use Rattle.rows.specs.Printed.{laid_row}
use Rattle.row_runs.specs.Evened.{at_common_scale}
use Rattle.row_runs.specs.ReadAsBound.{AskedIsRead}
use Rattle.row_runs.specs.Sheets.{leaves_in, row_printed, sewn, sheets_laid}
use Rattle.row_runs.specs.declared.sheet_request.Laying.TheVariants as laying
use Rattle.row_sheets.specs.declared.fill.Scheme.TheVariants as scheme

-- a signature has whole leaves
four_each : (n : ℕ) → n * 4 / 4 * 4 ≡ n * 4
four_each n = omega arith

parts_of_four : (s : ℕ) → s % 4 ≡ 0 → s / 4 * 4 ≡ s
parts_of_four s h = omega (arith, h)

whole_leaves : (how : Signing) (n : ℕ) → MayBeSewn how → sides_for (signing_of how) n / 4 * 4 ≡ sides_for (signing_of how) n
whole_leaves code.InOne n may = four_each (leaves_for n)
whole_leaves (code.OfSides sides) n may = parts_of_four sides may.1
whole_leaves code.Auto n may = four_each (auto_leaves n)

may_be_sewn : (signing : Option Signing) (how : Signing) → signing ≡ Some how → IfSome signing MayBeSewn → MayBeSewn how
may_be_sewn signing how is may = subst (λ o. IfSome o MayBeSewn) is may

-- its sides have the faces of the row that is laid, also at one scale
faces_laid : (same_scale : Bool) (t : Setting) (turned_backs : Bool) (creep leaves : ℕ) (papers : List Paper) (laid : Row) (b : Bool)
    → map (as_bound b) (faces_on b turned_backs (sheets_laid (at_common_scale same_scale (laying.InCells t (scheme.Booklet turned_backs creep)) papers laid) leaves papers laid)) ≡ faces laid
faces_laid false t turned_backs creep leaves papers laid b = faces_read (filling t papers) turned_backs creep leaves laid b
faces_laid true t turned_backs creep leaves papers laid b = faces_read (filling (at_one_scale (filling t papers) laid) papers) turned_backs creep leaves laid b

pub asked_is_read : AskedIsRead
asked_is_read pages papers a made t turned_backs creep how may asked is sewn_so =
    let row = asked.row in
    let laid = row_printed a row in
    let b = t.order.right_to_left in
    let sides = sides_for (signing_of how) (length row) in
    let many = blocks sides (length row) in
    let sheets = asked.are_laid ∙ ap (λ l. sheets_laid (at_common_scale a.same_scale l papers laid) (leaves_in (sewn a) row) papers laid) is in
    let faces_are : map (as_bound b) (faces_on b turned_backs made) ≡ faces laid =
    ap (λ m. map (as_bound b) (faces_on b turned_backs m)) sheets ∙ faces_laid a.same_scale t turned_backs creep (leaves_in (sewn a) row) papers laid b in
    let laid_is : laid ≡ in_signatures sides row = ap (λ s. laid_row a.row.begun (option_map signing_of s) row) sewn_so in
    let whole = whole_leaves how (length row) (may_be_sewn a.row.signing how sewn_so may.sewn) in
    ap (λ all. flat_map (read_signature (sides / 4) all) (range_with_len 0 many)) (faces_are ∙ ap faces laid_is)
    ∙ subst (λ s. flat_map (read_signature (sides / 4) (faces (in_signatures s row))) (range_with_len 0 (blocks s (length row))) ≡ map (entry_of row) (range_with_len 0 (blocks s (length row) * s)))
    whole (row_is_read (sides / 4) row)
