-- Sheets that were made, with the lines of a dress.
use Rattle.std.proofs.Common.{ℕ, zero, suc, List, [], ◌∷◌, Some, ◌+◌, ◌<◌, ◌≡◌, ap, sym, refl, ◌∙◌, length, arith}
use Rattle.std.specs.Prelude.{map, slice_get, slice_index_or}
use Rattle.std.specs.List.{enumerate_from}
use Rattle.std.proofs.lemmas.List.{length-map}
use Rattle.std.proofs.lemmas.List.FromFn.{length-enumerate_from}
use Rattle.std.proofs.lemmas.Option.{none-some, same_Some}
use Rattle.rules.specs.Papers.{Paper}
use Rattle.rules.specs.Sheets.{Plan, layout}
use Rattle.rules.specs.Made.{MadeSlot, MadeSheet}
use Rattle.rules.specs.Dress.{Dress}
use Rattle.rules.specs.Dressed.{DressedSheet, dressed_in, dressed_sheets}
use Rattle.rules.specs.MadePlans.{page_of}
use Rattle.sheet_plan.specs.OfSheets.{slot_in, slots_at, made_plan}
use Rattle.sheet_text.specs.Dressings.{dress_in, report_lines_if, with_numbers}
use Rattle.sheet_text.specs.Jobs.{AreOfPlan, no_sheet}
use Rattle.sheet_text.specs.declared.dress.SheetDress as code
use Rattle.sheet_text.proofs.Outputs.{as_many}

-- sheets that are numbered from n on
abbrev from : Dress → (n : ℕ) → List MadeSheet → List DressedSheet
from dress n all = map (λ (s, sheet). dressed_in dress s sheet) (enumerate_from n all)

-- ---- the pages of the sheets are those of the plan
row_same : (slots : List MadeSlot) → map page_of slots ≡ map (λ slot. slot.page) (map slot_in slots)
row_same [] = refl
row_same (slot ∷ slots) = ap (λ ps. page_of slot ∷ ps) (row_same slots)

rows_same : (dress : Dress) (n : ℕ) (all : List MadeSheet)
    → map (λ (sheet : DressedSheet). map page_of sheet.slots) (from dress n all) ≡ map (λ slots. map (λ slot. slot.page) slots) (map (λ (sheet : MadeSheet). map slot_in sheet.slots) all)
rows_same dress n [] = refl
rows_same dress n (sheet ∷ all) =
    ap (λ row. row ∷ map (λ (next : DressedSheet). map page_of next.slots) (from dress (n + 1) all)) (row_same sheet.slots)
    ∙ ap (λ rows. map (λ slot. slot.page) (map slot_in sheet.slots) ∷ rows) (rows_same dress (n + 1) all)

pub of_plan : (plan : Plan) (dress : Dress) (all : List MadeSheet) → plan ≡ made_plan plan.pages all → AreOfPlan plan (dressed_sheets dress all)
of_plan plan dress all is = rows_same dress 0 all ∙ ap (λ (p : Plan). (layout p).sheets) (sym is)

-- ---- a sheet
pub counted : (plan : Plan) (sheets : List DressedSheet) (dress : Dress) (all : List MadeSheet) (s : ℕ) → dressed_sheets dress all ≡ sheets → AreOfPlan plan sheets → s < length plan.sheets
    → s < length all
counted plan sheets dress all s is of lt =
    let n : length (dressed_sheets dress all) ≡ length all = length-map (enumerate_from 0 all) _ ∙ length-enumerate_from 0 all in
    let m : length (dressed_sheets dress all) ≡ length plan.sheets = ap (λ xs. length xs) is ∙ as_many plan sheets of in
    omega (arith, n, m, lt)

start_in : (d : code.SheetDress) (n : ℕ) (all : List MadeSheet) (s : ℕ) (p : Paper) → slice_get (map (λ sheet. sheet.paper) all) s ≡ Some p
    → report_lines_if d.reports_papers p ≡ (slice_index_or (from (dress_in d) n all) s no_sheet).start
start_in d n [] s p at = absurd (none-some p at)
start_in d n (x ∷ all) zero p at = ap (report_lines_if d.reports_papers) (sym (same_Some x.paper p at))
start_in d n (x ∷ all) (suc s) p at = start_in d (n + 1) all s p at

-- the lines at its start
pub start_at : (d : code.SheetDress) (all : List MadeSheet) (s : ℕ) (p : Paper) → slice_get (map (λ sheet. sheet.paper) all) s ≡ Some p
    → report_lines_if d.reports_papers p ≡ (slice_index_or (dressed_sheets (dress_in d) all) s no_sheet).start
start_at d all s p at = start_in d 0 all s p at

finish_in : (d : code.SheetDress) (n : ℕ) (all : List MadeSheet) (i s : ℕ) → i < length all → s ≡ n + i
    → with_numbers d.numbers d.finish s ≡ (slice_index_or (from (dress_in d) n all) i no_sheet).finish
finish_in d n [] i s lt is = absurd (omega (arith, lt))
finish_in d n (x ∷ all) zero s lt is = let same : s ≡ n = omega (arith, is) in ap (with_numbers d.numbers d.finish) same
finish_in d n (x ∷ all) (suc i) s lt is = finish_in d (n + 1) all i s (omega (arith, lt)) (omega (arith, is))

-- those at its end
pub finish_at : (d : code.SheetDress) (all : List MadeSheet) (s : ℕ) → s < length all
    → with_numbers d.numbers d.finish s ≡ (slice_index_or (dressed_sheets (dress_in d) all) s no_sheet).finish
finish_at d all s lt = finish_in d 0 all s s lt (omega arith)

slots_in : (dress : Dress) (n : ℕ) (all : List MadeSheet) (s : ℕ) → (slice_index_or (from dress n all) s no_sheet).slots ≡ slots_at all s
slots_in dress n [] s = refl
slots_in dress n (x ∷ all) zero = refl
slots_in dress n (x ∷ all) (suc s) = slots_in dress (n + 1) all s

-- its slots
pub slots_are : (dress : Dress) (all : List MadeSheet) (s : ℕ) → (slice_index_or (dressed_sheets dress all) s no_sheet).slots ≡ slots_at all s
slots_are dress all s = slots_in dress 0 all s
