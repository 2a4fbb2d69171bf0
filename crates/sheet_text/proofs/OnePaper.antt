-- A job of one paper: its sheets are those of the plan, and its output is that of the specification that the plan is of.
use Rattle.std.proofs.Common.{ℕ, zero, suc, List, [], ◌∷◌, Option, Some, None, ◌+◌, ◌≡◌, ap, sym, refl, ◌∙◌, length}
use Rattle.std.specs.Prelude.{map, slice_get, slice_index_or}
use Rattle.std.specs.List.{enumerate_from}
use Rattle.std.proofs.lemmas.Option.{same_Some, none-some}
use Rattle.rules.specs.Papers.{Paper}
use Rattle.rules.specs.Parts.{NestedUnit, pages}
use Rattle.rules.specs.Sheets.{Plan, Slot}
use Rattle.rules.specs.Signatures.{sheets_in}
use Rattle.rules.specs.Specification.{Spec, Item}
use Rattle.rules.specs.Output.{Frame, output, sheet_text}
use Rattle.rules.specs.Made.{Blank, made_slot, made_of}
use Rattle.rules.specs.Dress.{undressed}
use Rattle.rules.specs.Dressed.{DressedSheet, dressed_in, dressed_sheets, dressed_sheet_text}
use Rattle.rules.specs.MadePlans.{page_of}
use Rattle.rules.proofs.Dressed.{dressed_is_made}
use Rattle.rules.proofs.Made.{made_is_output, sheet_same}
use Rattle.sheet_plan.specs.Plans.{planned_in, pages_on, items_on}
use Rattle.sheet_text.specs.Jobs.{AreOfPlan, no_sheet, of_frame, output_of, text_of}
use Rattle.sheet_text.proofs.Outputs.{output_dressed}

-- ---- the pages of the sheets are those of the plan
slot_page : (paper : Paper) (slot : Slot) (page : Option ℕ) → page_of (made_slot paper page slot.item) ≡ page
slot_page paper slot None = refl
slot_page paper slot (Some p) = refl

row_pages : (paper : Paper) (slots : List Slot) → map page_of (map (λ slot. made_slot paper slot.page slot.item) slots) ≡ map (λ slot. slot.page) slots
row_pages paper [] = refl
row_pages paper (slot ∷ slots) =
    ap (λ p. p ∷ map page_of (map (λ next. made_slot paper next.page next.item) slots)) (slot_page paper slot slot.page)
    ∙ ap (λ ps. slot.page ∷ ps) (row_pages paper slots)

all_pages : (paper : Paper) (k : ℕ) (all : List (List Slot)) → map (λ sheet. map page_of sheet.slots) (map (λ (s, sheet). dressed_in undressed s sheet) (enumerate_from k (made_of paper all))) ≡ map (λ slots. map (λ slot. slot.page) slots) all
all_pages paper k [] = refl
all_pages paper k (slots ∷ all) =
    ap (λ row. row ∷ map (λ sheet. map page_of sheet.slots) (map (λ (s, sheet). dressed_in undressed s sheet) (enumerate_from (k + 1) (made_of paper all)))) (row_pages paper slots)
    ∙ ap (λ rows. map (λ slot. slot.page) slots ∷ rows) (all_pages paper (k + 1) all)

pub of_plan : (paper : Paper) (plan : Plan) → AreOfPlan plan (dressed_sheets undressed (made_of paper plan.sheets))
of_plan paper plan = all_pages paper 0 plan.sheets

-- ---- a sheet
abbrev plain : Paper → List Slot → DressedSheet
plain paper slots = record { start = []; slots = map (λ slot. made_slot paper slot.page slot.item) slots; finish = [] }

sheet_in : (paper : Paper) (k : ℕ) (all : List (List Slot)) (s : ℕ)
    → slice_index_or (map (λ (n, sheet). dressed_in undressed n sheet) (enumerate_from k (made_of paper all))) s no_sheet ≡ plain paper (slice_index_or all s [])
sheet_in paper k [] s = refl
sheet_in paper k (slots ∷ all) zero = refl
sheet_in paper k (slots ∷ all) (suc s) = sheet_in paper (k + 1) all s

-- it has no lines, and the slots of the plan
pub sheet_is : (paper : Paper) (plan : Plan) (s : ℕ)
    → slice_index_or (dressed_sheets undressed (made_of paper plan.sheets)) s no_sheet ≡ plain paper (slice_index_or plan.sheets s [])
sheet_is paper plan s = sheet_in paper 0 plan.sheets s

pages_in : (all : List (List Slot)) (s : ℕ) → slice_index_or (map (λ slots. map (λ (slot : Slot). slot.page) slots) all) s [] ≡ map (λ slot. slot.page) (slice_index_or all s [])
pages_in [] s = refl
pages_in (slots ∷ all) zero = refl
pages_in (slots ∷ all) (suc s) = pages_in all s

slot_in : (paper : Paper) (slots : List Slot) (k : ℕ) (page : Option ℕ) (item : Item) → slice_get (map (λ slot. slot.page) slots) k ≡ Some page → slice_get (map (λ slot. slot.item) slots) k ≡ Some item
    → slice_get (map (λ slot. made_slot paper slot.page slot.item) slots) k ≡ Some (made_slot paper page item)
slot_in paper [] k page item paged by = absurd (none-some page paged)
slot_in paper (slot ∷ slots) zero page item paged by =
    ap (λ p. Some (made_slot paper p slot.item)) (same_Some slot.page page paged)
    ∙ ap (λ i. Some (made_slot paper page i)) (same_Some slot.item item by)
slot_in paper (slot ∷ slots) (suc k) page item paged by = slot_in paper slots k page item paged by

-- what is in a slot
pub slot_at : (paper : Paper) (plan : Plan) (s k : ℕ) (page : Option ℕ) (item : Item) → slice_get (pages_on plan s) k ≡ Some page → slice_get (items_on plan s) k ≡ Some item
    → slice_get (slice_index_or (dressed_sheets undressed (made_of paper plan.sheets)) s no_sheet).slots k ≡ Some (made_slot paper page item)
slot_at paper plan s k page item paged by =
    ap (λ (sheet : DressedSheet). slice_get sheet.slots k) (sheet_is paper plan s)
    ∙ slot_in paper (slice_index_or plan.sheets s []) k page item (ap (λ ps. slice_get ps k) (sym (pages_in plan.sheets s)) ∙ paged) by

blank_in : (paper : Paper) (slots : List Slot) (k : ℕ) → slice_get (map (λ slot. slot.page) slots) k ≡ Some None
    → slice_get (map (λ slot. made_slot paper slot.page slot.item) slots) k ≡ Some Blank
blank_in paper [] k paged = absurd (none-some None paged)
blank_in paper (slot ∷ slots) zero paged = ap (λ p. Some (made_slot paper p slot.item)) (same_Some slot.page None paged)
blank_in paper (slot ∷ slots) (suc k) paged = blank_in paper slots k paged

-- a blank one, whose item isn't asked for
pub blank_at : (paper : Paper) (plan : Plan) (s k : ℕ) → slice_get (pages_on plan s) k ≡ Some None
    → slice_get (slice_index_or (dressed_sheets undressed (made_of paper plan.sheets)) s no_sheet).slots k ≡ Some Blank
blank_at paper plan s k paged =
    ap (λ (sheet : DressedSheet). slice_get sheet.slots k) (sheet_is paper plan s)
    ∙ blank_in paper (slice_index_or plan.sheets s []) k (ap (λ ps. slice_get ps k) (sym (pages_in plan.sheets s)) ∙ paged)

-- ---- the output of a job of a specification's plan
pub output_is : (frame : Frame) (sides : Option ℕ) (spec : Spec) (us : List NestedUnit)
    → output_of (of_frame (planned_in sides spec (length (pages us))) us frame) ≡ output frame sides spec us
output_is frame sides spec us =
    output_dressed (of_frame (planned_in sides spec (length (pages us))) us frame) (of_plan frame.paper (planned_in sides spec (length (pages us))))
    ∙ dressed_is_made frame.border undressed (made_of frame.paper (sheets_in sides spec (length (pages us)))) us
    ∙ made_is_output frame sides spec us

-- ---- the text of a sheet is that of the plan's sheet
pub text_is : (frame : Frame) (plan : Plan) (us : List NestedUnit) (s : ℕ)
    → text_of (of_frame plan us frame) s ≡ sheet_text frame (pages us) s (slice_index_or plan.sheets s [])
text_is frame plan us s =
    ap (λ sheet. dressed_sheet_text frame.border (pages us) s sheet) (sheet_is frame.paper plan s)
    ∙ sheet_same frame (pages us) s (slice_index_or plan.sheets s [])
