-- The slots of a sheet and their texts.
use Rattle.std.proofs.Common.{ℕ, zero, suc, List, [], ◌∷◌, Option, Some, None, ◌+◌, ◌<◌, ◌++◌, ◌≡◌, ap, sym, refl, ◌∙◌, length, take, arith, append_assoc, append-nil}
use Rattle.std.specs.Prelude.{slice_get, slice_index_or, map, flat_map, option_map, Ok, IfSome}
use Rattle.pagespec.specs.Items.{item_of}
use Rattle.sheet_plan.specs.OfSheets.{placed_of}
use Rattle.sheet_plan.specs.declared.made.PlacedSlot.{PlacedSlot}
use Rattle.std.proofs.Math.ListN.{get_or}
use Rattle.std.proofs.Math.Seq.{take-suc}
use Rattle.std.proofs.lemmas.Option.{slice_get-map, get_or_from_slice_get, slice_get_within, same_Some}
use Rattle.std.proofs.lemmas.List.{flat_map_more, length-map}
use Rattle.rules.specs.Papers.{Paper}
use Rattle.rules.specs.Specification.{Item}
use Rattle.rules.specs.Sheets.{Plan}
use Rattle.rules.specs.Parts.{pages}
use Rattle.rules.specs.Filters.{prepared}
use Rattle.rules.specs.Output.{Border, opening_text, body_text, closing_text}
use Rattle.rules.specs.Made.{MadeSlot, Blank, Placed}
use Rattle.rules.specs.Dressed.{DressedSheet}
use Rattle.rules.specs.MadeOutput.{made_slot_text}
use Rattle.rules.specs.MadePlans.{page_of}
use Rattle.sheet_plan.specs.Plans.{pages_on, IsSound}
use Rattle.sheet_text.specs.Jobs.{JobView, AreOfPlan, no_sheet, slots_of, slots_text}

row_at : (sheets : List DressedSheet) (s : ℕ) → slice_index_or (map (λ (sheet : DressedSheet). map page_of sheet.slots) sheets) s [] ≡ map page_of (slice_index_or sheets s no_sheet).slots
row_at [] s = refl
row_at (x ∷ xs) zero = refl
row_at (x ∷ xs) (suc s) = row_at xs s

-- the pages of a sheet's slots are those of the plan
pub pages_are : (plan : Plan) (sheets : List DressedSheet) (s : ℕ) → AreOfPlan plan sheets → pages_on plan s ≡ map page_of (slice_index_or sheets s no_sheet).slots
pages_are plan sheets s of = ap (λ rows. slice_index_or rows s []) (sym of) ∙ row_at sheets s

pub slot_count : (plan : Plan) (sheets : List DressedSheet) (s : ℕ) → AreOfPlan plan sheets → length (pages_on plan s) ≡ length (slice_index_or sheets s no_sheet).slots
slot_count plan sheets s of = ap length (pages_are plan sheets s of) ∙ length-map (slice_index_or sheets s no_sheet).slots page_of

-- a slot has the page that the plan has there
pub planned : (plan : Plan) (sheets : List DressedSheet) (s k : ℕ) (found : MadeSlot) → AreOfPlan plan sheets → slice_get (slice_index_or sheets s no_sheet).slots k ≡ Some found
    → slice_get (pages_on plan s) k ≡ Some (page_of found)
planned plan sheets s k found of at =
    ap (λ xs. slice_get xs k) (pages_are plan sheets s of) ∙ slice_get-map page_of (slice_index_or sheets s no_sheet).slots k ∙ ap (option_map page_of) at

-- the page of a slot is one of the plan's
page_there : (plan : Plan) (sheets : List DressedSheet) (s k p : ℕ) (item : Item) (paper : Paper) → IsSound plan → AreOfPlan plan sheets → s < length plan.sheets
    → slice_get (slice_index_or sheets s no_sheet).slots k ≡ Some (Placed p item paper) → p < plan.pages
page_there plan sheets s k p item paper sound of lt at = sound.paged s k p lt (planned plan sheets s k (Placed p item paper) of at)

-- what was found of a slot has a page of the plan, if it has one
pub page_within : (plan : Plan) (sheets : List DressedSheet) (s k n : ℕ) (found : Option PlacedSlot) → IsSound plan → AreOfPlan plan sheets → s < length plan.sheets → plan.pages ≡ n
    → slice_get (slice_index_or sheets s no_sheet).slots k ≡ Some (placed_of found) → IfSome found (λ placed. placed.page < n)
page_within plan sheets s k n None sound of lt pages at = tt
page_within plan sheets s k n (Some placed) sound of lt pages at =
    let below = page_there plan sheets s k placed.page (item_of placed.item.now) placed.paper.now sound of lt at in omega (arith, below, pages)

pub there : (xs : List MadeSlot) (k : ℕ) → k < length xs → (it : MadeSlot) × (slice_get xs k ≡ Some it)
there [] k h = absurd (omega arith)
there (x ∷ xs) zero h = (x, refl)
there (x ∷ xs) (suc k) h = there xs k (omega arith)

-- one slot more
slot_more : (slots : List MadeSlot) (it : MadeSlot) (text : MadeSlot → List ℕ) (front : List ℕ) (k : ℕ) → slice_get slots k ≡ Some it
    → (front ++ flat_map text (take k slots)) ++ text it ≡ front ++ flat_map text (take (k + 1) slots)
slot_more slots it text front k at =
    let within : k < length slots = slice_get_within slots k it at in
    let next : suc k ≡ k + 1 = omega arith in
    flat_map_more text front (take k slots) it
    ∙ ap (λ xs. front ++ flat_map text xs)
    (ap (λ x. take k slots ++ x ∷ []) (sym (get_or_from_slice_get slots k it it at)) ∙ sym (take-suc slots k it within) ∙ ap (λ n. take n slots) next)

-- what was found of a slot is the slot
pub same_slot : (slots : List MadeSlot) (k : ℕ) (found it : MadeSlot) → slice_get slots k ≡ Some found → slice_get slots k ≡ Some it → found ≡ it
same_slot slots k found it read at = same_Some found it (sym read ∙ at)

joined : (old opened body closed : List ℕ) → ((old ++ opened) ++ body) ++ closed ≡ old ++ (opened ++ body ++ closed)
joined old opened body closed = ap (λ x. x ++ closed) (append_assoc old opened body) ∙ append_assoc old (opened ++ body) closed

-- a body with the texts that open and close it
pub placed_is : (old opened body one two three : List ℕ) → one ≡ old ++ opened → two ≡ one ++ body → three ≡ two ++ closing_text → three ≡ old ++ (opened ++ body ++ closing_text)
placed_is old opened body one two three first second third =
    third ∙ ap (λ x. x ++ closing_text) (second ∙ ap (λ x. x ++ body) first) ∙ joined old opened body closing_text

-- a body that was prepared for the page of a slot is the slot's text, opened and closed
pub slot_shelved : (border : Option Border) (texts : List (List ℕ)) (slots : List MadeSlot) (k p : ℕ) (item : Item) (paper : Paper) (it : MadeSlot) (old new raw body : List ℕ)
    → slice_get slots k ≡ Some (Placed p item paper) → slice_get slots k ≡ Some it
    → new ≡ old ++ (opening_text (record { paper = paper; border = border }) item ++ body ++ closing_text)
    → raw ≡ slice_index_or texts p [] → prepared raw ≡ Ok body → new ≡ old ++ made_slot_text border texts it
slot_shelved border texts slots k p item paper it old new raw body found at put raw_is made =
    put
    ∙ ap (λ b. old ++ (opening_text (record { paper = paper; border = border }) item ++ b ++ closing_text))
    (ap body_text (sym made) ∙ ap (λ r. body_text (prepared r)) raw_is)
    ∙ ap (λ slot. old ++ made_slot_text border texts slot) (same_slot slots k (Placed p item paper) it found at)

-- a blank slot has no text
pub slot_blank : (border : Option Border) (texts : List (List ℕ)) (slots : List MadeSlot) (k : ℕ) (it : MadeSlot) (text : List ℕ) → slice_get slots k ≡ Some Blank → slice_get slots k ≡ Some it
    → text ≡ text ++ made_slot_text border texts it
slot_blank border texts slots k it text found at = sym (append-nil text) ∙ ap (λ slot. text ++ made_slot_text border texts slot) (same_slot slots k Blank it found at)

-- a turn of the loop over the slots
pub slots_turn : (job : JobView) (s k end : ℕ) (old before after : List ℕ) → AreOfPlan job.plan job.sheets → end ≡ length (pages_on job.plan s) → k < end
    → before ≡ old ++ slots_text job (take k (slots_of job s))
    → ((it : MadeSlot) → slice_get (slots_of job s) k ≡ Some it → after ≡ before ++ made_slot_text job.border (pages job.units) it)
    → after ≡ old ++ slots_text job (take (k + 1) (slots_of job s))
slots_turn job s k end old before after of end_is below so_far next =
    let found = there (slots_of job s) k (let l = slot_count job.plan job.sheets s of in omega arith) in
    next found.0 found.1
    ∙ ap (λ t. t ++ made_slot_text job.border (pages job.units) found.0) so_far
    ∙ slot_more (slots_of job s) found.0 (made_slot_text job.border (pages job.units)) old k found.1
