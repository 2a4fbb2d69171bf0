-- What a machine prints of two runs of impose, one on what the other wrote.
use Rattle.std.specs.Prelude.{Option, Ok, nat_lt, slice_index_or, flat_map}
use Rattle.std.specs.List.{enumerate_from}
use Rattle.std.proofs.Common.{◌≡◌, ℕ, zero, suc, ◌<◌, ◌≤◌, refl, ap, ◌∙◌, sym, subst, true, false, List, [], ◌∷◌, ◌++◌, map, append-nil, length, arith}
use Rattle.std.proofs.lemmas.Bool.{ltb-true, ltb-false}
use Rattle.std.proofs.lemmas.List.{get_or-map, get_or_past, length-map}
use Rattle.std.proofs.lemmas.List.FromFn.{length-enumerate_from, get_or-enumerate_from}
use Rattle.rules.specs.Specification.{Item}
use Rattle.rules.specs.Papers.{Paper}
use Rattle.rules.specs.Signatures.{sheets_in}
use Rattle.rules.specs.Parts.{NestedUnit, pages, preamble, page_run, bytes_of}
use Rattle.rules.specs.Run.{document_of, most_input_bytes, most_pages}
use Rattle.rules.specs.Filters.{prepared}
use Rattle.rules.specs.Output.{Border, Frame, body_text, output}
use Rattle.rules.specs.Made.{MadeSlot, Blank, Placed, MadeSheet}
use Rattle.rules.specs.Dress.{Dress, undressed}
use Rattle.rules.specs.MadeOutput.{made_sheet_text, made_output}
use Rattle.rules.proofs.Made.{made_is_output}
use Rattle.dsc.specs.Units.{units_of}
use Rattle.imposed_again.specs.Again.{open_depth}
use Rattle.imposed_again.specs.MadeAgain.{IsTameDress, made_texts}
use Rattle.imposed_again.proofs.MadeAgain.{made_is_document}
use Rattle.guard.specs.Guard.{guarded}
use Rattle.guard.proofs.TheGuard.{guard_stays}
use Rattle.pictures.specs.Objects.{Token}
use Rattle.pictures.specs.Machine.{State, Painting, Runs}
use Rattle.pictures.specs.Scanner.{Between, ended_token, tokens, EndsBetweenTokens}
use Rattle.pictures.specs.Sheets.{Numbers, Shown, sheet_picture, sheet_tokens}
use Rattle.pictures.specs.Kept.{page_comments_apart, comments_apart_with}
use Rattle.pictures.specs.Documents.{started, numbers_of, page_frame, document_page, body_of_page, shown_slot, shown_sheet, pages_past, OnSlotsFrom, OnSheetsFrom, OnSlots, OnSheets, PreambleRuns, all_sheets}
use Rattle.pictures.specs.Imposed.{IsQuiet, MadeIsPrinted}
use Rattle.pictures.proofs.DocumentRun.{everywhere_on}
use Rattle.pictures.proofs.Kept.{kept_runs_alike}
use Rattle.pictures.proofs.NumberTokens.{Reads}
use Rattle.pictures.proofs.Sheets.{Stays, still}
use Rattle.pictures.proofs.Output.{AreComplete, sheet_read, on_slots, on_sheets, BodyPlaces, Bodies, undressed_is_quiet, by_specification}
use Rattle.pictures.proofs.Tests.{by_test}
use Rattle.pictures.specs.Shelter.{beginning, outline_tokens, sheltered, PaintsSheltered}
use Rattle.pictures.specs.Pages.{IsGuarded, AllSheltered, outline_of}
use Rattle.pictures.specs.SheetsOfSheets.{page_round, page_begun, TakesSheets, PagePaintsWithin}
use Rattle.pictures.specs.TwoMadeRuns.{empty_sheet, sheet_at, made_run_picture, SheetPaintsWithin, TwoMadeRunsAreShown, TwoRunsAreShown}
use Rattle.pictures.proofs.GuardedSheets.{page_places}
use Rattle.pictures.proofs.SheetsOfSheets.{sheet_places, sheet_leaves}
use Rattle.pictures.proofs.Documents.{guarded_is_shown}

-- A sheet that is on another one.

-- whatever pages are before it
anyhow : (P : Paper → ℕ → Type 0) (k l : ℕ) (slots : List MadeSlot) → OnSlotsFrom (λ i. P) k slots → OnSlotsFrom (λ i. P) l slots
anyhow P k l [] h = tt
anyhow P k l (Blank ∷ slots) h = anyhow P k l slots h
anyhow P k l (Placed p item own ∷ slots) h = (h.0, anyhow P (suc k) (suc l) slots h.1)

-- what is so of the pages on all sheets is so of those on one
on_sheet : (P : Paper → ℕ → Type 0) (k : ℕ) (all : List MadeSheet) (p : ℕ) → OnSheetsFrom (λ i. P) k all → OnSlots P (sheet_at all p).slots
on_sheet P k [] p h = tt
on_sheet P k (sheet ∷ all) zero h = anyhow P k 0 sheet.slots h.0
on_sheet P k (sheet ∷ all) (suc p) h = on_sheet P (pages_past k sheet.slots) all p h.1

-- what is kept of a page within
abbrev Within : Option Border → List NestedUnit → (ℕ → List Painting) → Frame → State → ℕ → Paper → ℕ → Type 0
Within border us picture outer s k own p =
    EndsBetweenTokens (body_of_page us p)
    × ((item : Item)
    → PaintsSheltered (page_round [] s (numbers_of outer item) ∷ []) (page_begun [] s (numbers_of outer item)) (outline_of (page_frame border own)) (tokens (body_of_page us p)) (picture p))

body_paints : (border : Option Border) (us : List NestedUnit) (picture : ℕ → List Painting) (outer : Frame) (s : State) (k : ℕ) (own : Paper) (p : ℕ)
    → PagePaintsWithin (page_frame border own) us outer s p (picture p) → Within border us picture outer s k own p
body_paints border us picture outer s k own p (complete, apart, h) =
    let alike = kept_runs_alike (document_page us p) apart complete in (
      alike.1,
      λ item. subst (λ ts. PaintsSheltered (page_round [] s (numbers_of outer item) ∷ []) (page_begun [] s (numbers_of outer item)) (outline_of (page_frame border own)) ts (picture p)) (sym alike.0) (h item),
    )

slots_within : (border : Option Border) (us : List NestedUnit) (outer : Frame) (picture : ℕ → List Painting) (s : State) (at : Item) (k : ℕ) (slots : List MadeSlot)
    → OnSlotsFrom (Within border us picture outer s) k slots
    → AllSheltered (page_round [] s (numbers_of outer at) ∷ []) (page_begun [] s (numbers_of outer at)) (flat_map (shown_slot border us picture) slots)
slots_within border us outer picture s at k [] h = tt
slots_within border us outer picture s at k (Blank ∷ slots) h = slots_within border us outer picture s at k slots h
slots_within border us outer picture s at k (Placed p item own ∷ slots) h = (h.0.1 at, slots_within border us outer picture s at (suc k) slots h.1)

-- the text of a page of the second document is that of a sheet of the first run
made_sheet_of : (border : Option Border) (dress : Dress) (texts : List (List ℕ)) (all : List MadeSheet) (p : ℕ) → p < length all
    → slice_index_or (made_texts border dress texts all) p [] ≡ made_sheet_text border dress texts p (sheet_at all p)
made_sheet_of border dress texts all p less =
    get_or-map (λ (k, sheet). made_sheet_text border dress texts k sheet) (enumerate_from 0 all) p (0, empty_sheet) [] (subst (λ n. p < n) (sym (length-enumerate_from 0 all)) less)
    ∙ ap (λ (k, sheet). made_sheet_text border dress texts k sheet) (get_or-enumerate_from 0 all p (0, empty_sheet) less)
    ∙ ap (λ k. made_sheet_text border dress texts k (sheet_at all p)) (omega arith)

made_texts_counted : (border : Option Border) (dress : Dress) (texts : List (List ℕ)) (all : List MadeSheet) → length (made_texts border dress texts all) ≡ length all
made_texts_counted border dress texts all = length-map (enumerate_from 0 all) (λ (k, sheet). made_sheet_text border dress texts k sheet) ∙ length-enumerate_from 0 all

-- a text that is read to its end has these tokens
read_is : (text : List ℕ) (ts : List Token) → Reads Between text ts Between → (tokens text ≡ ts) × EndsBetweenTokens text
read_is text ts e = (ap (λ x. x.0 ++ ended_token x.1) e ∙ append-nil ts, ap (λ x. x.1) e)

-- Each page of the second document is placed.

-- a number that no page has means an empty text
empty_places : (s : State) (n : Numbers) → TakesSheets [] s → Stays (Runs false) s (record { placed = record { numbers = n; body = [] }; picture = [] })
empty_places s n t =
    page_places [] s (record { placed = record { numbers = n; body = [] }; picture = [] }) t.takes
    (record { end = sheltered [] s (outline_tokens n) []; run = (zero, refl); leaves = sheet_leaves [] s n [] s.painted s.sheets t; picture_is = refl })

sheet_again : (border : Option Border) (dress : Dress) (us : List NestedUnit) (outer : Frame) (picture : ℕ → List Painting) (s : State) (all : List MadeSheet) (again : List NestedUnit) (k p : ℕ)
    → IsQuiet dress → TakesSheets [] s → OnSlotsFrom (Within border us picture outer s) 0 (sheet_at all p).slots → pages again ≡ made_texts border dress (pages us) all
    → page_comments_apart (document_page again p) ≡ true → p < length all
    → BodyPlaces (Runs false) (still s) outer again k p (made_run_picture border us picture s all p)
sheet_again border dress us outer picture s all again k p q t here same apart less =
    let sheet : MadeSheet = sheet_at all p in
    let xs : List Shown = shown_sheet border us picture sheet in
    let whole : OnSlotsFrom (AreComplete us) 0 sheet.slots = on_slots (Within border us picture outer s) (AreComplete us) (λ i own n x. x.0) 0 sheet.slots here in
    let text : document_page again p ≡ made_sheet_text border dress (pages us) p sheet = ap (λ ps. slice_index_or ps p []) same ∙ made_sheet_of border dress (pages us) all p less in
    let read = read_is (made_sheet_text border dress (pages us) p sheet) (sheet_tokens (map (λ x. x.placed) xs)) (sheet_read border dress us picture q p 0 sheet whole) in
    let alike = kept_runs_alike (document_page again p) apart (subst (λ b. EndsBetweenTokens b) (sym text) read.1) in
    let body : tokens (body_of_page again p) ≡ sheet_tokens (map (λ x. x.placed) xs) = alike.0 ∙ ap tokens text ∙ read.0 in (
      alike.1,
      λ item. subst (λ ts. Stays (Runs false) s (record { placed = record { numbers = numbers_of outer item; body = ts }; picture = made_run_picture border us picture s all p })) (sym body)
          (sheet_places [] s (numbers_of outer item) xs t (slots_within border us outer picture s item 0 sheet.slots here)),
    )

no_sheet : (border : Option Border) (dress : Dress) (us : List NestedUnit) (outer : Frame) (picture : ℕ → List Painting) (s : State) (all : List MadeSheet) (again : List NestedUnit) (k p : ℕ)
    → TakesSheets [] s → pages again ≡ made_texts border dress (pages us) all → length all ≤ p → BodyPlaces (Runs false) (still s) outer again k p (made_run_picture border us picture s all p)
no_sheet border dress us outer picture s all again k p t same past =
    let text : document_page again p ≡ [] = ap (λ ps. slice_index_or ps p []) same ∙ get_or_past (made_texts border dress (pages us) all) p [] (subst (λ n. n ≤ p) (sym (made_texts_counted border dress (pages us) all)) past) in
    let none : sheet_at all p ≡ empty_sheet = get_or_past all p empty_sheet past in
    let at : List ℕ → MadeSheet → Type 0 = λ page here. EndsBetweenTokens (body_text (prepared page))
    × ((item : Item) → Stays (Runs false) s (record { placed = record { numbers = numbers_of outer item; body = tokens (body_text (prepared page)) }; picture = sheet_picture (beginning s) (shown_sheet border us picture here) [] })) in
    subst (λ page. at page (sheet_at all p)) (sym text) (subst (λ here. at [] here) (sym none) (refl, λ item. empty_places s (numbers_of outer item) t))

each_again : (border : Option Border) (dress : Dress) (us : List NestedUnit) (outer : Frame) (picture : ℕ → List Painting) (s : State) (all : List MadeSheet) (again : List NestedUnit) (k p : ℕ)
    → IsQuiet dress → TakesSheets [] s → OnSlots (λ own n. PagePaintsWithin (page_frame border own) us outer s n (picture n)) (sheet_at all p).slots → pages again ≡ made_texts border dress (pages us) all
    → page_comments_apart (document_page again p) ≡ true → BodyPlaces (Runs false) (still s) outer again k p (made_run_picture border us picture s all p)
each_again border dress us outer picture s all again k p q t h same apart = by_test (nat_lt p (length all))
    (λ less. sheet_again border dress us outer picture s all again k p q t
    (on_slots (λ i own n. PagePaintsWithin (page_frame border own) us outer s n (picture n)) (Within border us picture outer s) (λ i own n x. body_paints border us picture outer s i own n x) 0 (sheet_at all p).slots h)
    same apart (ltb-true p (length all) less))
    (λ past. no_sheet border dress us outer picture s all again k p t same (ltb-false p (length all) past))

-- what is so in two ways of each page is so in both
both_slots : (P Q : Paper → ℕ → Type 0) (k : ℕ) (slots : List MadeSlot) → OnSlotsFrom (λ i. P) k slots → OnSlotsFrom (λ i. Q) k slots → OnSlotsFrom (λ i own p. P own p × Q own p) k slots
both_slots P Q k [] h j = tt
both_slots P Q k (Blank ∷ slots) h j = both_slots P Q k slots h j
both_slots P Q k (Placed p item own ∷ slots) h j = ((h.0, j.0), both_slots P Q (suc k) slots h.1 j.1)

both_sheets : (P Q : Paper → ℕ → Type 0) (k : ℕ) (all : List MadeSheet) → OnSheetsFrom (λ i. P) k all → OnSheetsFrom (λ i. Q) k all → OnSheetsFrom (λ i own p. P own p × Q own p) k all
both_sheets P Q k [] h j = tt
both_sheets P Q k (sheet ∷ all) h j = (both_slots P Q k sheet.slots h.0 j.0, both_sheets P Q (pages_past k sheet.slots) all h.1 j.1)

-- The second run.

abbrev Apart : List NestedUnit → Paper → ℕ → Type 0
Apart again own p = page_comments_apart (document_page again p) ≡ true

again_is_shown : (border outer_border : Option Border) (dress outer_dress : Dress) (all outer_all : List MadeSheet) (text : List ℕ) (us again : List NestedUnit) (picture : ℕ → List Painting) (s : State)
    → IsQuiet dress → IsQuiet outer_dress → document_of text ≡ Ok again → pages again ≡ made_texts border dress (pages us) all
    → comments_apart_with outer_dress.header again ≡ true → PreambleRuns IsGuarded (bytes_of (preamble again)) s → TakesSheets [] s
    → OnSheets (Apart again) outer_all → OnSheets (SheetPaintsWithin border all us picture outer_border s) outer_all
    → MadeIsPrinted outer_border outer_dress outer_all again (made_run_picture border us picture s all) s
again_is_shown border outer_border dress outer_dress all outer_all text us again picture s quiet outer_quiet d same apart run t kept h =
    let Paints : Paper → ℕ → Type 0 = SheetPaintsWithin border all us picture outer_border s in
    guarded_is_shown outer_border outer_dress outer_all text again (made_run_picture border us picture s all) s outer_quiet d apart run
    (on_sheets (λ k own p. Apart again own p × Paints own p) (Bodies (Runs false) (still s) outer_border again (made_run_picture border us picture s all))
    (λ k own p x. each_again border dress us (page_frame outer_border own) picture s all again k p quiet t x.1 same x.0)
    0 outer_all (both_sheets (Apart again) Paints 0 outer_all kept h))

-- what a run wrote, with the guard put in, is a document with its sheets as pages
abbrev Facts : Option Paper → Option Border → Dress → List MadeSheet → List NestedUnit → List ℕ → Type 0
Facts sheet border dress all us out =
    length (guarded sheet out) ≤ most_input_bytes
    → (document_of (guarded sheet out) ≡ Ok (units_of (guarded sheet out))) × (pages (units_of (guarded sheet out)) ≡ made_texts border dress (pages us) all)

facts : (sheet : Option Paper) (border : Option Border) (dress : Dress) (all : List MadeSheet) (text : List ℕ) (us : List NestedUnit) → IsTameDress dress → document_of text ≡ Ok us → open_depth (page_run us) ≡ 0
    → 0 < length all → length all ≤ most_pages → length (made_output border dress all us) ≤ most_input_bytes → Facts sheet border dress all us (made_output border dress all us)
facts sheet border dress all text us tame d shut some few long longer =
    let out : List ℕ = made_output border dress all us in
    let read = made_is_document border dress all text us tame d some few long in
    let stays = guard_stays sheet out (units_of out) read.0 longer in
    (stays.0, stays.1.same_pages ∙ read.2 shut)

pub two_made_runs_are_shown : TwoMadeRunsAreShown
two_made_runs_are_shown sheet border outer_border dress outer_dress all outer_all text us picture s quiet tame outer_quiet d shut some few long longer apart run t kept h =
    let out : List ℕ = made_output border dress all us in
    let z = facts sheet border dress all text us tame d shut some few long longer in
    again_is_shown border outer_border dress outer_dress all outer_all (guarded sheet out) us (units_of (guarded sheet out)) picture s quiet outer_quiet z.0 z.1 apart run t kept h

undressed_is_tame : IsTameDress undressed
undressed_is_tame = record { header = tt; start = λ s paper. tt; finish = λ s paper. tt }

pub two_runs_are_shown : TwoRunsAreShown
two_runs_are_shown sheet inner outer sides outer_sides spec outer_spec text us picture s d shut some few long longer apart run t h kept =
    let all : List MadeSheet = all_sheets inner sides spec us in
    let out : List ℕ = output inner sides spec us in
    let again : List NestedUnit = units_of (guarded sheet out) in
    let outer_all : List MadeSheet = all_sheets outer outer_sides outer_spec again in
    let is : made_output inner.border undressed all us ≡ out = made_is_output inner sides spec us in
    let z = subst (Facts sheet inner.border undressed all us) is
    (facts sheet inner.border undressed all text us undressed_is_tame d shut some few (subst (λ o. length o ≤ most_input_bytes) (sym is) long)) longer in
    by_specification (Runs false) started outer outer_sides outer_spec again _
    (again_is_shown inner.border outer.border undressed undressed all outer_all (guarded sheet out) us again picture s undressed_is_quiet undressed_is_quiet z.0 z.1 apart run t kept
    (everywhere_on (SheetPaintsWithin inner.border all us picture outer.border s) outer.paper
    (λ p. on_sheet (λ own n. PagePaintsWithin (page_frame inner.border own) us outer s n (picture n)) 0 all p h) (sheets_in outer_sides outer_spec (length (pages again)))))
