-- What a machine prints, given an output.
use Rattle.std.specs.Prelude.{Option, codes, decimal, flat_map}
use Rattle.std.specs.List.{enumerate_from}
use Rattle.std.proofs.Common.{◌≡◌, ℕ, suc, ◌+◌, ◌≤◌, arith, refl, ap, ◌∙◌, sym, subst, false, List, [], ◌∷◌, ◌++◌, map, append_assoc, append-nil, length}
use Rattle.std.proofs.lemmas.Grind.{flat_map-append}
use Rattle.std.proofs.lemmas.List.{map-append}
use Rattle.rules.specs.Bytes.{line}
use Rattle.rules.specs.Papers.{Paper}
use Rattle.rules.specs.Specification.{Item, Spec}
use Rattle.rules.specs.Parts.{NestedUnit, pages, preamble, bytes_of}
use Rattle.rules.specs.Filters.{kept, drops_in_header, ended, with_count, preamble_text, trailer_text}
use Rattle.rules.specs.Output.{Border, Frame, opening_text, closing_text, output}
use Rattle.rules.specs.Made.{MadeSlot, Blank, Placed, MadeSheet}
use Rattle.rules.specs.Dress.{Dress, undressed, lines_text}
use Rattle.rules.specs.MadeOutput.{made_slot_text, made_sheet_text, with_lines, dressed_preamble, made_output}
use Rattle.rules.proofs.Made.{made_is_output}
use Rattle.pictures.specs.Objects.{Token, Name}
use Rattle.pictures.specs.Machine.{State, Painting, Runs}
use Rattle.pictures.specs.Scanner.{Reading, Between, scan_from, tokens, EndsBetweenTokens}
use Rattle.pictures.specs.Scanner as Scanner
use Rattle.pictures.specs.Sheets.{Shown, IsGround, saving_tokens, placing_tokens, closing_tokens, placed_tokens, sheet_tokens, with_more}
use Rattle.pictures.specs.Pictures.{past, past_all, BeginsAt, sheets_tokens}
use Rattle.pictures.specs.Documents.{numbers_of, started, body_of_page, page_frame, shown_slot, shown_sheet, sheet_pictures, pages_past, pages_past_all, FirstHas, OnSlotsFrom, OnSheetsFrom, PagePaints, all_sheets, OutputIsPrinted}
use Rattle.pictures.specs.Imposed.{IsQuiet}
use Rattle.pictures.proofs.Runs.{AreRuns, free_are_runs}
use Rattle.pictures.proofs.More.{runs_with_more}
use Rattle.pictures.proofs.Sheets.{Places, AllPlace, AllSheetsPlace, Prints, pages_of, all_sheets_run, still, fresh, ground_prints, page_places}
use Rattle.pictures.proofs.Scanned.{tokens_join}
use Rattle.pictures.proofs.NumberTokens.{Reads, reads_join}
use Rattle.pictures.proofs.OpeningTokens.{opening_read}
use Rattle.pictures.proofs.Comments.{page_line, comments_read}

-- The tokens of an output.

-- a complete text is read to its end
pub complete_read : (text : List ℕ) → EndsBetweenTokens text → Reads Between text (tokens text) Between
complete_read text e =
    let x : List Token × Reading = scan_from Between text in
    ap (λ r. (x.0, r)) e ∙ ap (λ ts. (ts, Between)) (sym (append-nil x.0) ∙ ap (λ r. x.0 ++ Scanner.ended_token r) (sym e))

slot_read : (border : Option Border) (us : List NestedUnit) (picture : ℕ → List Painting) (p : ℕ) (item : Item) (paper : Paper) → EndsBetweenTokens (body_of_page us p)
    → Reads Between (made_slot_text border (pages us) (Placed p item paper)) (pages_of (shown_slot border us picture (Placed p item paper))) Between
slot_read border us picture p item paper h =
    let frame : Frame = page_frame border paper in
    let body : List Token = tokens (body_of_page us p) in
    let placing : List Token = placing_tokens (numbers_of frame item) in
    let same : ((saving_tokens ++ placing) ++ body) ++ closing_tokens ≡ (saving_tokens ++ (placing ++ (body ++ closing_tokens))) ++ [] =
    append_assoc (saving_tokens ++ placing) body closing_tokens ∙ append_assoc saving_tokens placing (body ++ closing_tokens) ∙ sym (append-nil (saving_tokens ++ (placing ++ (body ++ closing_tokens)))) in
    subst (λ ts. Reads Between (made_slot_text border (pages us) (Placed p item paper)) ts Between) same
    (reads_join Between Between Between (opening_text frame item ++ body_of_page us p) closing_text ((saving_tokens ++ placing) ++ body) closing_tokens
    (reads_join Between Between Between (opening_text frame item) (body_of_page us p) (saving_tokens ++ placing) body (opening_read frame item) (complete_read (body_of_page us p) h))
    refl)

pages_append : (xs ys : List Shown) → pages_of (xs ++ ys) ≡ pages_of xs ++ pages_of ys
pages_append xs ys = ap (flat_map placed_tokens) (map-append (λ x. x.placed) xs ys) ∙ flat_map-append placed_tokens (map (λ x. x.placed) xs) (map (λ x. x.placed) ys)

abbrev pub AreComplete : List NestedUnit → ℕ → Paper → ℕ → Type 0
AreComplete us k paper p = EndsBetweenTokens (body_of_page us p)

pub slots_read : (border : Option Border) (us : List NestedUnit) (picture : ℕ → List Painting) (k : ℕ) (slots : List MadeSlot) → OnSlotsFrom (AreComplete us) k slots
    → Reads Between (flat_map (made_slot_text border (pages us)) slots) (pages_of (flat_map (shown_slot border us picture) slots)) Between
slots_read border us picture k [] h = refl
slots_read border us picture k (Blank ∷ slots) h = slots_read border us picture k slots h
slots_read border us picture k (Placed p item paper ∷ slots) h =
    let here : List Shown = shown_slot border us picture (Placed p item paper) in
    let more : List Shown = flat_map (shown_slot border us picture) slots in
    subst (λ ts. Reads Between (flat_map (made_slot_text border (pages us)) (Placed p item paper ∷ slots)) ts Between) (sym (pages_append here more))
    (reads_join Between Between Between (made_slot_text border (pages us) (Placed p item paper)) (flat_map (made_slot_text border (pages us)) slots) (pages_of here) (pages_of more)
    (slot_read border us picture p item paper h.0)
    (slots_read border us picture (suc k) slots h.1))

pub sheet_read : (border : Option Border) (dress : Dress) (us : List NestedUnit) (picture : ℕ → List Painting) → IsQuiet dress → (number k : ℕ) (sheet : MadeSheet) → OnSlotsFrom (AreComplete us) k sheet.slots
    → Reads Between (made_sheet_text border dress (pages us) number sheet) (sheet_tokens (map (λ x. x.placed) (shown_sheet border us picture sheet))) Between
sheet_read border dress us picture q number k sheet h =
    let header : List ℕ = line (codes "%%Page: " ++ decimal (number + 1) ++ codes " " ++ decimal (number + 1)) in
    let start : List ℕ = lines_text (dress.start number sheet.paper) in
    let middle : List ℕ = flat_map (made_slot_text border (pages us)) sheet.slots in
    let finish : List ℕ = lines_text (dress.finish number sheet.paper) in
    let shown : List Token = pages_of (shown_sheet border us picture sheet) in
    let begun : Reads Between ((header ++ start) ++ middle) shown Between =
    reads_join Between Between Between (header ++ start) middle [] shown
    (reads_join Between Between Between header start [] [] (page_line (number + 1)) (comments_read (dress.start number sheet.paper) (q.start number sheet.paper)))
    (slots_read border us picture k sheet.slots h) in
    let done : Reads Between (((header ++ start) ++ middle) ++ finish) shown Between =
    subst (λ ts. Reads Between (((header ++ start) ++ middle) ++ finish) ts Between) (append-nil shown)
    (reads_join Between Between Between ((header ++ start) ++ middle) finish shown [] begun (comments_read (dress.finish number sheet.paper) (q.finish number sheet.paper))) in
    reads_join Between Between Between (((header ++ start) ++ middle) ++ finish) (line (codes "showpage")) shown (Name (codes "showpage") ∷ []) done refl

sheets_read : (border : Option Border) (dress : Dress) (us : List NestedUnit) (picture : ℕ → List Painting) → IsQuiet dress → (number k : ℕ) (all : List MadeSheet) → OnSheetsFrom (AreComplete us) k all
    → Reads Between (flat_map (λ (s, sheet). made_sheet_text border dress (pages us) s sheet) (enumerate_from number all)) (sheets_tokens (map (shown_sheet border us picture) all)) Between
sheets_read border dress us picture q number k [] h = refl
sheets_read border dress us picture q number k (sheet ∷ all) h =
    reads_join Between Between Between (made_sheet_text border dress (pages us) number sheet) (flat_map (λ (s, next). made_sheet_text border dress (pages us) s next) (enumerate_from (number + 1) all))
    (sheet_tokens (map (λ x. x.placed) (shown_sheet border us picture sheet))) (sheets_tokens (map (shown_sheet border us picture) all))
    (sheet_read border dress us picture q number k sheet h.0)
    (sheets_read border dress us picture q (number + 1) (pages_past k sheet.slots) all h.1)

output_cut : (border : Option Border) (dress : Dress) (all : List MadeSheet) (us : List NestedUnit) (picture : ℕ → List Painting) → IsQuiet dress
    → EndsBetweenTokens (dressed_preamble (length all) dress.header us) → OnSheetsFrom (AreComplete us) 0 all
    → tokens (made_output border dress all us)
    ≡ tokens (dressed_preamble (length all) dress.header us) ++ (sheets_tokens (map (shown_sheet border us picture) all) ++ tokens (trailer_text us))
output_cut border dress all us picture q complete h =
    let begun : List ℕ = dressed_preamble (length all) dress.header us in
    let middle : List ℕ = flat_map (λ (s, sheet). made_sheet_text border dress (pages us) s sheet) (enumerate_from 0 all) in
    let shown : List Token = sheets_tokens (map (shown_sheet border us picture) all) in
    let last : List Token = tokens (trailer_text us) in
    let both : Reads Between (begun ++ middle) (tokens begun ++ shown) Between =
    reads_join Between Between Between begun middle (tokens begun) shown (complete_read begun complete) (sheets_read border dress us picture q 0 0 all h) in
    tokens_join (begun ++ middle) (trailer_text us) (ap (λ x. x.1) both)
    ∙ ap (λ ts. ts ++ last) (ap (λ x. x.0 ++ Scanner.ended_token x.1) both ∙ append-nil (tokens begun ++ shown))
    ∙ append_assoc (tokens begun) shown last

-- One property of each page from another.

pub on_slots : (P Q : ℕ → Paper → ℕ → Type 0) → ((k : ℕ) (paper : Paper) (p : ℕ) → P k paper p → Q k paper p) → (k : ℕ) (slots : List MadeSlot) → OnSlotsFrom P k slots → OnSlotsFrom Q k slots
on_slots P Q f k [] h = tt
on_slots P Q f k (Blank ∷ slots) h = on_slots P Q f k slots h
on_slots P Q f k (Placed p item paper ∷ slots) h = (f k paper p h.0, on_slots P Q f (suc k) slots h.1)

pub on_sheets : (P Q : ℕ → Paper → ℕ → Type 0) → ((k : ℕ) (paper : Paper) (p : ℕ) → P k paper p → Q k paper p) → (k : ℕ) (all : List MadeSheet) → OnSheetsFrom P k all → OnSheetsFrom Q k all
on_sheets P Q f k [] h = tt
on_sheets P Q f k (sheet ∷ all) h = (on_slots P Q f k sheet.slots h.0, on_sheets P Q f (pages_past k sheet.slots) all h.1)

-- What any machine prints whose runs are these: what it begins with is `start`.

-- the text ends between tokens, and brings the machine here, whatever comes after it
abbrev pub RunsOn : (State → State → Type 0) → (List Token → State) → List ℕ → State → Type 0
RunsOn R start text s = EndsBetweenTokens text × ((more : List Token) → R (start (tokens text ++ more)) (record s { left = more }))

pub runs_on : (R : State → State → Type 0) (start : List Token → State) (text : List ℕ) (s : State)
    → ((ts more : List Token) → R (start ts) s → R (start (ts ++ more)) (with_more more s)) → EndsBetweenTokens text → R (start (tokens text)) s → s.left ≡ [] → RunsOn R start text s
runs_on R start text s on complete run nothing_left =
    (complete, λ more. subst (λ l. R (start (tokens text ++ more)) (record s { left = l ++ more })) nothing_left (on (tokens text) more run))

-- so does another text with the same tokens
pub runs_alike : (R : State → State → Type 0) (start : List Token → State) (text other : List ℕ) (s : State) → (tokens other ≡ tokens text) × EndsBetweenTokens other → RunsOn R start text s → RunsOn R start other s
runs_alike R start text other s (same, complete) (whole, run) = (complete, λ more. subst (λ ts. R (start (ts ++ more)) (record s { left = more })) (sym same) (run more))

-- what is kept of a page is placed, wherever that is, and paints this
abbrev pub BodyPlaces : (State → State → Type 0) → (ℕ → State) → Frame → List NestedUnit → ℕ → ℕ → List Painting → Type 0
BodyPlaces R at frame us k p picture =
    EndsBetweenTokens (body_of_page us p) × ((item : Item) → Places R at (at 0).graphics k (record { placed = record { numbers = numbers_of frame item; body = tokens (body_of_page us p) }; picture = picture }))

abbrev pub Bodies : (State → State → Type 0) → (ℕ → State) → Option Border → List NestedUnit → (ℕ → List Painting) → ℕ → Paper → ℕ → Type 0
Bodies R at border us picture k paper p = BodyPlaces R at (page_frame border paper) us k p (picture p)

slots_place : (R : State → State → Type 0) (at : ℕ → State) (border : Option Border) (us : List NestedUnit) (picture : ℕ → List Painting) (k : ℕ) (slots : List MadeSlot)
    → OnSlotsFrom (Bodies R at border us picture) k slots → AllPlace R at (at 0).graphics k (flat_map (shown_slot border us picture) slots)
slots_place R at border us picture k [] h = tt
slots_place R at border us picture k (Blank ∷ slots) h = slots_place R at border us picture k slots h
slots_place R at border us picture k (Placed p item paper ∷ slots) h = (h.0.1 item, slots_place R at border us picture (suc k) slots h.1)

shown_past : (border : Option Border) (us : List NestedUnit) (picture : ℕ → List Painting) (k : ℕ) (slots : List MadeSlot) → past k (flat_map (shown_slot border us picture) slots) ≡ pages_past k slots
shown_past border us picture k [] = refl
shown_past border us picture k (Blank ∷ slots) = shown_past border us picture k slots
shown_past border us picture k (Placed p item paper ∷ slots) = shown_past border us picture (suc k) slots

sheets_place : (R : State → State → Type 0) (at : ℕ → State) (border : Option Border) (us : List NestedUnit) (picture : ℕ → List Painting) (k : ℕ) (all : List MadeSheet)
    → OnSheetsFrom (Bodies R at border us picture) k all → AllSheetsPlace R at (at 0).graphics k (map (shown_sheet border us picture) all)
sheets_place R at border us picture k [] h = tt
sheets_place R at border us picture k (sheet ∷ all) h = (
  slots_place R at border us picture k sheet.slots h.0,
  subst (λ n. AllSheetsPlace R at (at 0).graphics n (map (shown_sheet border us picture) all)) (sym (shown_past border us picture k sheet.slots))
      (sheets_place R at border us picture (pages_past k sheet.slots) all h.1),
)

sheets_past : (border : Option Border) (us : List NestedUnit) (picture : ℕ → List Painting) (k : ℕ) (all : List MadeSheet) → past_all k (map (shown_sheet border us picture) all) ≡ pages_past_all k all
sheets_past border us picture k [] = refl
sheets_past border us picture k (sheet ∷ all) =
    ap (λ n. past_all n (map (shown_sheet border us picture) all)) (shown_past border us picture k sheet.slots) ∙ sheets_past border us picture (pages_past k sheet.slots) all

begins_there : (least : ℕ) (border : Option Border) (us : List NestedUnit) (picture : ℕ → List Painting) (all : List MadeSheet) → FirstHas least all → BeginsAt least 0 (map (shown_sheet border us picture) all)
begins_there least border us picture [] h = tt
begins_there least border us picture (sheet ∷ all) h = subst (λ n. least ≤ n) (sym (shown_past border us picture 0 sheet.slots)) h

-- after so many pages the machine is at a state that prints, if they are at least so many
pub bodies_are_shown : (R : State → State → Type 0) → AreRuns R → (start : List Token → State) (at : ℕ → State) (least : ℕ) (border : Option Border) (dress : Dress) (all : List MadeSheet) (us : List NestedUnit) (picture : ℕ → List Painting)
    → IsQuiet dress → RunsOn R start (dressed_preamble (length all) dress.header us) (at 0) → (at 0).painted ≡ [] → ((k : ℕ) → least ≤ k → Prints R (at k)) → FirstHas least all
    → OnSheetsFrom (Bodies R at border us picture) 0 all
    → R (start (tokens (made_output border dress all us)))
    (record (at (pages_past_all 0 all)) { left = tokens (trailer_text us); painted = []; sheets = sheet_pictures border us picture (at 0) all })
bodies_are_shown R m start at least border dress all us picture q (complete, run) nothing_painted prints has bodies =
    let s : State = at 0 in
    let first : List ℕ = dressed_preamble (length all) dress.header us in
    let shown : List (List Shown) = map (shown_sheet border us picture) all in
    let last : List Token = tokens (trailer_text us) in
    let more : List Token = sheets_tokens shown ++ last in
    let whole : OnSheetsFrom (AreComplete us) 0 all = on_sheets (Bodies R at border us picture) (AreComplete us) (λ k paper p x. x.0) 0 all bodies in
    let end : ℕ → State = λ n. fresh (at n) last [] (sheet_pictures border us picture s all) in
    subst (λ ts. R (start ts) (end (pages_past_all 0 all))) (sym (output_cut border dress all us picture q complete whole))
    (subst (λ n. R (start (tokens first ++ more)) (end n)) (sheets_past border us picture 0 all)
    (m.joined (start (tokens first ++ more)) (record s { left = more }) (end (past_all 0 shown)) (run more)
    (subst (λ ps. R (fresh s more ps s.sheets) (end (past_all 0 shown))) (sym nothing_painted)
    (all_sheets_run R m at s.graphics least prints shown 0 last s.sheets (begins_there least border us picture all has) (sheets_place R at border us picture 0 all bodies)))))

none_needed : (all : List MadeSheet) → FirstHas 0 all
none_needed [] = tt
none_needed (sheet ∷ all) = omega arith

-- and if the state stays the same
pub still_bodies_are_shown : (R : State → State → Type 0) → AreRuns R → (start : List Token → State) (border : Option Border) (dress : Dress) (all : List MadeSheet) (us : List NestedUnit) (picture : ℕ → List Painting) (s : State)
    → IsQuiet dress → RunsOn R start (dressed_preamble (length all) dress.header us) s → s.painted ≡ [] → Prints R s → OnSheetsFrom (Bodies R (still s) border us picture) 0 all
    → R (start (tokens (made_output border dress all us))) (record s { left = tokens (trailer_text us); sheets = sheet_pictures border us picture s all })
still_bodies_are_shown R m start border dress all us picture s q run nothing_painted prints bodies =
    subst (λ ps. R (start (tokens (made_output border dress all us))) (record s { left = tokens (trailer_text us); painted = ps; sheets = sheet_pictures border us picture s all })) (sym nothing_painted)
    (bodies_are_shown R m start (still s) 0 border dress all us picture q run nothing_painted (λ k le. prints) (none_needed all) bodies)

-- Outputs of a specification are outputs of made sheets to which nothing is added.

pub undressed_is_quiet : IsQuiet undressed
undressed_is_quiet = record { header = refl; start = λ s paper. refl; finish = λ s paper. refl }

pub by_specification : (R : State → State → Type 0) (start : List Token → State) (frame : Frame) (sides : Option ℕ) (spec : Spec) (us : List NestedUnit) (t : State)
    → R (start (tokens (made_output frame.border undressed (all_sheets frame sides spec us) us))) t → R (start (tokens (output frame sides spec us))) t
by_specification R start frame sides spec us t = subst (λ text. R (start (tokens text)) t) (made_is_output frame sides spec us)

counted : (n : ℕ) (us : List NestedUnit) → with_lines n [] us ≡ with_count n us
counted n [] = refl
counted n (u ∷ us) = ap (λ t. t ++ bytes_of us) (append-nil (u.unit.bytes ++ line (codes "%%Pages: " ++ decimal n)))

undressed_preamble : (n : ℕ) (us : List NestedUnit) → dressed_preamble n [] us ≡ preamble_text n us
undressed_preamble n us = ap ended (counted n (kept drops_in_header (preamble us)))

-- The machine of the laws.

pub free_runs_on : (text : List ℕ) (s : State) → EndsBetweenTokens text → Runs false (started (tokens text)) s → s.left ≡ [] → RunsOn (Runs false) started text s
free_runs_on text s complete run left = runs_on (Runs false) started text s (λ ts more r. runs_with_more more (started ts) s r) complete run left

pub body_places : (frame : Frame) (us : List NestedUnit) (s : State) (p k : ℕ) (picture : List Painting) → IsGround s → PagePaints us s p picture → BodyPlaces (Runs false) (still s) frame us k p picture
body_places frame us s p k picture g (complete, paints) =
    (complete, λ item. page_places s (record { placed = record { numbers = numbers_of frame item; body = tokens (body_of_page us p) }; picture = picture }) g paints)

pub output_is_printed : OutputIsPrinted
output_is_printed frame sides spec us picture s (complete, run, left, painted, printed, ground) h =
    let all : List MadeSheet = all_sheets frame sides spec us in
    let first : List ℕ = preamble_text (length all) us in
    by_specification (Runs false) started frame sides spec us (record s { left = tokens (trailer_text us); sheets = sheet_pictures frame.border us picture s all })
    (still_bodies_are_shown (Runs false) free_are_runs started frame.border undressed all us picture s undressed_is_quiet
    (subst (λ text. RunsOn (Runs false) started text s) (sym (undressed_preamble (length all) us)) (free_runs_on first s complete run left))
    painted (ground_prints (Runs false) free_are_runs s ground)
    (on_sheets (λ k paper p. PagePaints us s p (picture p)) (Bodies (Runs false) (still s) frame.border us picture)
    (λ k paper p x. body_places (page_frame frame.border paper) us s p k (picture p) ground x) 0 all h))
