-- What a document prints, page after page.
use Rattle.std.specs.Prelude.{Option, Some, None, Ok, flat_map, slice_index_or, if◌then◌else◌, nat_lt}
use Rattle.std.proofs.Common.{◌≡◌, ℕ, zero, suc, ◌+◌, ◌*◌, ◌<◌, ◌≤◌, refl, ap, ◌∙◌, sym, subst, Bool, true, false, List, [], ◌∷◌, ◌++◌, map, append_assoc, append-nil, length, take, arith}
use Rattle.std.proofs.lemmas.Grind.{flat_map-append}
use Rattle.std.proofs.lemmas.List.{take_more, take_all}
use Rattle.std.proofs.lemmas.Bool.{ltb-true}
use Rattle.rules.specs.Specification.{Item, Spec}
use Rattle.std.specs.List.{range_with_len}
use Rattle.rules.specs.Sheets.{Slot, blocks, place, page_at}
use Rattle.rules.specs.Signatures.{signature_row, page_in_signature, row_len, entry_in, sheets_in}
use Rattle.rules.specs.Parts.{NestedUnit, preamble, pages, trailer, bytes_of}
use Rattle.rules.specs.Run.{document_of}
use Rattle.rules.specs.Papers.{Paper}
use Rattle.rules.specs.Output.{Frame}
use Rattle.rules.specs.Made.{MadeSlot, made_slot, made_of}
use Rattle.rules.proofs.Whole.{parts_make_text}
use Rattle.pictures.specs.Objects.{Token}
use Rattle.pictures.specs.Machine.{State, Painting, Runs}
use Rattle.pictures.specs.Scanner.{Between, ended_token, tokens, EndsBetweenTokens}
use Rattle.pictures.specs.Sheets.{run_of, with_more}
use Rattle.pictures.specs.Documents.{started, document_page, pages_past, OnSlotsFrom, OnSheetsFrom, OnSheets, all_sheets}
use Rattle.pictures.specs.DocumentRun.{ComesBy, ComesTo, PrintsSheetBy, pages_before, AreIndependentBy, OnPages, page_pictures, DocumentPrintsBy, PagesArePrinted}
use Rattle.pictures.specs.Unaware.{PagePrints, SheetsShowTheDocument}
use Rattle.pictures.proofs.Runs.{AreRuns, free_are_runs, runs_none}
use Rattle.pictures.proofs.More.{runs_with_more}
use Rattle.pictures.proofs.Scanned.{tokens_join}
use Rattle.pictures.proofs.NumberTokens.{Reads, reads_join}
use Rattle.pictures.proofs.Output.{complete_read, RunsOn, free_runs_on}
use Rattle.pictures.proofs.Kept.{cut_of}
use Rattle.pictures.proofs.Own.{prints}
use Rattle.pictures.proofs.Imposed.{sheets_show_the_pages}

-- Runs to an end, one after the other.

-- whatever comes after the tokens that are left, a machine with these runs does the same
abbrev pub GoOnAlike : (State → State → Type 0) → Type 0
GoOnAlike R = (more : List Token) (s t : State) → R s t → R (with_more more s) (with_more more t)

pub come_none : (s : State) → ComesTo s [] (run_of [] s)
come_none s = (runs_none false (run_of [] s), refl)

come_further : (R : State → State → Type 0) → AreRuns R → GoOnAlike R → (s u t : State) (ts us : List Token) → ComesBy R s ts u → R (run_of us u) t → R (run_of (ts ++ us) s) t
come_further R m on s u t ts us (run, left) more =
    m.joined (run_of (ts ++ us) s) (with_more us u) t (on us (run_of ts s) u run)
    (subst (λ l. R (record u { left = l ++ us }) t) (sym left) more)

-- what has been printed when the document has reached a page
record Stands (R : State → State → Type 0) (us : List NestedUnit) (s : State) (picture : ℕ → List Painting) (p : ℕ) : Type 0 where
  state : State
  comes : ComesBy R s (pages_before us p) state
  painted : state.painted ≡ []
  sheets : state.sheets ≡ page_pictures picture p

one_more : (us : List NestedUnit) (p : ℕ) → p < length (pages us) → pages_before us (suc p) ≡ pages_before us p ++ tokens (document_page us p)
one_more us p h =
    let next : suc p ≡ p + 1 = omega arith in
    ap (λ n. pages_before us n) next ∙ ap (flat_map tokens) (take_more (pages us) p [] h) ∙ flat_map-append tokens (take p (pages us)) (document_page us p ∷ [])
    ∙ ap (λ ts. pages_before us p ++ ts) (append-nil (tokens (document_page us p)))

next_stands : (R : State → State → Type 0) → AreRuns R → GoOnAlike R → (us : List NestedUnit) (s : State) (picture : ℕ → List Painting) (p : ℕ) → p < length (pages us)
    → (x : Stands R us s picture p) → PrintsSheetBy R x.state (tokens (document_page us p)) (picture p) → Stands R us s picture (suc p)
next_stands R m on us s picture p h x (t, (run, left), painted, sheets) = record {
  state = t;
  comes = (
    subst (λ ts. R (run_of ts s) t) (sym (one_more us p h))
        (come_further R m on s x.state t (pages_before us p) (tokens (document_page us p)) x.comes run),
    left,
  );
  painted = painted;
  sheets = sheets ∙ ap (λ xs. picture p ∷ xs) x.sheets;
}

all_stand : (R : State → State → Type 0) → AreRuns R → GoOnAlike R → (us : List NestedUnit) (s : State) (picture : ℕ → List Painting) → s.painted ≡ [] → s.sheets ≡ []
    → OnPages (λ p. EndsBetweenTokens (document_page us p) × PrintsSheetBy R s (tokens (document_page us p)) (picture p)) us → AreIndependentBy R us s
    → (p : ℕ) → p ≤ length (pages us) → Stands R us s picture p
all_stand R m on us s picture e f prints same zero h = record { state = run_of [] s; comes = (m.stays (run_of [] s), refl); painted = e; sheets = f }
all_stand R m on us s picture e f prints same (suc p) h =
    let less : p < length (pages us) = omega (arith, h) in
    let x : Stands R us s picture p = all_stand R m on us s picture e f prints same p (omega (arith, h)) in
    next_stands R m on us s picture p less x (same p x.state (picture p) less x.comes (prints p less).1)

-- The document's tokens.

pages_read : (ps : List (List ℕ)) → ((p : ℕ) → p < length ps → EndsBetweenTokens (slice_index_or ps p []))
    → Reads Between (flat_map (λ page. page) ps) (flat_map tokens ps) Between
pages_read [] h = refl
pages_read (page ∷ ps) h =
    reads_join Between Between Between page (flat_map (λ page. page) ps) (tokens page) (flat_map tokens ps)
    (complete_read page (h zero (omega arith)))
    (pages_read ps (λ p l. h (suc p) (omega (arith, l))))

whole : (text : List ℕ) (us : List NestedUnit) → document_of text ≡ Ok us
    → bytes_of (preamble us) ++ flat_map (λ page. page) (pages us) ++ bytes_of (trailer us) ≡ text
whole text us e =
    let z = cut_of text us e in
    subst (λ vs. bytes_of (preamble vs) ++ flat_map (λ page. page) (pages vs) ++ bytes_of (trailer vs) ≡ text) z.2
    (parts_make_text text z.0 z.1)

document_tokens : (text : List ℕ) (us : List NestedUnit) → document_of text ≡ Ok us → EndsBetweenTokens (bytes_of (preamble us))
    → ((p : ℕ) → p < length (pages us) → EndsBetweenTokens (document_page us p))
    → tokens text ≡ tokens (bytes_of (preamble us)) ++ (flat_map tokens (pages us) ++ tokens (bytes_of (trailer us)))
document_tokens text us e complete h =
    let first : List ℕ = bytes_of (preamble us) in
    let middle : List ℕ = flat_map (λ page. page) (pages us) in
    let last : List ℕ = bytes_of (trailer us) in
    let ts : List Token = tokens first ++ flat_map tokens (pages us) in
    let both : Reads Between (first ++ middle) ts Between =
    reads_join Between Between Between first middle (tokens first) (flat_map tokens (pages us)) (complete_read first complete) (pages_read (pages us) h) in
    ap tokens (sym (whole text us e)) ∙ tokens_join (first ++ middle) last (ap (λ x. x.1) both)
    ∙ ap (λ us. us ++ tokens last) (ap (λ x. x.0 ++ ended_token x.1) both ∙ append-nil ts)
    ∙ append_assoc (tokens first) (flat_map tokens (pages us)) (tokens last)

-- any machine with such runs prints a document page after page
pub document_prints : (R : State → State → Type 0) → AreRuns R → GoOnAlike R → (start : List Token → State) (text : List ℕ) (us : List NestedUnit) (picture : ℕ → List Painting) (s : State)
    → document_of text ≡ Ok us → RunsOn R start (bytes_of (preamble us)) s → s.painted ≡ [] → s.sheets ≡ []
    → OnPages (λ p. EndsBetweenTokens (document_page us p) × PrintsSheetBy R s (tokens (document_page us p)) (picture p)) us → AreIndependentBy R us s
    → DocumentPrintsBy R start text us picture
document_prints R m on start text us picture s e (complete, begins) painted sheets h same =
    let n : ℕ = length (pages us) in
    let last : List Token = tokens (bytes_of (trailer us)) in
    let more : List Token = flat_map tokens (pages us) ++ last in
    let x : Stands R us s picture n = all_stand R m on us s picture painted sheets h same n (omega arith) in
    let end : State = with_more last x.state in
    let behind : R (run_of more s) end =
    subst (λ ps. R (run_of (flat_map tokens ps ++ last) s) end) (take_all n (pages us) (omega arith))
    (on last (run_of (pages_before us n) s) x.state x.comes.0) in (
      end,
      subst (λ ts. R (start ts) end) (sym (document_tokens text us e complete (λ p l. (h p l).0)))
          (m.joined (start (tokens (bytes_of (preamble us)) ++ more)) (run_of more s) end (begins more) behind),
      ap (λ l. l ++ last) x.comes.1,
      x.painted,
      x.sheets,
    )

pub pages_are_printed : PagesArePrinted
pages_are_printed text us picture s e (complete, (run, left), painted, sheets) h same =
    document_prints (Runs false) free_are_runs (λ more u t r. runs_with_more more u t r) started text us picture s e
    (free_runs_on (bytes_of (preamble us)) s complete run left) painted sheets h same

-- All pages on sheets are pages of the document.

abbrev Each : {A : Type 0} → (A → Type 0) → List A → Type 0
Each P [] = Unit {0}
Each P (x ∷ xs) = P x × Each P xs

each_of : {A B : Type 0} (P : B → Type 0) (f : A → B) (xs : List A) → ((x : A) → P (f x)) → Each P (map f xs)
each_of P f [] h = tt
each_of P f (x ∷ xs) h = (h x, each_of P f xs h)

each_join : {B : Type 0} (P : B → Type 0) (xs ys : List B) → Each P xs → Each P ys → Each P (xs ++ ys)
each_join P [] ys h k = k
each_join P (x ∷ xs) ys h k = (h.0, each_join P xs ys h.1 k)

each_part : {A B : Type 0} (P : B → Type 0) (f : A → List B) (xs : List A) → ((x : A) → Each P (f x)) → Each P (flat_map f xs)
each_part P f [] h = tt
each_part P f (x ∷ xs) h = each_join P (f x) (flat_map f xs) (h x) (each_part P f xs h)

abbrev OnPage : (ℕ → Type 0) → Option ℕ → Type 0
OnPage P None = Unit {0}
OnPage P (Some p) = P p

page_on : (P : ℕ → Type 0) (n place : ℕ) (b : Bool) → ((p : ℕ) → p < n → P p) → (b ≡ true → place < n) → OnPage P (if b then Some place else None)
page_on P n place true h k = h place (k refl)
page_on P n place false h k = tt

page_at_on : (P : ℕ → Type 0) (n place : ℕ) → ((p : ℕ) → p < n → P p) → OnPage P (page_at n place)
page_at_on P n place h = page_on P n place (nat_lt place n) h (λ e. ltb-true place n e)

entry_of_row : (P : ℕ → Type 0) (row : List (Option ℕ)) (e : ℕ) → Each (OnPage P) row → OnPage P (slice_index_or row e None)
entry_of_row P [] e h = tt
entry_of_row P (x ∷ row) zero h = h.0
entry_of_row P (x ∷ row) (suc e) h = entry_of_row P row e h.1

entry_on : (P : ℕ → Type 0) (sides : Option ℕ) (n e : ℕ) → ((p : ℕ) → p < n → P p) → OnPage P (entry_in sides n e)
entry_on P None n e h = page_at_on P n e h
entry_on P (Some s) n e h =
    entry_of_row P (signature_row s n) e
    (each_part (OnPage P) (λ b. map (λ i. page_at n (b * s + page_in_signature s i)) (range_with_len 0 s)) (range_with_len 0 (blocks s n))
    (λ b. each_of (OnPage P) (λ i. page_at n (b * s + page_in_signature s i)) (range_with_len 0 s) (λ i. page_at_on P n (b * s + page_in_signature s i) h)))

abbrev OnRow : (ℕ → Type 0) → List Slot → Type 0
OnRow P slots = Each (λ (slot : Slot). OnPage P slot.page) slots

slot_on : (P : Paper → ℕ → Type 0) (paper : Paper) (page : Option ℕ) (item : Item) (slots : List MadeSlot) (k : ℕ) → OnPage (P paper) page → ((j : ℕ) → OnSlotsFrom (λ i. P) j slots)
    → OnSlotsFrom (λ i. P) k (made_slot paper page item ∷ slots)
slot_on P paper None item slots k h f = f k
slot_on P paper (Some p) item slots k h f = (h, f (suc k))

slots_on : (P : Paper → ℕ → Type 0) (paper : Paper) (slots : List Slot) (k : ℕ) → OnRow (P paper) slots → OnSlotsFrom (λ i. P) k (map (λ slot. made_slot paper slot.page slot.item) slots)
slots_on P paper [] k h = tt
slots_on P paper (slot ∷ slots) k h =
    slot_on P paper slot.page slot.item (map (λ next. made_slot paper next.page next.item) slots) k h.0 (λ j. slots_on P paper slots j h.1)

sheets_on : (P : Paper → ℕ → Type 0) (paper : Paper) (all : List (List Slot)) (k : ℕ) → Each (OnRow (P paper)) all → OnSheetsFrom (λ i. P) k (made_of paper all)
sheets_on P paper [] k h = tt
sheets_on P paper (slots ∷ all) k h = (slots_on P paper slots k h.0, sheets_on P paper all (pages_past k (map (λ slot. made_slot paper slot.page slot.item) slots)) h.1)

each : {A : Type 0} (P : A → Type 0) → ((x : A) → P x) → (xs : List A) → Each P xs
each P f [] = tt
each P f (x ∷ xs) = (f x, each P f xs)

-- what is so of all pages on this paper is so of those on sheets
pub everywhere_on : (P : Paper → ℕ → Type 0) (paper : Paper) → ((p : ℕ) → P paper p) → (all : List (List Slot)) → OnSheets P (made_of paper all)
everywhere_on P paper f all =
    sheets_on P paper all 0 (each (OnRow (P paper)) (λ slots. each (λ (slot : Slot). OnPage (P paper) slot.page) (λ slot. of_page slot.page) slots) all)
  where
    of_page : (page : Option ℕ) → OnPage (P paper) page
    of_page None = tt
    of_page (Some p) = f p

pub on_all_sheets : (P : ℕ → Type 0) (frame : Frame) (sides : Option ℕ) (spec : Spec) (us : List NestedUnit) → OnPages P us → OnSheets (λ own p. P p) (all_sheets frame sides spec us)
on_all_sheets P frame sides spec us h =
    let n : ℕ = length (pages us) in
    let slot : ℕ → Item → Slot = λ b i. record { page = entry_in sides n (place spec.modulo (row_len sides n) b i); item = i } in
    sheets_on (λ own. P) frame.paper (sheets_in sides spec n) 0
    (each_part (OnRow P) (λ b. map (λ g. map (slot b) g) spec.groups) (range_with_len 0 (blocks spec.modulo (row_len sides n)))
    (λ b. each_of (OnRow P) (λ g. map (slot b) g) spec.groups
    (λ g. each_of (λ (x : Slot). OnPage P x.page) (slot b) g (λ i. entry_on P sides n (place spec.modulo (row_len sides n) b i) h))))

pub sheets_show_the_document : SheetsShowTheDocument
sheets_show_the_document frame sides spec text us picture s e apart (complete, run, left, painted, printed, ground) plain h same = (
  pages_are_printed text us picture s e (complete, (run, left), painted, printed)
      (λ p l. ((h p l).0, prints s (tokens (document_page us p)) (picture p) (h p l).2)) same,
  sheets_show_the_pages frame sides spec text us picture s e apart (complete, run, left, painted, printed, ground) plain
      (on_all_sheets (λ p. PagePrints us s p (picture p)) frame sides spec us h),
)
