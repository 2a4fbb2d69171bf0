-- A document as it is, run page after page in one machine: what it prints, and what it means for its pages to be
-- independent of one another.
use Rattle.std.specs.Prelude.{◌≡◌, ℕ, zero, suc, ◌<◌, List, [], ◌∷◌, flat_map, take, length, false, Ok}
use Rattle.rules.specs.Parts.{NestedUnit, preamble, pages, trailer, bytes_of}
use Rattle.rules.specs.Run.{document_of}
use Rattle.pictures.specs.Objects.{Token}
use Rattle.pictures.specs.Machine.{State, Painting, Runs}
use Rattle.pictures.specs.Scanner.{tokens, EndsBetweenTokens}
use Rattle.pictures.specs.Sheets.{run_of}
use Rattle.pictures.specs.Documents.{started, document_page}

-- from the state s a machine whose runs are these runs these tokens to their end, and is then in the state t
abbrev pub ComesBy : (State → State → Type 0) → State → List Token → State → Type 0
ComesBy R s ts t = R (run_of ts s) t × (t.left ≡ [])

abbrev pub ComesTo : State → List Token → State → Type 0
ComesTo s ts t = ComesBy (Runs false) s ts t

-- from the state s these tokens print one sheet, with this picture, and leave the next one empty
abbrev pub PrintsSheetBy : (State → State → Type 0) → State → List Token → List Painting → Type 0
PrintsSheetBy R s ts picture = (t : State) × ComesBy R s ts t × (t.painted ≡ []) × (t.sheets ≡ picture ∷ s.sheets)

abbrev pub PrintsSheet : State → List Token → List Painting → Type 0
PrintsSheet s ts picture = PrintsSheetBy (Runs false) s ts picture

-- the pages before this one, one after the other
abbrev pub pages_before : List NestedUnit → ℕ → List Token
pages_before us p = flat_map tokens (take p (pages us))

-- Page independence of the Document Structuring Conventions 3.0. Each page, run in the state that the document has
-- reached, prints the same as when it is run directly after the preamble, in the state s
abbrev pub AreIndependentBy : (State → State → Type 0) → List NestedUnit → State → Type 0
AreIndependentBy R us s =
    (p : ℕ) (u : State) (picture : List Painting) → p < length (pages us) → ComesBy R s (pages_before us p) u
    → PrintsSheetBy R s (tokens (document_page us p)) picture → PrintsSheetBy R u (tokens (document_page us p)) picture

abbrev pub PagesAreIndependent : List NestedUnit → State → Type 0
PagesAreIndependent us s = AreIndependentBy (Runs false) us s

-- this holds for each page of the document
abbrev pub OnPages : (ℕ → Type 0) → List NestedUnit → Type 0
OnPages P us = (p : ℕ) → p < length (pages us) → P p

-- the preamble ends between tokens; then the machine is in the state s, with nothing painted or printed
abbrev pub PreambleComesTo : List ℕ → State → Type 0
PreambleComesTo text s =
    EndsBetweenTokens text × ComesTo (started []) (tokens text) s × (s.painted ≡ []) × (s.sheets ≡ [])

-- the pictures of this many pages, the latest first
abbrev pub page_pictures : (ℕ → List Painting) → ℕ → List (List Painting)
page_pictures picture zero = []
page_pictures picture (suc n) = picture n ∷ page_pictures picture n

-- a machine that begins so runs the document up to its trailer, and has then printed these pictures, one for each page,
-- in order
abbrev pub DocumentPrintsBy :
    (State → State → Type 0) → (start : List Token → State) → List ℕ → List NestedUnit → (ℕ → List Painting) → Type 0
DocumentPrintsBy R start text us picture =
    (t : State) × R (start (tokens text)) t × (t.left ≡ tokens (bytes_of (trailer us))) × (t.painted ≡ [])
    × (t.sheets ≡ page_pictures picture (length (pages us)))

abbrev pub DocumentPrints : List ℕ → List NestedUnit → (ℕ → List Painting) → Type 0
DocumentPrints text us picture = DocumentPrintsBy (Runs false) started text us picture

-- a law: if the pages are independent, the document prints, page after page, what each page prints directly after
-- the preamble
abbrev pub PagesArePrinted : Type 0
PagesArePrinted =
    (text : List ℕ) (us : List NestedUnit) (picture : ℕ → List Painting) (s : State)
    → document_of text ≡ Ok us → PreambleComesTo (bytes_of (preamble us)) s
    → OnPages (λ p. EndsBetweenTokens (document_page us p) × PrintsSheet s (tokens (document_page us p)) (picture p)) us
    → PagesAreIndependent us s → DocumentPrints text us picture
