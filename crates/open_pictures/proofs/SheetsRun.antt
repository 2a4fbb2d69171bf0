-- Sheets with lines of their own are printed, in any machine in which their pages are placed.
use Rattle.std.specs.Prelude.{Option, Ok, codes, decimal, flat_map}
use Rattle.std.specs.List.{enumerate_from}
use Rattle.std.proofs.Common.{◌≡◌, ℕ, suc, ◌+◌, refl, ap, ◌∙◌, sym, subst, true, List, [], ◌∷◌, ◌++◌, append_assoc, append-nil, length}
use Rattle.rules.specs.Bytes.{line}
use Rattle.rules.specs.Papers.{Paper}
use Rattle.rules.specs.Parts.{NestedUnit, pages, preamble, bytes_of}
use Rattle.rules.specs.Filters.{trailer_text}
use Rattle.rules.specs.Run.{document_of}
use Rattle.rules.specs.Output.{Border}
use Rattle.rules.specs.Made.{MadeSlot, Blank, Placed, MadeSheet}
use Rattle.rules.specs.Dress.{Dress, lines_text}
use Rattle.rules.specs.MadeOutput.{made_slot_text, made_sheet_text, dressed_preamble, made_output}
use Rattle.papers.specs.Reported.{reporting_of}
use Rattle.dressing.specs.Drawn.{strokes_added}
use Rattle.dressing.specs.declared.strokes.Stroke.{Stroke}
use Rattle.pictures.specs.Objects.{Token, Name}
use Rattle.pictures.specs.Machine.{State, Graphics, Painting}
use Rattle.pictures.specs.Scanner.{Reading, Between, tokens, EndsBetweenTokens}
use Rattle.pictures.specs.Scanner as Scanner
use Rattle.pictures.specs.Kept.{comments_apart_with}
use Rattle.pictures.specs.Sheets.{Shown, AllOf, sheet_picture}
use Rattle.pictures.specs.Documents.{body_of_page, page_frame, shown_slot, shown_sheet, OnSlotsFrom}
use Rattle.pictures.proofs.Runs.{AreRuns}
use Rattle.pictures.proofs.Sheets.{Prints, Stays, all_stay, pages_of, pages_run, fresh, still}
use Rattle.pictures.proofs.Scanned.{tokens_join}
use Rattle.pictures.proofs.NumberTokens.{Reads, reads_join}
use Rattle.pictures.proofs.Comments.{page_line, comments_read}
use Rattle.pictures.proofs.Kept.{dressed_runs_alike}
use Rattle.pictures.proofs.Output.{complete_read, slots_read, AreComplete, BodyPlaces, RunsOn, on_slots, runs_alike}
use Rattle.open_pictures.specs.Marks.{with_strokes}
use Rattle.open_pictures.specs.Sizes.{begun_on}
use Rattle.open_pictures.specs.DressedDocuments.{OnSheetsBegun, after_sheets, dressed_pictures}
use Rattle.open_pictures.proofs.LinesRead.{mark_tokens, start_tokens, start_read, finish_read, header_quiet}

-- The tokens of an output.

-- the lines at its start, its pages, its strokes, its showpage
abbrev sheet_tokens : Option Border → (told : List Paper) → List Stroke → List NestedUnit → (ℕ → List Painting) → MadeSheet → List Token
sheet_tokens border told strokes us picture sheet =
    start_tokens told sheet.paper ++ (pages_of (shown_sheet border us picture sheet) ++ (mark_tokens strokes ++ (Name (codes "showpage") ∷ [])))

abbrev dress_of : (told : List Paper) → List Stroke → Dress
dress_of told strokes = strokes_added strokes (reporting_of told)

sheet_read : (border : Option Border) (told : List Paper) (strokes : List Stroke) (us : List NestedUnit) (picture : ℕ → List Painting) (number : ℕ) (sheet : MadeSheet) → OnSlotsFrom (AreComplete us) 0 sheet.slots
    → Reads Between (made_sheet_text border (dress_of told strokes) (pages us) number sheet) (sheet_tokens border told strokes us picture sheet) Between
sheet_read border told strokes us picture number sheet h =
    let header : List ℕ = line (codes "%%Page: " ++ decimal (number + 1) ++ codes " " ++ decimal (number + 1)) in
    let start : List ℕ = lines_text ((dress_of told strokes).start number sheet.paper) in
    let middle : List ℕ = flat_map (made_slot_text border (pages us)) sheet.slots in
    let finish : List ℕ = lines_text ((dress_of told strokes).finish number sheet.paper) in
    let sizes : List Token = start_tokens told sheet.paper in
    let shown : List Token = pages_of (shown_sheet border us picture sheet) in
    let marks : List Token = mark_tokens strokes in
    let last : List Token = Name (codes "showpage") ∷ [] in
    let begun : Reads Between ((header ++ start) ++ middle) (sizes ++ shown) Between =
    reads_join Between Between Between (header ++ start) middle sizes shown
    (reads_join Between Between Between header start [] sizes (page_line (number + 1)) (start_read told number sheet.paper))
    (slots_read border us picture 0 sheet.slots h) in
    let done : Reads Between (((header ++ start) ++ middle) ++ finish) ((sizes ++ shown) ++ marks) Between =
    reads_join Between Between Between ((header ++ start) ++ middle) finish (sizes ++ shown) marks begun (finish_read told strokes number sheet.paper) in
    subst (λ ts. Reads Between (made_sheet_text border (dress_of told strokes) (pages us) number sheet) ts Between)
    (append_assoc (sizes ++ shown) marks last ∙ append_assoc sizes shown (marks ++ last))
    (reads_join Between Between Between (((header ++ start) ++ middle) ++ finish) (line (codes "showpage")) ((sizes ++ shown) ++ marks) last done refl)

-- this holds of each page on these sheets
abbrev pub WholeBegun : List NestedUnit → State → Paper → ℕ → Type 0
WholeBegun us at own p = EndsBetweenTokens (body_of_page us p)

sheets_read : (border : Option Border) (told : List Paper) (strokes : List Stroke) (us : List NestedUnit) (picture : ℕ → List Painting) (number : ℕ) (s : State) (all : List MadeSheet) → OnSheetsBegun told (WholeBegun us) s all
    → Reads Between (flat_map (λ (n, sheet). made_sheet_text border (dress_of told strokes) (pages us) n sheet) (enumerate_from number all)) (flat_map (sheet_tokens border told strokes us picture) all) Between
sheets_read border told strokes us picture number s [] h = refl
sheets_read border told strokes us picture number s (sheet ∷ all) h =
    reads_join Between Between Between (made_sheet_text border (dress_of told strokes) (pages us) number sheet)
    (flat_map (λ (n, next). made_sheet_text border (dress_of told strokes) (pages us) n next) (enumerate_from (number + 1) all))
    (sheet_tokens border told strokes us picture sheet) (flat_map (sheet_tokens border told strokes us picture) all)
    (sheet_read border told strokes us picture number sheet h.0)
    (sheets_read border told strokes us picture (number + 1) (begun_on told sheet.paper s) all h.1)

output_cut : (border : Option Border) (told : List Paper) (strokes : List Stroke) (us : List NestedUnit) (picture : ℕ → List Painting) (s : State) (all : List MadeSheet)
    → EndsBetweenTokens (dressed_preamble (length all) (reporting_of told).header us) → OnSheetsBegun told (WholeBegun us) s all
    → tokens (made_output border (dress_of told strokes) all us)
    ≡ tokens (dressed_preamble (length all) (reporting_of told).header us) ++ (flat_map (sheet_tokens border told strokes us picture) all ++ tokens (trailer_text us))
output_cut border told strokes us picture s all complete h =
    let begun : List ℕ = dressed_preamble (length all) (reporting_of told).header us in
    let middle : List ℕ = flat_map (λ (n, sheet). made_sheet_text border (dress_of told strokes) (pages us) n sheet) (enumerate_from 0 all) in
    let shown : List Token = flat_map (sheet_tokens border told strokes us picture) all in
    let last : List Token = tokens (trailer_text us) in
    let both : Reads Between (begun ++ middle) (tokens begun ++ shown) Between =
    reads_join Between Between Between begun middle (tokens begun) shown (complete_read begun complete) (sheets_read border told strokes us picture 0 s all h) in
    tokens_join (begun ++ middle) (trailer_text us) (ap (λ x. x.1) both)
    ∙ ap (λ ts. ts ++ last) (ap (λ x. x.0 ++ Scanner.ended_token x.1) both ∙ append-nil (tokens begun ++ shown))
    ∙ append_assoc (tokens begun) shown last

-- What the lines do in a machine, in states of which something holds.

pub record RunsLines (R : State → State → Type 0) (told : List Paper) (strokes : List Stroke) (I : State → Type 0) : Type 0 where
  pub starts : (paper : Paper) (s : State) (rest : List Token) (sheets : List (List Painting)) → I s
      → R (fresh s (start_tokens told paper ++ rest) [] sheets) (fresh (begun_on told paper s) rest [] sheets)
  pub stays : (paper : Paper) (s : State) → I s → I (begun_on told paper s)
  pub draws : (s : State) (ps : List Painting) (rest : List Token) (sheets : List (List Painting)) → I s
      → R (fresh s (mark_tokens strokes ++ rest) ps sheets) (fresh s rest (with_strokes s.graphics strokes ps) sheets)
  pub prints : (s : State) → I s → Prints R s

-- what is kept of a page is placed, and paints this
abbrev pub BodyBegun : (State → State → Type 0) → Option Border → List NestedUnit → (ℕ → List Painting) → State → Paper → ℕ → Type 0
BodyBegun R border us picture at own p = BodyPlaces R (still at) (page_frame border own) us 0 p (picture p)

slots_stay : (R : State → State → Type 0) (border : Option Border) (us : List NestedUnit) (picture : ℕ → List Painting) (s : State) (k : ℕ) (slots : List MadeSlot)
    → OnSlotsFrom (λ n. BodyBegun R border us picture s) k slots → AllOf (Stays R s) (flat_map (shown_slot border us picture) slots)
slots_stay R border us picture s k [] h = tt
slots_stay R border us picture s k (Blank ∷ slots) h = slots_stay R border us picture s k slots h
slots_stay R border us picture s k (Placed p item paper ∷ slots) h = (h.0.1 item, slots_stay R border us picture s (suc k) slots h.1)

same_graphics : (told : List Paper) (paper : Paper) (s : State) → (begun_on told paper s).graphics ≡ s.graphics
same_graphics [] paper s = refl
same_graphics (p ∷ []) paper s = refl
same_graphics (p ∷ q ∷ ps) paper s = refl

sheet_run : (R : State → State → Type 0) → AreRuns R → (border : Option Border) (told : List Paper) (strokes : List Stroke) (us : List NestedUnit) (picture : ℕ → List Painting) (I : State → Type 0) → RunsLines R told strokes I
    → (sheet : MadeSheet) (s : State) (g : Graphics) (rest : List Token) (before : List (List Painting)) → I s → s.graphics ≡ g → OnSlotsFrom (λ n. BodyBegun R border us picture (begun_on told sheet.paper s)) 0 sheet.slots
    → R (fresh s (sheet_tokens border told strokes us picture sheet ++ rest) [] before)
    (fresh (begun_on told sheet.paper s) rest [] (with_strokes g strokes (sheet_picture g (shown_sheet border us picture sheet) []) ∷ before))
sheet_run R m border told strokes us picture I lines sheet s g rest before i same h =
    let t : State = begun_on told sheet.paper s in
    let xs : List Shown = shown_sheet border us picture sheet in
    let sizes : List Token = start_tokens told sheet.paper in
    let marks : List Token = mark_tokens strokes in
    let last : List Token = Name (codes "showpage") ∷ [] in
    let printing : List Token = Name (codes "showpage") ∷ rest in
    let drawing : List Token = marks ++ printing in
    let paging : List Token = pages_of xs ++ drawing in
    let there : I t = lines.stays sheet.paper s i in
    let full : List Painting = sheet_picture t.graphics xs [] in
    let over : Graphics → List Painting = λ z. with_strokes z strokes (sheet_picture z xs []) in
    let end : Graphics → State = λ z. fresh t rest [] (over z ∷ before) in
    let bracketed : sheet_tokens border told strokes us picture sheet ++ rest ≡ sizes ++ paging =
    append_assoc sizes (pages_of xs ++ (marks ++ last)) rest
    ∙ ap (λ l. sizes ++ l) (append_assoc (pages_of xs) (marks ++ last) rest ∙ ap (λ l. pages_of xs ++ l) (append_assoc marks last rest)) in
    subst (λ ts. R (fresh s ts [] before) (end g)) (sym bracketed)
    (subst (λ z. R (fresh s (sizes ++ paging) [] before) (end z)) (same_graphics told sheet.paper s ∙ same)
    (m.joined (fresh s (sizes ++ paging) [] before) (fresh t paging [] before) (end t.graphics) (lines.starts sheet.paper s paging before i)
    (m.joined (fresh t paging [] before) (fresh t drawing full before) (end t.graphics)
    (pages_run R m (still t) t.graphics xs 0 [] before drawing (all_stay R t xs 0 (slots_stay R border us picture t 0 sheet.slots h)))
    (m.joined (fresh t drawing full before) (fresh t printing (over t.graphics) before) (end t.graphics) (lines.draws t full printing before there)
    (lines.prints t there (over t.graphics) before rest)))))

sheets_run : (R : State → State → Type 0) → AreRuns R → (border : Option Border) (told : List Paper) (strokes : List Stroke) (us : List NestedUnit) (picture : ℕ → List Painting) (I : State → Type 0) → RunsLines R told strokes I
    → (all : List MadeSheet) (s : State) (g : Graphics) (rest : List Token) (before : List (List Painting)) → I s → s.graphics ≡ g → OnSheetsBegun told (BodyBegun R border us picture) s all
    → R (fresh s (flat_map (sheet_tokens border told strokes us picture) all ++ rest) [] before)
    (fresh (after_sheets told s all) rest [] (dressed_pictures border strokes us picture g all before))
sheets_run R m border told strokes us picture I lines [] s g rest before i same h = m.stays (fresh s rest [] before)
sheets_run R m border told strokes us picture I lines (sheet ∷ all) s g rest before i same h =
    let first : List Token = sheet_tokens border told strokes us picture sheet in
    let others : List Token = flat_map (sheet_tokens border told strokes us picture) all in
    let more : List Token = others ++ rest in
    let t : State = begun_on told sheet.paper s in
    let now : List (List Painting) = with_strokes g strokes (sheet_picture g (shown_sheet border us picture sheet) []) ∷ before in
    let end : State = fresh (after_sheets told s (sheet ∷ all)) rest [] (dressed_pictures border strokes us picture g (sheet ∷ all) before) in
    subst (λ ts. R (fresh s ts [] before) end) (sym (append_assoc first others rest))
    (m.joined (fresh s (first ++ more) [] before) (fresh t more [] now) end
    (sheet_run R m border told strokes us picture I lines sheet s g more before i same h.0)
    (sheets_run R m border told strokes us picture I lines all t g rest now (lines.stays sheet.paper s i) (same_graphics told sheet.paper s ∙ same) h.1))

-- One property of each page from another.

pub on_begun : (told : List Paper) (I : State → Type 0) (P Q : State → Paper → ℕ → Type 0) → ((paper : Paper) (s : State) → I s → I (begun_on told paper s))
    → ((s : State) (own : Paper) (p : ℕ) → I s → P s own p → Q s own p) → (all : List MadeSheet) (s : State) → I s → OnSheetsBegun told P s all → OnSheetsBegun told Q s all
on_begun told I P Q stays f [] s i h = tt
on_begun told I P Q stays f (sheet ∷ all) s i h =
    let t : State = begun_on told sheet.paper s in
    let there : I t = stays sheet.paper s i in
    (on_slots (λ k. P t) (λ k. Q t) (λ k own p x. f t own p there x) 0 sheet.slots h.0, on_begun told I P Q stays f all t there h.1)

-- A document's sheets, with the lines that report these papers.
pub document_is_dressed : (R : State → State → Type 0) → AreRuns R → (start : List Token → State) (border : Option Border) (told : List Paper) (strokes : List Stroke) (all : List MadeSheet) (text : List ℕ) (us : List NestedUnit)
    (picture : ℕ → List Painting) (s : State) (I : State → Type 0) → RunsLines R told strokes I → I s → document_of text ≡ Ok us → comments_apart_with (reporting_of told).header us ≡ true
    → RunsOn R start (bytes_of (preamble us)) s → s.painted ≡ [] → OnSheetsBegun told (BodyBegun R border us picture) s all
    → R (start (tokens (made_output border (dress_of told strokes) all us)))
    (record (after_sheets told s all) { left = tokens (trailer_text us); painted = []; sheets = dressed_pictures border strokes us picture s.graphics all s.sheets })
document_is_dressed R m start border told strokes all text us picture s I lines i d apart run nothing_painted bodies =
    let header : List (List ℕ) = (reporting_of told).header in
    let first : List ℕ = dressed_preamble (length all) header us in
    let last : List Token = tokens (trailer_text us) in
    let more : List Token = flat_map (sheet_tokens border told strokes us picture) all ++ last in
    let begun : RunsOn R start first s =
    runs_alike R start (bytes_of (preamble us)) first s (dressed_runs_alike (length all) header text us (comments_read header (header_quiet told)) d apart run.0) run in
    let whole : OnSheetsBegun told (WholeBegun us) s all =
    on_begun told I (BodyBegun R border us picture) (WholeBegun us) lines.stays (λ at own p j x. x.0) all s i bodies in
    let end : State = fresh (after_sheets told s all) last [] (dressed_pictures border strokes us picture s.graphics all s.sheets) in
    subst (λ ts. R (start ts) end) (sym (output_cut border told strokes us picture s all begun.0 whole))
    (m.joined (start (tokens first ++ more)) (record s { left = more }) end (begun.1 more)
    (subst (λ ps. R (fresh s more ps s.sheets) end) (sym nothing_painted)
    (sheets_run R m border told strokes us picture I lines all s s.graphics last s.sheets i refl bodies)))
