-- What impose has written if it succeeds with sheets: one text, by the request and the input. Nothing is said here of refusals, of reports, or of
-- whether the request is what the words mean.
use Rattle.std.specs.Prelude.{◌≡◌, ⊤, ℕ, Bool, List, [], ◌∷◌, length, map, Option, None, Some, Result, Ok, Err, option_map, unwrap_or, string_bytes}
use Rattle.std.specs.Io.KnownBytes.{Appends}
use Rattle.rules.specs.Choice.{Choice, Signing, part_of, reversed_if}
use Rattle.rules.specs.Made.{MadeSheet}
use Rattle.rules.specs.MadeOutput.{made_output}
use Rattle.rules.specs.Output.{border_within}
use Rattle.rules.specs.Papers.{Paper}
use Rattle.rules.specs.Parts.{pages}
use Rattle.rules.specs.Ranges.{ranges_of, row_named}
use Rattle.rules.specs.Rows.{Row, all_pages}
use Rattle.rules.specs.Specification.{IsSpec, Spec, WrittenSpec, settled}
use Rattle.pagespec.specs.declared.item.Turn.{Turn}
use Rattle.dsc.specs.Units.{units_of}
use Rattle.paper_names.specs.Names.{paper_named}
use Rattle.papers.specs.AsOne.{first_instead_of, kind_paper, kinds, most_kinds}
use Rattle.papers.specs.Comments.{given_by_document}
use Rattle.papers.specs.Media.{header, trailer_lines, usual_in}
use Rattle.papers.specs.Own.{or_this}
use Rattle.papers.specs.Reported.{reporting}
use Rattle.dressing.specs.Numbered.{drawn_on}
use Rattle.sheet_text.specs.declared.numbers.Numbers.{Numbers}
use Rattle.rows.specs.LastPage.{last_at_back_if}
use Rattle.rows.specs.Printed.{laid_row}
use Rattle.rows.specs.Sewing.{signing_of}
use Rattle.row_sheets.specs.RowSheets.{selected_sheet}
use Rattle.row_runs.specs.Evened.{at_common_scale}
use Rattle.row_runs.specs.Marked.{strokes_in}
use Rattle.row_runs.specs.Numbers.{below_middle, named_places_from, paper_in, sheet_paper}
use Rattle.row_runs.specs.Sheets.{leaves_in, sheets_laid}
use Rattle.row_runs.specs.SwappedMargins.{swapped, swapped_room_in}
use Rattle.row_runs.specs.Turning.{turn_on, turned_sheet}
use Rattle.row_runs.specs.declared.sheet_request.Laying.{Laying}
use Rattle.row_runs.specs.declared.sheet_request.Laying.TheVariants as laying
use Rattle.world.specs.Outputs.{reported_if}
use Rattle.impose_words.specs.Choices.{choice_in}
use Rattle.impose_words.specs.Spacings.{swaps_margins}
use Rattle.impose_words.specs.declared.request.ImposeRequest.{ImposeRequest}
use Rattle.impose_words.specs.declared.request.Layout.{Layout}
use Rattle.impose_words.specs.declared.request.Layout.TheVariants as layout
use Rattle.impose_words.specs.declared.request.Spacing.{Spacing}
use Rattle.impose_messages.specs.declared.fault.ImposeFault.{ImposeFault}
use Rattle.impose_messages.specs.declared.finished.Done.{Done}
use Rattle.impose_words.specs.declared.request.Product.{Product}
use Rattle.impose_words.specs.declared.request.Product.TheVariants as product
use Rattle.impose_cli.specs.Fronts.{Inputs}
use Rattle.impose_cli.specs.Programs.{IsReadOf}
use Rattle.impose_cli.specs.RowTasks.{laying_in, own_in, paper_turned, papers_to_place, row_papers, sheet_paper_in, turns_of}
use Rattle.impose_cli.specs.RowsAsked.{begun_in, signing_in}
use Rattle.impose_cli.specs.Tasks.{taken_text}

-- ---- which pages, in which order

-- the pages of the ranges that are named, or all (RULES, 11.1)
abbrev pub pages_named : (pages : ℕ) → Option (List ℕ) → Row
pages_named n None = all_pages n
pages_named n (Some text) = row_named n (unwrap_or (ranges_of text) [])

-- all of these, the odd or the even ones, backwards on request (RULES, 11.2)
abbrev pub chosen_by : Choice → (pages : ℕ) → Row
chosen_by c n = reversed_if c.backwards (part_of c.part (pages_named n c.ranges))

-- the row that is asked for of this input
abbrev pub row_of : ImposeRequest → (input : List ℕ) → Row
row_of r input = chosen_by (choice_in r.choice) (length (pages (units_of input)))

-- how the row is put into signatures
abbrev pub sewn_as : ImposeRequest → Option Signing
sewn_as r = option_map signing_of (signing_in r.layout)

-- the row as it is laid: in its signatures, or from where it begins on the first sheet
abbrev pub row_laid : ImposeRequest → Row → Row
row_laid r row = laid_row (begun_in r.layout r.spacing) (sewn_as r) row

-- ---- papers

-- the document's paper: the one that is named for its pages, else the one that it says, else the one at home (RULES, 12.2)
abbrev pub paper_of_all : ImposeRequest → (input : List ℕ) → Paper
paper_of_all r input = let usual = usual_in r.default_paper input in
    unwrap_or r.page_paper (or_this (given_by_document paper_named usual (header input) (trailer_lines (units_of input))) usual)

-- the papers of the row's pages
abbrev pub taken_of : ImposeRequest → (input : List ℕ) → List Paper
taken_of r input = row_papers (row_of r input) (own_in r input (units_of input))

-- the paper for which sheets and cells are made: the document's, if it counts as one with that of a page of the row, and else that of the row's first
-- page. By a specification it is the document's, and for a selection's blanks it counts as those of the pages do (RULES, 12.5)
abbrev pub paper_for_cells : Layout → (document : Paper) → (taken : List Paper) → Paper
paper_for_cells (layout.Spec specs signing) document taken = document
paper_for_cells layout.Selection document taken = kind_paper (kinds most_kinds taken) (unwrap_or (first_instead_of document taken) document)
paper_for_cells other document taken = unwrap_or (first_instead_of document taken) document

-- the same for this request and input
abbrev pub cells_of : ImposeRequest → (input : List ℕ) → Paper
cells_of r input = paper_for_cells r.layout (paper_of_all r input) (taken_of r input)

-- the papers by which the document's pages are placed, before they are turned
abbrev pub counted_of : ImposeRequest → (input : List ℕ) → List Paper
counted_of r input = papers_to_place r.layout (cells_of r input) (taken_of r input) (own_in r input (units_of input))

-- the paper of sheets, for pages of the paper of cells once they are turned
abbrev pub sheets_paper : ImposeRequest → (input : List ℕ) → Paper
sheets_paper r input = sheet_paper_in r.layout r.sheet_paper (paper_turned r.turn (cells_of r input))

-- the paper of the first sheet, which the guard sets: that of all sheets, or a selection's own (RULES, 15)
abbrev pub paper_of_first : Layout → List Paper → (sheets : Paper) → Row → Paper
paper_of_first layout.Selection papers sheets (entry ∷ row) = (selected_sheet papers sheets entry).paper
paper_of_first other papers sheets row = sheets

-- ---- sheets

-- the text is that of this specification
abbrev pub IsTextOfSpec : List ℕ → Spec → Type 0
IsTextOfSpec text spec = (written : WrittenSpec) × IsSpec text written × (spec ≡ settled written)

-- a layout lays pages of this paper so on sheets of that: by the specification that it names, or in its own way
abbrev pub Lays : Layout → Spacing → (page sheet : Paper) → Laying → Type 0
Lays (layout.Spec specs signing) s page sheet (laying.BySpec spec on of) = IsTextOfSpec (string_bytes specs) spec.now × (on ≡ sheet) × (of ≡ page)
Lays other s page sheet l = laying_in other s page sheet ≡ Some l

-- a row on its sheets, before its pages are turned: laid so, with so many leaves in a signature, and on backs with left and right exchanged if that
-- is asked for
abbrev pub sheets_of : ImposeRequest → Laying → (leaves : ℕ) → List Paper → Row → List MadeSheet
sheets_of r l leaves papers row =
    swapped (swapped_room_in (swaps_margins r.layout r.spacing) l) (sheets_laid l leaves papers (row_laid r row))

-- the numbers of its pages, if they are asked for: they lie on the same sheets, on which each page goes by its place in the row
abbrev pub page_numbers : ImposeRequest → Laying → (leaves : ℕ) → List Paper → Row → Option Numbers
page_numbers r l leaves papers row = option_map (λ how. record {
  size = how.size;
  first = how.first;
  places = sheets_of r l leaves (map (paper_in papers (sheet_paper l)) row) (named_places_from 0 row);
  below = below_middle l;
}) r.marks.numbers

-- the output of a text's document for this row: its pages are turned as is asked for, sheets report their papers, and marks and numbers are drawn on them
abbrev pub row_output : ImposeRequest → Laying → (leaves : ℕ) → List Paper → List Turn → Row → (text : List ℕ) → List ℕ
row_output r l leaves papers turns row text =
    let made = map (turned_sheet (turn_on turns)) (sheets_of r l leaves papers row) in
    made_output (border_within r.spacing.free.trim r.border)
    (drawn_on (record { strokes = strokes_in r.marks l; numbers = page_numbers r l leaves papers row }) (reporting made)) made (units_of text)

-- the same for the pages that are chosen: in signatures, blanks may come before the last page, and all pages in cells may have one scale
abbrev pub laid_output : ImposeRequest → Laying → List Paper → List Turn → Row → (text : List ℕ) → List ℕ
laid_output r l papers turns chosen text =
    let row = last_at_back_if r.last_at_back (sewn_as r) chosen in
    row_output r (at_common_scale r.spacing.same_scale l papers (row_laid r row)) (leaves_in (sewn_as r) row) papers turns row text

-- The text is that of the row that is asked for of this input, as its layout lays it, with the guard in it if that is asked for.
abbrev pub IsTextOf : ImposeRequest → (input text : List ℕ) → Type 0
IsTextOf r input text =
    let papers = map (paper_turned r.turn) (counted_of r input) in
    (l : Laying) × Lays r.layout r.spacing (paper_turned r.turn (cells_of r input)) (sheets_paper r input) l
    × (text ≡ laid_output r l papers (turns_of r.turn (counted_of r input)) (row_of r input)
    (taken_text r.is_guarded (paper_of_first r.layout papers (sheets_paper r input) (row_of r input)) input))

-- ---- the program

-- If sheets are asked for, they are of the document in the request's input, as far as that is known, and exactly their text was written to its output, if
-- outputs report what they have. Of a specification, a list or a drawing nothing is said here.
abbrev pub HasMade : Product → ImposeRequest → Inputs → (reports_outputs : Bool) → (written : Option (List ℕ)) → Type 0
HasMade product.Sheets r gives reports_outputs written =
    (input text : List ℕ) × IsReadOf (gives (option_map string_bytes r.infile)) input × IsTextOf r input text
    × Appends (reported_if reports_outputs (option_map string_bytes r.outfile) []) written text
HasMade other r gives reports_outputs written = ⊤

-- success is that of a request; of a refusal or a failure nothing is said here
abbrev pub HasFinished : Option ImposeRequest → Result Done ImposeFault → Inputs → (reports_outputs : Bool) → (written : Option (List ℕ)) → Type 0
HasFinished (Some r) (Ok done) gives reports_outputs written = HasMade r.product r gives reports_outputs written
HasFinished None (Ok done) gives reports_outputs written = ⊥
HasFinished request (Err fault) gives reports_outputs written = ⊤

-- a request and an input have one text at most: what writes other bytes, and says that it has imposed the request, breaks the promise. A law
abbrev pub OneText : Type 0
OneText = (r : ImposeRequest) (input one other : List ℕ) → IsTextOf r input one → IsTextOf r input other → one ≡ other
