-- What is imposed of a row of pages, and how: a request for a document, if its layout lays rows on sheets.
use Rattle.std.specs.Prelude.{◌≡◌, ⊤, string_bytes, ℕ, ◌+◌, Bool, true, false, ◌&&◌, if◌then◌else◌, List, [], ◌∷◌, length, Option, Some, None, Result, Ok, Err, IfSome, is_some, option_map, option_and_then, map, slice_get, ◌||◌, not}
use Rattle.std.specs.Ordering.{int_eq}
use Rattle.rules.specs.Admissible.{Takes, most_slots}
use Rattle.rules.specs.Papers.{Paper}
use Rattle.rules.specs.Specification.{Spec}
use Rattle.rules.specs.Parts.{NestedUnit, pages}
use Rattle.rules.specs.Run.{document_of}
use Rattle.rules.specs.Choice.{RowFault, imposed_row}
use Rattle.rules.specs.Rows.{Row}
use Rattle.row_sheets.specs.RowSheets.{selected_sheet}
use Rattle.rows.specs.Printed.{asked_by}
use Rattle.rows.specs.Sewing.{MayBeSewn}
use Rattle.layouts.specs.Fitted.{binding_setting_of, setting_of}
use Rattle.layouts.specs.Grids.{cells_per_sheet, is_same, rounded_down, rounded_up}
use Rattle.layouts.specs.Refusals.{error_unless, is_length, why_not_arranged, why_not_bound}
use Rattle.layouts.specs.declared.arrangement.Free.{Free}
use Rattle.layouts.specs.declared.arrangement.Arrangement.{Arrangement}
use Rattle.layouts.specs.declared.error.ArrangementError.TheVariants as why
use Rattle.paper_names.specs.Names.{paper_named}
use Rattle.papers.specs.Own.{papers_of_each_page}
use Rattle.papers.specs.AsOne.{merge_near_sizes, first_instead_of, kinds, most_kinds, kind_paper}
use Rattle.papers.specs.Cuts.{cut_of}
use Rattle.papers.specs.Reach.{page_boxes}
use Rattle.papers.specs.declared.boxes.Edges.{Edges}
use Rattle.papers.specs.declared.cuts.Cut.{Cut}
use Rattle.impose_cli.specs.RowRuns.{Imposes}
use Rattle.row_runs.specs.Sheets.{MayBeLaid}
use Rattle.sheet_text.specs.Jobs.{is_border}
use Rattle.imposer.specs.declared.outcome.Report.{Report}
use Rattle.row_runs.specs.declared.sheet_request.Laying.{Laying}
use Rattle.row_runs.specs.declared.sheet_request.Laying.TheVariants as laying
use Rattle.row_sheets.specs.declared.fill.Scheme.TheVariants as scheme
use Rattle.row_runs.specs.declared.run.RowJob.{RowJob}
use Rattle.impose_words.specs.Choices.{choice_in}
use Rattle.row_sheets.specs.Posters.{why_no_poster}
use Rattle.row_sheets.specs.declared.poster.Poster.{Poster}
use Rattle.impose_words.specs.Spacings.{arrangement_in, binding_in, swaps_margins, notes_in, zine_in}
use Rattle.impose_words.specs.declared.request.Spacing.{Spacing}
use Rattle.impose_cli.specs.PosterSizes.{poster_of}
use Rattle.impose_cli.specs.Claims.{AreClaimsOf}
use Rattle.impose_cli.specs.Loose.{loose_on}
use Rattle.impose_cli.specs.Reaches.{reach_in, reach_on}
use Rattle.impose_cli.specs.RowsAsked.{row_asked, scheme_in, signing_in}
use Rattle.impose_cli.specs.Taken.{row_in, taken_in, takes}
use Rattle.pagespec.specs.Items.{turn_of}
use Rattle.pagespec.specs.declared.item.Turn.{Turn}
use Rattle.pagespec.specs.declared.item.Turn.TheVariants as by
use Rattle.impose_words.specs.Arranging.{turn_for}
use Rattle.impose_words.specs.declared.request.Turning.{Turning}
use Rattle.impose_words.specs.declared.request.Turning.TheVariants as turning
use Rattle.row_runs.specs.Turning.{turned_paper}
use Rattle.impose_cli.specs.Tasks.{page_paper_found, taken_text}
use Rattle.dsc.specs.PagesAfter.{pages_after}
use Rattle.impose_words.specs.SheetPapers.{sheet_paper_for}
use Rattle.impose_messages.specs.declared.fault.ImposeFault.{ImposeFault}
use Rattle.impose_messages.specs.declared.fault.ImposeFault.TheVariants as fault
use Rattle.impose_words.specs.declared.request.Layout.{Layout}
use Rattle.impose_words.specs.declared.request.Layout.TheVariants as layout
use Rattle.impose_words.specs.declared.request.ImposeRequest.{ImposeRequest}
use Rattle.impose_messages.specs.declared.finished.Findings.{Findings}
use Rattle.impose_messages.specs.declared.finished.Finished.{Finished}
use Rattle.impose_messages.specs.declared.finished.PaperOrigin.{PaperOrigin}
use Rattle.impose_messages.specs.declared.finished.PaperOrigin.TheVariants.{Covering, FirstPage}
use Rattle.impose_messages.specs.declared.finished.SheetFacts.{SheetFacts}
use Rattle.impose_cli.specs.declared.laying.RowLaying.{RowLaying}
use Rattle.impose_cli.specs.declared.laying.RowLaying.TheVariants as row
use Rattle.impose_cli.specs.declared.row_task.RowTask.{RowTask}

-- its signatures have as many sides as they may have, and a border is wider than nothing
abbrev pub HasOptions : ImposeRequest → Type 0
HasOptions r = IfSome (signing_in r.layout) MayBeSewn × (is_border r.border ≡ true)

-- the paper of the sheets of a layout, for pages of this paper: a selection keeps pages on their own (RULES, 12.5)
abbrev pub sheet_paper_in : Layout → (named : Option Paper) → (page_paper : Paper) → Paper
sheet_paper_in layout.Selection named page_paper = page_paper
sheet_paper_in other named page_paper = sheet_paper_for other named page_paper

-- the cells that a layout asks for, or else those of a zine
abbrev pub cells_of_layout : Layout → Spacing → Arrangement
cells_of_layout (layout.NUp cells) s = arrangement_in s cells
cells_of_layout (layout.Cards cells) s = arrangement_in s cells
cells_of_layout (layout.Stack cells duplex) s = arrangement_in s cells
cells_of_layout (layout.Notes pages) s = notes_in s pages
cells_of_layout other s = zine_in s

abbrev pub filled_in : Layout → Spacing → Arrangement → (page_paper sheet_paper : Paper) → Laying
filled_in l s a page sheet = laying.InCells (setting_of page sheet a) (scheme_in l s (cells_per_sheet a.cells))

-- one sheet of this paper, with one margin along all edges: of it and of the overlap none is lost
abbrev pub one_tile : Spacing → (sheet : Paper) → Poster
one_tile s sheet = record {
  sheet = sheet;
  columns = 1;
  rows = 1;
  edge = rounded_up s.free.left;
  overlap = rounded_up s.overlap;
  scale = s.scale;
}

-- how a layout lays a row of pages of a paper on sheets, if it does and names no specification for it (RULES, 14)
abbrev pub laying_in : Layout → Spacing → (page_paper sheet_paper : Paper) → Option Laying
laying_in (layout.Booklet signing long_edge) s page sheet =
    Some (laying.InCells (binding_setting_of sheet (binding_in s long_edge)) (scheme.Booklet long_edge (rounded_down s.creep)))
laying_in (layout.Poster size) s page sheet = Some (laying.Poster (poster_of size page (one_tile s sheet)))
laying_in layout.Selection s page sheet = Some (laying.AsTheyAre sheet)
laying_in (layout.Spec specs signing) s page sheet = None
laying_in other s page sheet = Some (filled_in other s (cells_of_layout other s) page sheet)

-- as much is kept free along opposite edges, or along all
abbrev pub has_even_margins : Free → Bool
has_even_margins f = int_eq f.left f.right && int_eq f.bottom f.top

abbrev pub has_one_margin : Free → Bool
has_one_margin f = has_even_margins f && int_eq f.left f.bottom

-- margins are as even as the layout needs them: leaves, and sheets that are turned by half, need even ones
abbrev pub is_even_enough : Layout → Free → Bool
is_even_enough (layout.Stack cells duplex) f = not duplex || has_even_margins f
is_even_enough (layout.Poster size) f = has_one_margin f
is_even_enough layout.Zine f = has_even_margins f
is_even_enough other f = true

-- the fault that says why it can't, with margins that are (RULES, 16, step 9)
abbrev pub why_not_placed : Layout → Spacing → (page_paper sheet_paper : Paper) → Option ImposeFault
why_not_placed (layout.Booklet signing long_edge) s page sheet = option_map fault.Layout
    (error_unless (is_length s.creep) why.LengthOutOfRange (why_not_bound page sheet (binding_in s long_edge)))
why_not_placed (layout.Poster size) s page sheet = if is_length s.free.left && is_length s.overlap
    then option_map fault.Poster (why_no_poster page (poster_of size page (one_tile s sheet)))
    else Some (fault.Layout why.LengthOutOfRange)
why_not_placed layout.Selection s page sheet = None
why_not_placed (layout.Spec specs signing) s page sheet = None
why_not_placed other s page sheet = option_map fault.Layout (why_not_arranged page sheet (cells_of_layout other s))

-- and with others
abbrev pub why_no_layout : Layout → Spacing → (page_paper sheet_paper : Paper) → Option ImposeFault
why_no_layout l s page sheet =
    if is_even_enough l s.free then why_not_placed l s page sheet else Some (fault.Layout why.UnevenMargins)

-- a paper of pages once they are turned
abbrev pub paper_turned : Turning → (page_paper : Paper) → Paper
paper_turned turning page_paper = turned_paper (turn_of (turn_for turning page_paper)) page_paper

abbrev pub cells_paper : ImposeRequest → (page_paper : Paper) → Paper
cells_paper r page_paper = paper_turned r.turn page_paper

-- the turns of pages of these papers; none is listed if no page is to be turned
abbrev pub turns_of : Turning → (papers : List Paper) → List Turn
turns_of (turning.All by.None) papers = []
turns_of turning papers = map (turn_for turning) papers

-- the layout names this specification for a row
abbrev pub TakesNamed : Layout → Spec → Type 0
TakesNamed (layout.Spec specs signing) spec = Takes most_slots (string_bytes specs) spec
TakesNamed other spec = ⊥

-- a layout lays a row of pages of this paper so on sheets of that: by the specification that it names, or in its own way
abbrev pub LaysSo : Layout → Spacing → (page_paper sheet_paper : Paper) → Laying → Type 0
LaysSo l s page_paper sheet_paper (laying.BySpec spec sheet page) = TakesNamed l spec.now × (sheet ≡ sheet_paper) × (page ≡ page_paper)
LaysSo l s page_paper sheet_paper other = laying_in l s page_paper sheet_paper ≡ Some other

-- the same of the laying of a task, to which the specification belongs
abbrev pub IsLaidSo : Layout → Spacing → (page_paper sheet_paper : Paper) → RowLaying → Type 0
IsLaidSo l s page_paper sheet_paper (row.Named spec sheet page) = TakesNamed l spec × (sheet ≡ sheet_paper) × (page ≡ page_paper)
IsLaidSo l s page_paper sheet_paper (row.Plain how) = laying_in l s page_paper sheet_paper ≡ Some how

-- the laying that a task's is
abbrev pub IsLayingOf : RowLaying → Laying → Type 0
IsLayingOf (row.Plain how) l = l ≡ how
IsLayingOf (row.Named spec sheet page) (laying.BySpec named sheet_paper page_paper) =
    (named.now ≡ spec) × (sheet_paper ≡ sheet) × (page_paper ≡ page)
IsLayingOf (row.Named spec sheet page) other = ⊥

-- a task may be laid; by a specification it always may
abbrev pub MayBeLaidSo : RowLaying → Type 0
MayBeLaidSo (row.Plain how) = MayBeLaid how
MayBeLaidSo (row.Named spec sheet page) = ⊤

-- a request lays pages of this paper so on its sheets
abbrev pub LaysBy : ImposeRequest → (page_paper : Paper) → Laying → Type 0
LaysBy r page_paper l = let paper = cells_paper r page_paper in
    LaysSo r.layout r.spacing paper (sheet_paper_in r.layout r.sheet_paper paper) l

abbrev pub IsLaidBy : ImposeRequest → (page_paper : Paper) → RowLaying → Type 0
IsLaidBy r page_paper l = let paper = cells_paper r page_paper in
    IsLaidSo r.layout r.spacing paper (sheet_paper_in r.layout r.sheet_paper paper) l

-- why a request can't lay them so
abbrev pub why_no_row : ImposeRequest → (page_paper : Paper) → Option ImposeFault
why_no_row r page_paper = let paper = cells_paper r page_paper in
    why_no_layout r.layout r.spacing paper (sheet_paper_in r.layout r.sheet_paper paper)

-- the paper of a selection's first sheet; blank sheets have this one
abbrev pub first_paper : Result Row RowFault → (papers : List Paper) → (blank : Paper) → Paper
first_paper (Ok (entry ∷ row)) papers blank = (selected_sheet papers blank entry).paper
first_paper (Ok []) papers blank = blank
first_paper (Err fault) papers blank = blank

abbrev pub guarded_in : Layout → (first sheet_paper : Paper) → Paper
guarded_in layout.Selection first sheet_paper = first
guarded_in other first sheet_paper = sheet_paper

-- the paper for which the guard sets the page size: that of the sheets, and of a selection that of its first sheet, since
-- sheets of several papers set their own (RULES, 15)
abbrev pub guarded_paper : ImposeRequest → (papers : List Paper) → (page_paper : Paper) → Paper
guarded_paper r papers page_paper = let sheet_paper = sheet_paper_in r.layout r.sheet_paper (cells_paper r page_paper) in
    guarded_in r.layout (first_paper (imposed_row (length papers) (choice_in r.choice) None) papers sheet_paper) sheet_paper

-- the document, with the guard in it if it is asked for
abbrev pub text_for : ImposeRequest → (papers : List Paper) → (page_paper : Paper) → (input : List ℕ) → List ℕ
text_for r papers page_paper input = taken_text r.is_guarded (guarded_paper r papers page_paper) input

-- the papers of the document's pages: the one that is named, and else each page's own
abbrev pub own_in : ImposeRequest → (input : List ℕ) → List NestedUnit → List Paper
own_in r input us = papers_of_each_page r.page_paper paper_named r.default_paper input us

abbrev pub or_without : Option Paper → List Paper → List Paper
or_without None papers = papers
or_without (Some paper) papers = paper ∷ papers

-- the papers of a row's pages, in its order
abbrev pub row_papers : Row → (own : List Paper) → List Paper
row_papers [] own = []
row_papers (entry ∷ row) own = or_without (option_and_then (slice_get own) entry) (row_papers row own)

-- what is taken for the document's paper, if it is that of no page: the first page's
abbrev pub or_first : Paper × PaperOrigin → Option Paper → Paper × PaperOrigin
or_first found None = found
or_first found (Some first) = (first, FirstPage)

-- a specification places all pages by the document's paper
abbrev pub paper_for : Layout → Paper × PaperOrigin → (taken : List Paper) → Paper × PaperOrigin
paper_for (layout.Spec specs signing) found taken = found
paper_for other found taken = or_first found (first_instead_of found.0 taken)

-- a selection's counts among those of the row's pages as theirs do, since its blanks lie between these (RULES, 12.5)
abbrev pub counted_among : Layout → (taken : List Paper) → Paper → Paper
counted_among layout.Selection taken paper = kind_paper (kinds most_kinds taken) paper
counted_among other taken paper = paper

-- what it counts as may be larger than the paper that was found
abbrev pub counted_origin : (found counted : Paper) → PaperOrigin → PaperOrigin
counted_origin found counted origin = if is_same found counted then origin else Covering

abbrev pub counted_for : Layout → (taken : List Paper) → Paper × PaperOrigin → Paper × PaperOrigin
counted_for l taken found = let counted = counted_among l taken found.0 in (counted, counted_origin found.0 counted found.1)

-- the paper for which sheets and cells are made, and where it was found: the document's, if a page of the row has it or one
-- near to it, and else that of the row's first page (RULES, 12.5)
abbrev pub row_paper : ImposeRequest → (input : List ℕ) → List NestedUnit → Paper × PaperOrigin
row_paper r input us = let taken = row_papers (row_in r us) (own_in r input us) in
    counted_for r.layout taken (paper_for r.layout (page_paper_found r.page_paper r.default_paper input) taken)

abbrev pub IsRowPaper : ImposeRequest → (input : List ℕ) → Paper × PaperOrigin → Type 0
IsRowPaper r input found = (us : List NestedUnit) × (document_of input ≡ Ok us) × (found ≡ row_paper r input us)

-- the papers of the pages: each its own. A selection puts pages whose papers count as one on one (RULES, 12.4), and a
-- specification places all by one
abbrev pub papers_to_place : Layout → (one : Paper) → (taken own : List Paper) → List Paper
papers_to_place layout.Selection one taken own = merge_near_sizes taken own
papers_to_place (layout.Spec specs signing) one taken own = map (λ paper. one) own
papers_to_place other one taken own = own

abbrev pub counted_in : ImposeRequest → (input : List ℕ) → List NestedUnit → List Paper
counted_in r input us = let own = own_in r input us in
    papers_to_place r.layout (row_paper r input us).0 (row_papers (row_in r us) own) own

-- by which the pages are placed, once they are turned; each is turned by its own (RULES, 13.7)
abbrev pub papers_in : ImposeRequest → (input : List ℕ) → List NestedUnit → List Paper
papers_in r input us = map (cells_paper r) (counted_in r input us)

abbrev pub turns_in : ImposeRequest → (input : List ℕ) → List NestedUnit → List Turn
turns_in r input us = turns_of r.turn (counted_in r input us)

-- the document is accepted, and its pages have these turns
abbrev pub HasTurns : ImposeRequest → (input : List ℕ) → List Turn → Type 0
HasTurns r input turns = (us : List NestedUnit) × (document_of input ≡ Ok us) × (turns ≡ turns_in r input us)

-- pages that the named paper cuts are reported apart from those that reach beyond their papers, but by a specification
abbrev pub has_cuts_apart : Layout → Bool
has_cuts_apart (layout.Spec specs signing) = false
has_cuts_apart other = true

-- papers of pages from this number on, with another one for each page that the row doesn't take
abbrev pub taken_from : Row → (other : Paper) → (first : ℕ) → (own : List Paper) → List Paper
taken_from row other n [] = []
taken_from row other n (p ∷ ps) = (if takes row n then p else other) ∷ taken_from row other (n + 1) ps

-- the pages of a row that a paper cuts
abbrev pub cut_on : Row → (paper : Paper) → (own : List Paper) → Option Cut
cut_on row paper own = cut_of paper (taken_from row paper 0 own)

-- the pages that the named paper cuts, of those that are taken: one that names no paper has the named one
abbrev pub cut_by_named : Option Paper → Row → (input : List ℕ) → List NestedUnit → Option Cut
cut_by_named None row input us = None
cut_by_named (Some named) row input us = cut_on row named (papers_of_each_page None paper_named named input us)

-- RULES, 17
abbrev pub cut_in : ImposeRequest → (input : List ℕ) → List NestedUnit → Option Cut
cut_in r input us = cut_by_named (if has_cuts_apart r.layout then r.page_paper else None) (row_in r us) input us

-- the cover of the pages that are taken, if the named paper is larger, and no page reaches beyond its own by its box
abbrev pub loose_for : Row → (named : Paper) → (own : List Paper) → (boxes : List (Option Edges)) → Option Paper
loose_for row named own boxes = if is_some (reach_on true row own own boxes) then None else loose_on named (row_papers row own)

-- a page that names no paper has the named one
abbrev pub loose_by_named : Option Paper → Row → (input : List ℕ) → List NestedUnit → Option Paper
loose_by_named None row input us = None
loose_by_named (Some named) row input us =
    loose_for row named (papers_of_each_page None paper_named named input us) (page_boxes input us)

-- RULES, 17
abbrev pub loose_in : ImposeRequest → (input : List ℕ) → List NestedUnit → Option Paper
loose_in r input us = loose_by_named (if has_cuts_apart r.layout then r.page_paper else None) (row_in r us) input us

-- the document is accepted, and its pages have these papers
abbrev pub ArePapersOf : ImposeRequest → (input : List ℕ) → (papers : List Paper) → Type 0
ArePapersOf r input papers = (us : List NestedUnit) × (document_of input ≡ Ok us) × (papers ≡ papers_in r input us)

-- what a request that lays rows finds in a document that is accepted
pub record FindsForRow (r : ImposeRequest) (input : List ℕ) (f : Findings) : Type 0 where
  pub units : List NestedUnit
  pub document : document_of input ≡ Ok units
  pub page_paper : (f.page_paper, f.origin) ≡ row_paper r input units
  pub cut : f.cut ≡ cut_in r input units
  pub loose : f.loose ≡ loose_in r input units
  pub reach : f.reach ≡ reach_in (has_cuts_apart r.layout) r (counted_in r input units) input units
  pub after_trailer : f.after_trailer ≡ pages_after units
  pub taken : f.taken ≡ taken_in r units
  pub claims : AreClaimsOf r input units f.claims

-- the task is what the request asks for with this document
pub record IsRowTask (r : ImposeRequest) (input : List ℕ) (t : RowTask) : Type 0 where
  pub turns : HasTurns r input t.turns.items
  pub papers : ArePapersOf r input t.papers.items
  pub findings : FindsForRow r input t.findings
  pub text : t.text.items ≡ text_for r t.papers.items t.findings.page_paper input
  pub laying : IsLaidBy r t.findings.page_paper t.laying
  pub possible : why_no_row r t.findings.page_paper ≡ None
  pub may_be_laid : MayBeLaidSo t.laying
  pub options : HasOptions r

-- the job is the run of such a task
pub record IsJobOf (r : ImposeRequest) (t : RowTask) (job : RowJob) : Type 0 where
  pub document : document_of t.text.items ≡ Ok job.document.now
  pub turns : job.turns.now ≡ t.turns.items
  pub papers : job.papers.now ≡ t.papers.items
  pub row : asked_by job.asked.row ≡ row_asked r
  pub laying : IsLayingOf t.laying job.asked.laying
  pub same_scale : job.asked.same_scale ≡ r.spacing.same_scale
  pub border : job.border ≡ r.border
  pub inset : job.inset ≡ r.spacing.free.trim
  pub marks : job.marks ≡ r.marks
  pub swapped : job.swapped ≡ swaps_margins r.layout r.spacing

abbrev pub ImposesTask : ImposeRequest → RowTask → SheetFacts → (old new : Option (List ℕ)) → Report → Type 0
ImposesTask r t sheets old new report = (job : RowJob) × IsJobOf r t job × Imposes job sheets old new report

-- The request was carried out for this document: exactly the output was appended of the sheets on which its layout lays
-- its row, with the lines by which they report their papers and the marks that it asks for.
pub record FinishesRow (r : ImposeRequest) (input : List ℕ) (old new : Option (List ℕ)) (done : Finished) : Type 0 where
  pub task : RowTask
  pub is_task : IsRowTask r input task
  pub findings : done.findings ≡ task.findings
  pub job : RowJob
  pub is_job : IsJobOf r task job
  pub imposes : Imposes job done.sheets old new done.report
