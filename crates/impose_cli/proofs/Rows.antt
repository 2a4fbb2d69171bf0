-- What comes of a task with a row, and of a request.
use Rattle.std.proofs.Common.{◌≡◌, ◌<◌, ◌≤◌, ◌⊎◌, ◌∙◌, ap, ap₂, sym, subst, refl, arith, inl, inr, Bool, Bor, true, false, true≢false, List, [], ◌∷◌, ℕ, Option, Some, None, Result, Ok, Err}
use Rattle.std.specs.Prelude.{length, map, option_map, replicate, string_bytes}
use Rattle.rules.specs.Choice.{RowFault}
use Rattle.rules.specs.Rows.{Row}
use Rattle.rules.specs.Papers.{Paper}
use Rattle.rules.specs.Specification.{Spec}
use Rattle.std.proofs.lemmas.List.{length-map}
use Rattle.papers.specs.Media.{header, trailer_lines, usual_in}
use Rattle.papers.specs.Own.{own_paper, papers_of_each_page}
use Rattle.dsc.proofs.Reading.{accepted_cut}
use Rattle.dsc.proofs.Slices.{text_whole}
use Rattle.rules.specs.Parts.{NestedUnit, bytes_of, pages}
use Rattle.rules.specs.Run.{document_of, most_pages}
use Rattle.imposer.specs.declared.outcome.Report.{Report}
use Rattle.row_runs.specs.declared.run.RowJob.{RowJob}
use Rattle.impose_cli.specs.RowRuns.{Imposes}
use Rattle.impose_cli.specs.Endings.{Edge, Comes, IsImposed, RefusesRowRun, RefusesRowJob, RefusesRowTaskRun, RunsRequest, reported_by}
use Rattle.impose_cli.proofs.Counted.{has_pages}
use Rattle.impose_cli.proofs.Coming.{comes_as, comes_refused, comes_reported}
use Rattle.papers.specs.AsOne.{kinds, most_kinds, kind_paper}
use Rattle.pagespec.specs.declared.item.Turn.{Turn}
use Rattle.pagespec.specs.declared.item.Turn.TheVariants as by
use Rattle.impose_words.specs.declared.request.Turning.TheVariants as turning
use Rattle.paper_names.specs.Names.{paper_named}
use Rattle.impose_messages.specs.Faults.{without_memory}
use Rattle.dsc.specs.PagesAfter.{pages_after}
use Rattle.dsc.specs.Serving.{ArePartsOf, Serve}
use Rattle.dsc.specs.declared.parts.Parts.{Parts}
use Rattle.impose_messages.specs.declared.finished.PaperOrigin.{PaperOrigin}
use Rattle.impose_cli.specs.Claims.{AreClaimsOf}
use Rattle.impose_messages.specs.declared.finished.Findings.{Findings}
use Rattle.impose_messages.specs.declared.finished.SheetFacts.{SheetFacts}
use Rattle.impose_cli.specs.Tasks.{HasPageCount, page_paper_found}
use Rattle.impose_cli.specs.Refusals.{HasGoodName, RefusesDocument, RefusesFor, RefusesNamed, RefusesOptions, RefusesRowLayout, RefusesRowTask}
use Rattle.impose_cli.specs.Reaches.{reach_in}
use Rattle.impose_cli.specs.RowTasks.{ArePapersOf, FindsForRow, cut_in, loose_in, papers_in, papers_to_place, row_paper, text_for, why_no_row, FinishesRow, ImposesTask, IsJobOf, IsRowPaper, IsRowTask, HasTurns, IsLaidBy, IsLaidSo, IsLayingOf, LaysBy, LaysSo, TakesNamed, cells_paper, counted_among, counted_for, counted_in, counted_origin, first_paper, guarded_in, has_cuts_apart, paper_turned, turns_in, laying_in, own_in, paper_for, row_papers, sheet_paper_in}
use Rattle.impose_cli.specs.Taken.{row_in, row_or_none, taken_below, taken_in}
use Rattle.row_runs.specs.declared.sheet_request.Laying.{Laying}
use Rattle.row_runs.specs.declared.sheet_request.Laying.TheVariants as laying
use Rattle.impose_words.specs.declared.request.Spacing.{Spacing}
use Rattle.impose_cli.specs.declared.laying.RowLaying.{RowLaying}
use Rattle.impose_cli.specs.declared.laying.RowLaying.TheVariants as row
use Rattle.world.specs.declared.rest.Rest.{Rest}
use Rattle.world.specs.declared.rest.Rest.TheVariants.{World}
use Rattle.impose_messages.specs.declared.fault.ImposeFault.{ImposeFault}
use Rattle.impose_words.specs.declared.request.Layout.{Layout}
use Rattle.impose_words.specs.declared.request.Layout.TheVariants as layout
use Rattle.impose_words.specs.declared.request.ImposeRequest.{ImposeRequest}
use Rattle.impose_cli.specs.declared.row_task.RowTask.{RowTask}
use Rattle.impose_messages.specs.declared.finished.Done.{Done}

-- no layout lays a row by a specification in its own way
abbrev is_by_spec : Option Laying → Bool
is_by_spec (Some (laying.BySpec spec sheet page)) = true
is_by_spec other = false

never_by_spec : (l : Layout) (s : Spacing) (page sheet : Paper) → is_by_spec (laying_in l s page sheet) ≡ false
never_by_spec (layout.Booklet signing long_edge) s page sheet = refl
never_by_spec (layout.Poster size) s page sheet = refl
never_by_spec layout.Selection s page sheet = refl
never_by_spec (layout.Spec specs signing) s page sheet = refl
never_by_spec other s page sheet = refl

plainly : (l : Layout) (s : Spacing) (page sheet : Paper) (plain : Laying) (spec : Bor Spec) (of paper : Paper) → laying_in l s page sheet ≡ Some plain → plain ≡ laying.BySpec spec of paper → ⊥
plainly l s page sheet plain spec of paper is so = true≢false (sym (ap is_by_spec (is ∙ ap Some so)) ∙ never_by_spec l s page sheet)

-- the laying of a task's is what the request asks for
lays_by : (l : Layout) (s : Spacing) (page sheet : Paper) (own : RowLaying) (how : Laying) → IsLaidSo l s page sheet own → IsLayingOf own how → LaysSo l s page sheet how
lays_by l s page sheet (row.Named spec of pages) (laying.BySpec named sheets paper) is so =
    (subst (TakesNamed l) (sym so.0) is.0, so.1 ∙ is.1, so.2 ∙ is.2)
lays_by l s page sheet (row.Named spec of pages) (laying.AsTheyAre blank) is so = absurd so
lays_by l s page sheet (row.Named spec of pages) (laying.InCells t way) is so = absurd so
lays_by l s page sheet (row.Named spec of pages) (laying.Poster p) is so = absurd so
lays_by l s page sheet (row.Plain plain) (laying.BySpec named sheets paper) is so = absurd (plainly l s page sheet plain named sheets paper is (sym so))
lays_by l s page sheet (row.Plain plain) (laying.AsTheyAre blank) is so = is ∙ ap Some (sym so)
lays_by l s page sheet (row.Plain plain) (laying.InCells t way) is so = is ∙ ap Some (sym so)
lays_by l s page sheet (row.Plain plain) (laying.Poster p) is so = is ∙ ap Some (sym so)

-- the job is what the request asks for with this document, laid out for pages of this paper
pub record IsRowJob (r : ImposeRequest) (input : List ℕ) (page_paper : Paper) (job : RowJob) : Type 0 where
  pub document : document_of (text_for r job.papers.now page_paper input) ≡ Ok job.document.now
  pub turns : HasTurns r input job.turns.now
  pub laying : LaysBy r page_paper job.asked.laying

pub is_row_job : (r : ImposeRequest) (input : List ℕ) (t : RowTask) (job : RowJob) → IsRowTask r input t → IsJobOf r t job → IsRowJob r input t.findings.page_paper job
is_row_job r input t job is of = record {
  document = ap (λ ps. document_of (text_for r ps t.findings.page_paper input)) of.papers ∙ ap document_of (sym is.text) ∙ of.document;
  turns = subst (HasTurns r input) (sym of.turns) is.turns;
  laying = lays_by r.layout r.spacing _ _ t.laying job.asked.laying is.laying of.laying;
}

-- an accepted document is the whole of its text
whole : (input : List ℕ) (us : List NestedUnit) → document_of input ≡ Ok us → bytes_of us ≡ input
whole input us e = let read = accepted_cut input us e in ap bytes_of (sym read.1) ∙ sym (text_whole input read.0)

pub are_papers : (r : ImposeRequest) (input : List ℕ) (us : List NestedUnit) (papers : List Paper) → document_of input ≡ Ok us → papers ≡ papers_in r (bytes_of us) us
    → ArePapersOf r input papers
are_papers r input us papers read own = (us, read, own ∙ ap (λ t. papers_in r t us) (whole input us read))

-- papers of pages that aren't turned stay as they are
pub unturned_papers : (papers : List Paper) → map (paper_turned (turning.All by.None)) papers ≡ papers
unturned_papers [] = refl
unturned_papers (paper ∷ papers) = ap (λ (ps : List Paper). paper ∷ ps) (unturned_papers papers)

-- as many papers, all alike
pub all_alike : (own : List Paper) (one : Paper) → replicate (length own) one ≡ map (λ paper. one) own
all_alike [] one = refl
all_alike (paper ∷ own) one = ap (λ (ps : List Paper). one ∷ ps) (all_alike own one)

-- papers are found one after another: the pages' own, those of the row, and those that count
pub are_counted : (r : ImposeRequest) (us : List NestedUnit) (row : Row) (own taken counted : List Paper) (one : Paper) → own ≡ own_in r (bytes_of us) us
    → row ≡ row_in r us → taken ≡ row_papers row own → one ≡ (row_paper r (bytes_of us) us).0 → counted ≡ papers_to_place r.layout one taken own
    → counted ≡ counted_in r (bytes_of us) us
are_counted r us row own taken counted one own_is row_is taken_is one_is counted_is =
    counted_is ∙ ap (λ p. papers_to_place r.layout p taken own) one_is
    ∙ ap (λ t. papers_to_place r.layout (row_paper r (bytes_of us) us).0 t own) (taken_is ∙ ap (λ w. row_papers w own) row_is)
    ∙ ap (λ o. papers_to_place r.layout (row_paper r (bytes_of us) us).0 (row_papers (row_in r us) o) o) own_is

-- the paper for which sheets and cells are made
pub is_counted : (r : ImposeRequest) (us : List NestedUnit) (row : Row) (own taken : List Paper) (found : Paper × PaperOrigin) (one : Paper) → own ≡ own_in r (bytes_of us) us → row ≡ row_in r us → taken ≡ row_papers row own
    → found ≡ paper_for r.layout (page_paper_found r.page_paper r.default_paper (bytes_of us)) taken → one ≡ counted_among r.layout taken found.0 → one ≡ (row_paper r (bytes_of us) us).0
is_counted r us row own taken found one own_is row_is taken_is found_is one_is =
    let papers : taken ≡ row_papers (row_in r us) (own_in r (bytes_of us) us) = taken_is ∙ ap₂ row_papers row_is own_is in
    let first = found_is ∙ ap (paper_for r.layout (page_paper_found r.page_paper r.default_paper (bytes_of us))) papers in
    one_is ∙ ap₂ (λ (t : List Paper) (f : Paper × PaperOrigin). counted_among r.layout t f.0) papers first

-- and where it was found
pub is_found : (r : ImposeRequest) (us : List NestedUnit) (row : Row) (own taken : List Paper) (found : Paper × PaperOrigin) (one : Paper) (origin : PaperOrigin) → own ≡ own_in r (bytes_of us) us → row ≡ row_in r us → taken ≡ row_papers row own
    → found ≡ paper_for r.layout (page_paper_found r.page_paper r.default_paper (bytes_of us)) taken → one ≡ counted_among r.layout taken found.0 → origin ≡ counted_origin found.0 one found.1
    → (one, origin) ≡ row_paper r (bytes_of us) us
is_found r us row own taken found one origin own_is row_is taken_is found_is one_is origin_is =
    let papers : taken ≡ row_papers (row_in r us) (own_in r (bytes_of us) us) = taken_is ∙ ap₂ row_papers row_is own_is in
    let first = found_is ∙ ap (paper_for r.layout (page_paper_found r.page_paper r.default_paper (bytes_of us))) papers in
    ap₂ (λ (p : Paper) (o : PaperOrigin). (p, o)) one_is (origin_is ∙ ap (λ (p : Paper). counted_origin found.0 p found.1) one_is)
    ∙ ap₂ (counted_for r.layout) papers first

-- the paper for which they are made is that of the request's row
pub row_paper_of : (r : ImposeRequest) (input : List ℕ) (f : Findings) → FindsForRow r input f → IsRowPaper r input (f.page_paper, f.origin)
row_paper_of r input f is = (is.units, is.document, is.page_paper)

pub has_turns : (r : ImposeRequest) (input : List ℕ) (us : List NestedUnit) (turns : List Turn) → document_of input ≡ Ok us → turns ≡ turns_in r (bytes_of us) us → HasTurns r input turns
has_turns r input us turns read e = (us, read, e ∙ ap (λ t. turns_in r t us) (whole input us read))

pub finds_for_row : (r : ImposeRequest) (input : List ℕ) (us : List NestedUnit) (f : Findings) → document_of input ≡ Ok us → (f.page_paper, f.origin) ≡ row_paper r (bytes_of us) us → f.cut ≡ cut_in r (bytes_of us) us → f.loose ≡ loose_in r (bytes_of us) us
    → f.reach ≡ reach_in (has_cuts_apart r.layout) r (counted_in r (bytes_of us) us) (bytes_of us) us → f.after_trailer ≡ pages_after us → f.taken ≡ taken_in r us → AreClaimsOf r (bytes_of us) us f.claims
    → FindsForRow r input f
finds_for_row r input us f read paper cut loose reach after_trailer taken claims = let same = whole input us read in
    record {
      units = us;
      document = read;
      page_paper = paper ∙ ap (λ t. row_paper r t us) same;
      cut = cut ∙ ap (λ t. cut_in r t us) same;
      loose = loose ∙ ap (λ t. loose_in r t us) same;
      reach = reach ∙ ap (λ t. reach_in (has_cuts_apart r.layout) r (counted_in r t us) t us) same;
      after_trailer = after_trailer;
      taken = taken;
      claims = subst (λ t. AreClaimsOf r t us f.claims) same claims;
    }

-- a document's own parts serve for it, and are those of its text
pub are_parts : (input : List ℕ) (us : List NestedUnit) (p : Parts) → document_of input ≡ Ok us → ArePartsOf (bytes_of us) p → ArePartsOf input p
are_parts input us p read are = subst (λ text. ArePartsOf text p) (whole input us read) are

pub serve_itself : (text : List ℕ) (p : Parts) → ArePartsOf text p → Serve p text
serve_itself text p are = record { of = text; are = are; longer = omega arith; accepted = λ few. are.parts.accepted; same = λ few. refl }

-- what is counted of the row of a choice is counted of the request's
pub counts_taken : (r : ImposeRequest) (us : List NestedUnit) (row : Row) (m n : ℕ) → m ≡ length (pages us) → row ≡ row_in r us → n ≡ taken_below row m → n ≡ taken_in r us
counts_taken r us row m n count is e = e ∙ ap (taken_below row) count ∙ ap (λ taken. taken_below taken (length (pages us))) is

pub accepted_has_pages : (input : List ℕ) (us : List NestedUnit) → document_of input ≡ Ok us → (n : ℕ) × HasPageCount input n
accepted_has_pages input us read = (length (pages us), (us, read, refl))

-- as many papers as pages
pub papers_len : (named : Option Paper) (names : List ℕ → Option Paper) (home : Paper) (text : List ℕ) (us : List NestedUnit)
    → length (papers_of_each_page named names home text us) ≡ length (pages us)
papers_len (Some paper) names home text us = length-map (pages us) (λ page. paper)
papers_len None names home text us = length-map (pages us) (own_paper names (usual_in home text) (header text) (trailer_lines us))

placed_len : (l : Layout) (one : Paper) (taken own : List Paper) → length (papers_to_place l one taken own) ≡ length own
placed_len layout.Selection one taken own = length-map own (kind_paper (kinds most_kinds taken))
placed_len (layout.Spec specs signing) one taken own = length-map own (λ paper. one)
placed_len other one taken own = refl

pub as_many : (r : ImposeRequest) (us : List NestedUnit) (one : Paper) (taken own counted papers : List Paper) (n : ℕ) → n ≡ length (pages us)
    → own ≡ papers_of_each_page r.page_paper paper_named r.default_paper (bytes_of us) us → counted ≡ papers_to_place r.layout one taken own → papers ≡ map (cells_paper r) counted
    → n ≡ length papers
as_many r us one taken own counted papers n count is placed turned = count
    ∙ sym (ap length turned ∙ length-map counted (cells_paper r) ∙ ap length placed ∙ placed_len r.layout one taken own ∙ ap length is ∙ papers_len r.page_paper paper_named r.default_paper (bytes_of us) us)

-- a document has a page, and so a paper, but not too many
pub papers_count : (r : ImposeRequest) (input : List ℕ) (papers : List Paper) → ArePapersOf r input papers → (0 < length papers) × (length papers ≤ most_pages)
papers_count r input papers is =
    let us = is.0 in
    let own = own_in r input us in
    let count : length papers ≡ length (pages us) = ap length is.2 ∙ length-map (counted_in r input us) (cells_paper r)
    ∙ placed_len r.layout (row_paper r input us).0 (row_papers (row_in r us) own) own ∙ papers_len r.page_paper paper_named r.default_paper input us in
    subst (λ n. (0 < n) × (n ≤ most_pages)) (sym count) (has_pages input us is.1)

-- a choice that gives no row has no first entry
first_of : (found : Result Row RowFault) (papers : List Paper) (blank : Paper) → first_paper (Ok (row_or_none found)) papers blank ≡ first_paper found papers blank
first_of (Ok row) papers blank = refl
first_of (Err fault) papers blank = refl

pub guarded_by : (l : Layout) (found : Result Row RowFault) (row : Row) (papers : List Paper) (given sheet : Paper) → row ≡ row_or_none found → given ≡ sheet
    → guarded_in l (first_paper (Ok row) papers given) given ≡ guarded_in l (first_paper found papers sheet) sheet
guarded_by l found row papers given sheet is same =
    ap₂ (λ r s. guarded_in l (first_paper (Ok r) papers s) s) is same ∙ ap (λ p. guarded_in l p sheet) (first_of found papers sheet)

-- why there is no task for a document that is accepted, with sheets and cells for this paper
abbrev pub RefusesAccepted : ImposeRequest → (page_paper : Paper) → ImposeFault → Type 0
RefusesAccepted r page_paper f =
    RefusesFor (why_no_row r page_paper) f ⊎ (RefusesNamed r.layout f ⊎ ((why_no_row r page_paper ≡ None) × HasGoodName r.layout × RefusesOptions r f))

pub refused_after : (r : ImposeRequest) (input : List ℕ) (found : Paper × PaperOrigin) (f : ImposeFault) → IsRowPaper r input found → RefusesAccepted r found.0 f
    → RefusesRowTask r input f
refused_after r input found f is why = inr (found, is, why)

refused_so : (r : ImposeRequest) (page_paper : Paper) (f : ImposeFault) → RefusesRowLayout r.layout r.spacing (cells_paper r page_paper) (sheet_paper_in r.layout r.sheet_paper (cells_paper r page_paper)) f → RefusesAccepted r page_paper f
refused_so r page_paper f (inl why) = inl (inr why)
refused_so r page_paper f (inr named) = inr (inl named)

-- what is said of these papers of pages and sheets is said of the request's
as_asked : (P : (page sheet : Paper) → Type 0) (r : ImposeRequest) (page_paper page sheet : Paper) → page ≡ cells_paper r page_paper → sheet ≡ sheet_paper_in r.layout r.sheet_paper (cells_paper r page_paper)
    → P page sheet → P (cells_paper r page_paper) (sheet_paper_in r.layout r.sheet_paper (cells_paper r page_paper))
as_asked P r page_paper page sheet page_is sheet_is h = subst (λ p. P p (sheet_paper_in r.layout r.sheet_paper (cells_paper r page_paper))) page_is (subst (P page) sheet_is h)

pub layout_refused : (r : ImposeRequest) (input : List ℕ) (found : Paper × PaperOrigin) (f : ImposeFault) (page sheet : Paper) → IsRowPaper r input found → page ≡ cells_paper r found.0
    → sheet ≡ sheet_paper_in r.layout r.sheet_paper (cells_paper r found.0) → RefusesRowLayout r.layout r.spacing page sheet f → RefusesRowTask r input f
layout_refused r input found f page sheet is page_is sheet_is why =
    refused_after r input found f is (refused_so r found.0 f (as_asked (λ p s. RefusesRowLayout r.layout r.spacing p s f) r found.0 page sheet page_is sheet_is why))

pub laid_as_asked : (r : ImposeRequest) (page_paper page sheet : Paper) (l : RowLaying) → page ≡ cells_paper r page_paper → sheet ≡ sheet_paper_in r.layout r.sheet_paper (cells_paper r page_paper)
    → IsLaidSo r.layout r.spacing page sheet l → IsLaidBy r page_paper l
laid_as_asked r page_paper page sheet l page_is sheet_is h = as_asked (λ p s. IsLaidSo r.layout r.spacing p s l) r page_paper page sheet page_is sheet_is h

pub refused_found : (r : ImposeRequest) (input : List ℕ) (f : ImposeFault) → RefusesDocument input f ⊎ ((n : ℕ) × HasPageCount input n × (f ≡ without_memory)) → RefusesRowTask r input f
refused_found r input f h = elim h [
  | inl refused ↦ inl refused
  | inr spent ↦ let us = spent.1.0 in refused_after r input (row_paper r input us) f (us, spent.1.1, refl) (inl (inl spent.2))
]

pub finishes_row : (r : ImposeRequest) (input : List ℕ) (t : RowTask) (sheets : SheetFacts) (old new : Option (List ℕ)) (report : Report) → IsRowTask r input t → ImposesTask r t sheets old new report
    → FinishesRow r input old new (record { report = report; sheets = sheets; findings = t.findings })
finishes_row r input t sheets old new report is h = record {
  task = t;
  is_task = is;
  findings = refl;
  job = h.0;
  is_job = h.1;
  imposes = h.2;
}

-- there is no task
pub row_stops : {V O : Type 0} (r : ImposeRequest) (input : List ℕ) (reports_outputs : Edge V O) (f : ImposeFault) (outcome : Result Done ImposeFault) (world : V) (rest : Rest V O) (written : Option (List ℕ)) → outcome ≡ Err f → rest ≡ World world
    → RefusesRowTask r input f → RunsRequest r input reports_outputs outcome world rest written
row_stops r input reports_outputs f outcome world rest written is none why =
    comes_refused (RefusesRowRun r input) (IsImposed r input) _ reports_outputs f outcome world rest written is none (inl why)

-- what comes of its run comes of the request
pub row_runs : {V O : Type 0} (r : ImposeRequest) (input : List ℕ) (t : RowTask) (sheets : SheetFacts) (reports_outputs : Edge V O) (outcome : Result Done ImposeFault) (left : Result Report ImposeFault) (world : V) (rest : Rest V O) (written : Option (List ℕ))
    → IsRowTask r input t → outcome ≡ reported_by t.findings sheets left
    → Comes (RefusesRowTaskRun r t) (ImposesTask r t sheets) (option_map string_bytes r.outfile) reports_outputs left world rest written → RunsRequest r input reports_outputs outcome world rest written
row_runs r input t sheets reports_outputs outcome left world rest written is reports h =
    subst (λ o. RunsRequest r input reports_outputs o world rest written) (sym reports)
    (comes_reported (RefusesRowTaskRun r t) (RefusesRowRun r input) (ImposesTask r t sheets) (IsImposed r input) t.findings sheets (option_map string_bytes r.outfile) reports_outputs left world rest written
    (λ f why. inr (record { task = t; is_task = is; refused = why }))
    (λ old new report done. finishes_row r input t sheets old new report is done) h)

-- what comes of its job comes of a task
pub task_comes : {V O : Type 0} (r : ImposeRequest) (t : RowTask) (job : RowJob) (sheets : SheetFacts) (name other : Option (List ℕ)) (reports_outputs : Edge V O) (outcome : Result Report ImposeFault) (world : V) (rest : Rest V O) (written : Option (List ℕ))
    → Comes (RefusesRowJob job) (Imposes job sheets) name reports_outputs outcome world rest written → name ≡ other → IsJobOf r t job → Comes (RefusesRowTaskRun r t) (ImposesTask r t sheets) other reports_outputs outcome world rest written
task_comes r t job sheets name other reports_outputs outcome world rest written h named is =
    subst (λ n. Comes (RefusesRowTaskRun r t) (ImposesTask r t sheets) n reports_outputs outcome world rest written) named
    (comes_as (RefusesRowJob job) (RefusesRowTaskRun r t) (Imposes job sheets) (ImposesTask r t sheets) name reports_outputs outcome world rest written (λ f why. inr (job, is, why)) (λ old new report done. (job, is, done)) h)
