-- What a finished request wrote is the text of its sheets.
use Rattle.std.proofs.Common.{◌≡◌, ◌∙◌, ap, ap₂, refl, sym, subst, inl, inr, Bool, true, false, ℕ, List, [], map, Option, Some, None, Result, Ok, Err}
use Rattle.std.specs.Prelude.{ℤ, ◌+◌, ◌∷◌, ◌≤◌, length, nat_lt, option_and_then, option_map, unwrap_or, if◌then◌else◌, string_bytes}
use Rattle.std.proofs.lemmas.Bool.{ltb-false}
use Rattle.std.proofs.lemmas.List.{length-map}
use Rattle.std.specs.Io.KnownBytes.{Appends}
use Rattle.rules.proofs.CutUnits.{same_ok}
use Rattle.rules.specs.Choice.{Choice, NoEntries, NotInDocument, RowFault, Standing, TooManyEntries, chosen, first_missing, first_over, imposed_row, most_entries, named_row, or_fault, part_of, ranges_from, refused_at, reversed_if, row_standing, signed_if, some_left, standing_from}
use Rattle.rules.specs.Ranges.{Range, pieces_of, range_at, ranges_in, ranges_of, row_named}
use Rattle.rules.specs.Units.{◌>>=◌}
use Rattle.dsc.proofs.Reading.{accepted_cut}
use Rattle.dsc.specs.Units.{units_of}
use Rattle.guard.proofs.TheGuard.{guard_stays}
use Rattle.guard.specs.Guard.{guarded}
use Rattle.papers.proofs.DocumentTells.{document_tells}
use Rattle.papers.specs.AsOne.{first_instead_of, kind_paper, kinds, most_kinds}
use Rattle.papers.specs.Comments.{given_by_document}
use Rattle.papers.specs.Media.{contents, given_by_comments, header, or_setup, set_size, trailer_lines, usual_in}
use Rattle.papers.specs.Own.{or_this, papers_of_each_page}
use Rattle.papers.specs.declared.media.Comment.{Comment}
use Rattle.paper_names.specs.Names.{paper_named}
use Rattle.papers.specs.Reported.{reporting}
use Rattle.dressing.specs.Numbered.{drawn_on}
use Rattle.rows.specs.LastPage.{last_at_back_if}
use Rattle.impose_words.specs.Choices.{choice_in}
use Rattle.impose_messages.specs.declared.finished.PaperOrigin.{PaperOrigin}
use Rattle.impose_cli.specs.Taken.{row_in, row_or_none}
use Rattle.rules.specs.Made.{MadeSheet}
use Rattle.rules.specs.MadeOutput.{made_output}
use Rattle.rules.specs.Output.{Border, border_within}
use Rattle.rules.specs.Papers.{Paper}
use Rattle.rules.specs.Parts.{NestedUnit, pages}
use Rattle.rules.specs.Rows.{Row, all_pages}
use Rattle.rules.specs.Run.{InputTooLong, document_of, most_input_bytes, refuse_if}
use Rattle.layouts.specs.Placed.{Room}
use Rattle.pagespec.specs.declared.item.Turn.{Turn}
use Rattle.dressing.specs.declared.numbers.Numbering.{Numbering}
use Rattle.dressing.specs.declared.strokes.Marks.{Marks}
use Rattle.dressing.specs.declared.strokes.Stroke.{Stroke}
use Rattle.rows.specs.Printed.{RowAsked, asked_by, printed_row, row_read}
use Rattle.row_runs.specs.Evened.{at_common_scale}
use Rattle.row_runs.specs.Marked.{strokes_in}
use Rattle.row_runs.specs.Numbers.{below_middle, named_places_from, paper_in, places_by, sheet_paper}
use Rattle.row_runs.specs.Runs.{border_on, output_on, page_count, strokes_on, swapped_room_for, turned_on}
use Rattle.row_runs.specs.Sheets.{leaves_in, row_chosen, sheets_laid}
use Rattle.row_runs.specs.SheetsRuns.{reporting_output}
use Rattle.row_runs.specs.SwappedMargins.{swapped, swapped_room_in}
use Rattle.row_runs.specs.Turning.{turn_on, turned_sheet}
use Rattle.row_runs.specs.declared.run.RowJob.{RowJob}
use Rattle.row_runs.specs.declared.sheet_request.Laying.{Laying}
use Rattle.row_runs.specs.declared.sheet_request.Laying.TheVariants as laying
use Rattle.row_sheets.specs.declared.fill.Scheme.TheVariants as scheme
use Rattle.world.specs.declared.rest.Rest.{Rest}
use Rattle.impose_messages.specs.declared.finished.Done.TheVariants as done
use Rattle.impose_messages.specs.declared.finished.Finished.{Finished}
use Rattle.impose_messages.specs.declared.fault.ImposeFault.{ImposeFault}
use Rattle.impose_words.specs.Spacings.{swaps_margins}
use Rattle.impose_words.specs.declared.request.ImposeRequest.{ImposeRequest}
use Rattle.impose_words.specs.declared.request.Layout.{Layout}
use Rattle.impose_words.specs.declared.request.Layout.TheVariants as layout
use Rattle.impose_words.specs.declared.request.Product.{Product}
use Rattle.impose_words.specs.declared.request.Product.TheVariants as product
use Rattle.impose_cli.proofs.Rows.{is_row_job}
use Rattle.impose_cli.specs.Endings.{Edge}
use Rattle.impose_cli.specs.Finished.{HasFinished, HasMade, IsTextOf, Lays, cells_of, chosen_by, counted_of, page_numbers, pages_named, paper_for_cells, paper_of_all, paper_of_first, row_of, sheets_of, sheets_paper, taken_of}
use Rattle.impose_cli.specs.Fronts.{Inputs, SameFiles}
use Rattle.impose_cli.specs.Programs.{EndsRequest, IsReadOf, MakesProduct}
use Rattle.impose_cli.specs.RowTasks.{FinishesRow, LaysBy, LaysSo, cells_paper, counted_for, counted_in, first_paper, guarded_in, guarded_paper, or_first, own_in, paper_for, papers_in, papers_to_place, row_paper, row_papers, sheet_paper_in, text_for, turns_in, turns_of}
use Rattle.impose_cli.specs.RowsAsked.{row_asked}
use Rattle.impose_cli.specs.Tasks.{own_or_home, page_paper_found, taken_text}
use Rattle.impose_words.specs.declared.request.Spacing.{Spacing}
use Rattle.impose_messages.specs.declared.finished.Done.{Done}
use Rattle.world.specs.Worlds.{WorldView}

-- ---- one scale for all pages leaves all else of a laying as it is

same_swap : (m same : Bool) (l : Laying) (papers : List Paper) (row : Row) → swapped_room_in m l ≡ swapped_room_in m (at_common_scale same l papers row)
same_swap m false l papers row = refl
same_swap m true (laying.AsTheyAre blank) papers row = refl
same_swap m true (laying.InCells t how) papers row = refl
same_swap m true (laying.Poster p) papers row = refl
same_swap m true (laying.BySpec spec sheet page) papers row = refl

same_paper : (same : Bool) (l : Laying) (papers : List Paper) (row : Row) → sheet_paper l ≡ sheet_paper (at_common_scale same l papers row)
same_paper false l papers row = refl
same_paper true (laying.AsTheyAre blank) papers row = refl
same_paper true (laying.InCells t how) papers row = refl
same_paper true (laying.Poster p) papers row = refl
same_paper true (laying.BySpec spec sheet page) papers row = refl

same_below : (same : Bool) (l : Laying) (papers : List Paper) (row : Row) → below_middle l ≡ below_middle (at_common_scale same l papers row)
same_below false l papers row = refl
same_below true (laying.AsTheyAre blank) papers row = refl
same_below true (laying.InCells t how) papers row = refl
same_below true (laying.Poster p) papers row = refl
same_below true (laying.BySpec spec sheet page) papers row = refl

same_strokes : (m : Marks) (same : Bool) (l : Laying) (papers : List Paper) (row : Row) → strokes_in m l ≡ strokes_in m (at_common_scale same l papers row)
same_strokes m false l papers row = refl
same_strokes m true (laying.AsTheyAre blank) papers row = refl
same_strokes m true (laying.InCells t (scheme.Grid cells)) papers row = refl
same_strokes m true (laying.InCells t (scheme.Cards cells)) papers row = refl
same_strokes m true (laying.InCells t (scheme.Stack cells)) papers row = refl
same_strokes m true (laying.InCells t scheme.Leaves) papers row = refl
same_strokes m true (laying.InCells t (scheme.Booklet turned_backs creep)) papers row = refl
same_strokes m true (laying.InCells t scheme.Zine) papers row = refl
same_strokes m true (laying.Poster p) papers row = refl
same_strokes m true (laying.BySpec spec sheet page) papers row = refl

-- ---- the output, by all that it is made of

-- the laying at one scale
abbrev even_by : (same : Bool) → RowAsked → Laying → List Paper → Row → Laying
even_by same a l papers row = at_common_scale same l papers (printed_row a row)

abbrev sides_by : Option Room → RowAsked → Laying → (leaves : ℕ) → List Paper → Row → List MadeSheet
sides_by swap a even leaves papers row = swapped swap (sheets_laid even leaves papers (printed_row a row))

abbrev out_by : (swap : Option Room) (blank : Paper) (below : Option ℤ) (strokes : List Stroke) (a : RowAsked) (border : Option Border) (numbers : Option Numbering) (even : Laying)
    (papers : List Paper) (turns : List Turn) (row : Row) (us : List NestedUnit) → List ℕ
out_by swap blank below strokes a border numbers even papers turns row us =
    reporting_output border (record {
      strokes = strokes;
      numbers = option_map (λ how. record {
        size = how.size;
        first = how.first;
        places = sides_by swap a even (leaves_in a.signing row) (map (paper_in papers blank) row) (named_places_from 0 row);
        below = below;
      }) numbers;
    }) (map (turned_sheet (turn_on turns)) (sides_by swap a even (leaves_in a.signing row) papers row)) us

-- the output of a job with this row
abbrev of_job : RowJob → Row → List ℕ
of_job j row = out_by (swapped_room_for j) (sheet_paper j.asked.laying) (below_middle j.asked.laying) (strokes_on j) (asked_by j.asked.row) (border_on j) j.marks.numbers
    (even_by j.asked.same_scale (asked_by j.asked.row) j.asked.laying j.papers.now row) j.papers.now j.turns.now row j.document.now

job_output : (j : RowJob) (row : Row) (made : List MadeSheet) → row_chosen (page_count j) j.asked ≡ Ok row
    → made ≡ map (turned_sheet (turn_on j.turns.now)) (sides_by (swapped_room_for j) (asked_by j.asked.row) (even_by j.asked.same_scale (asked_by j.asked.row) j.asked.laying j.papers.now row)
    (leaves_in (asked_by j.asked.row).signing row) j.papers.now row)
    → output_on j made ≡ of_job j row
job_output j row made chosen is =
    ap (output_on j) is
    ∙ ap (λ (found : Result Row RowFault). reporting_output (border_on j) (record {
      strokes = strokes_on j;
      numbers = option_map (λ how. record {
        size = how.size;
        first = how.first;
        places = swapped (swapped_room_for j) (places_by j.papers.now j.asked found);
        below = below_middle j.asked.laying;
      }) j.marks.numbers;
    }) (map (turned_sheet (turn_on j.turns.now)) (sides_by (swapped_room_for j) (asked_by j.asked.row) (even_by j.asked.same_scale (asked_by j.asked.row) j.asked.laying j.papers.now row)
    (leaves_in (asked_by j.asked.row).signing row) j.papers.now row)) j.document.now) chosen

-- all that is known of a text of a row
abbrev row_on : ImposeRequest → Laying → (leaves : ℕ) → List Paper → List Turn → Row → List NestedUnit → List ℕ
row_on r l leaves papers turns row us =
    let made = map (turned_sheet (turn_on turns)) (sheets_of r l leaves papers row) in
    made_output (border_within r.spacing.free.trim r.border)
    (drawn_on (record { strokes = strokes_in r.marks l; numbers = page_numbers r l leaves papers row }) (reporting made)) made us

abbrev row_evened : ImposeRequest → Laying → List Paper → List Turn → Row → List NestedUnit → List ℕ
row_evened r l papers turns row us =
    row_on r (at_common_scale r.spacing.same_scale l papers (printed_row (row_asked r) row)) (leaves_in (row_asked r).signing row) papers turns row us

record RowFound (r : ImposeRequest) (input text : List ℕ) : Type 0 where
  units : List NestedUnit
  document : document_of input ≡ Ok units
  taken : List NestedUnit
  guarded : document_of (text_for r (papers_in r input units) (row_paper r input units).0 input) ≡ Ok taken
  row : Row
  chosen : row_read (length (pages taken)) (row_asked r) ≡ Ok row
  laying : Laying
  lays : LaysBy r (row_paper r input units).0 laying
  written : text ≡ row_evened r laying (papers_in r input units) (turns_in r input units) row taken

-- equal parts make equal wholes
each_same : {A B C D E F G H I J R : Type 0} (f : A → B → C → D → E → F → G → H → I → J → R) (a a' : A) (b b' : B) (c c' : C) (d d' : D) (e e' : E) (g g' : F) (h h' : G) (i i' : H)
    (j j' : I) (k k' : J) → a ≡ a' → b ≡ b' → c ≡ c' → d ≡ d' → e ≡ e' → g ≡ g' → h ≡ h' → i ≡ i' → j ≡ j' → k ≡ k'
    → f a b c d e g h i j k ≡ f a' b' c' d' e' g' h' i' j' k'
each_same f a a' b b' c c' d d' e e' g g' h h' i i' j j' k k' pa pb pc pd pe pg ph pi pj pk =
    ap (λ x. f x b c d e g h i j k) pa ∙ ap (λ x. f a' x c d e g h i j k) pb ∙ ap (λ x. f a' b' x d e g h i j k) pc ∙ ap (λ x. f a' b' c' x e g h i j k) pd
    ∙ ap (λ x. f a' b' c' d' x g h i j k) pe ∙ ap (λ x. f a' b' c' d' e' x h i j k) pg ∙ ap (λ x. f a' b' c' d' e' g' x i j k) ph
    ∙ ap (λ x. f a' b' c' d' e' g' h' x j k) pi ∙ ap (λ x. f a' b' c' d' e' g' h' i' x k) pj ∙ ap (λ x. f a' b' c' d' e' g' h' i' j' x) pk

-- ---- a request

even_same : (s s' : Bool) (a a' : RowAsked) (l : Laying) (ps ps' : List Paper) (row : Row) → s ≡ s' → a ≡ a' → ps ≡ ps' → even_by s a l ps row ≡ even_by s' a' l ps' row
even_same s s' a a' l ps ps' row es ea eps =
    ap (λ x. even_by x a l ps row) es ∙ ap (λ x. even_by s' x l ps row) ea ∙ ap (λ x. even_by s' a' l x row) eps

row_found : (r : ImposeRequest) (input : List ℕ) (old new : Option (List ℕ)) (done : Finished) → FinishesRow r input old new done
    → (text : List ℕ) × RowFound r input text × Appends old new text
row_found r input old new done h =
    let j = h.job in
    let found = h.is_task.findings in
    let is = is_row_job r input h.task j h.is_task h.is_job in
    let us = h.is_task.papers.0 in
    let read = h.is_task.papers.1 in
    let papers : j.papers.now ≡ papers_in r input us = h.is_job.papers ∙ h.is_task.papers.2 in
    let asked = h.imposes.planned.are.asked in
    let row = asked.row in
    let l = j.asked.laying in
    let paper : h.task.findings.page_paper ≡ (row_paper r input us).0 =
    ap (λ p. p.0) found.page_paper ∙ ap (λ u. (row_paper r input u).0) (same_ok _ us (sym found.document ∙ read)) in
    let turns : j.turns.now ≡ turns_in r input us = is.turns.2 ∙ ap (turns_in r input) (same_ok _ us (sym is.turns.1 ∙ read)) in
    let printed = printed_row (row_asked r) row in
    let ps = papers_in r input us in
    let made_is = h.imposes.planned.are.turned ∙ ap (turned_on j) asked.are_laid in (
      output_on j h.imposes.made,
      record {
        units = us;
        document = read;
        taken = j.document.now;
        guarded = ap₂ (λ (o : List Paper) (p : Paper). document_of (text_for r o p input)) (sym papers) (sym paper) ∙ is.document;
        row = row;
        chosen = sym (ap (row_read (length (pages j.document.now))) h.is_job.row) ∙ asked.is_chosen;
        laying = l;
        lays = subst (λ p. LaysBy r p l) paper is.laying;
        written = job_output j row h.imposes.made asked.is_chosen made_is
            ∙ each_same (λ swap blank below strokes a border numbers even own by. out_by swap blank below strokes a border numbers even own by row j.document.now)
            _ _ _ _ _ _ _ _ _ _ _ _ _ _ _ _ _ _ _ _
            (ap (λ m. swapped_room_in m l) h.is_job.swapped ∙ same_swap (swaps_margins r.layout r.spacing) r.spacing.same_scale l ps printed)
            (same_paper r.spacing.same_scale l ps printed)
            (same_below r.spacing.same_scale l ps printed)
            (ap (λ m. strokes_in m l) h.is_job.marks ∙ same_strokes r.marks r.spacing.same_scale l ps printed)
            h.is_job.row
            (ap₂ border_within h.is_job.inset h.is_job.border)
            (ap (λ (m : Marks). m.numbers) h.is_job.marks)
            (even_same j.asked.same_scale r.spacing.same_scale (asked_by j.asked.row) (row_asked r) l j.papers.now ps row h.is_job.same_scale h.is_job.row papers)
            papers
            turns;
      },
      h.imposes.written,
    )

-- ---- what stays of it, without what could be refused

passes : {A E : Type 0} (t : Bool) (fault : E) (next : Result A E) (x : A) → refuse_if t fault next ≡ Ok x → (t ≡ false) × (next ≡ Ok x)
passes true fault next x e = cc
passes false fault next x e = (refl, e)

within : (text : List ℕ) (us : List NestedUnit) → document_of text ≡ Ok us → length text ≤ most_input_bytes
within text us e = ltb-false _ _ (passes (nat_lt most_input_bytes (length text)) InputTooLong _ us e).0

-- the guard leaves the pages as they are
same_pages : (is : Bool) (paper : Paper) (input : List ℕ) (us ts : List NestedUnit) → document_of input ≡ Ok us
    → document_of (if is then guarded (Some paper) input else input) ≡ Ok ts → pages ts ≡ pages us
same_pages false paper input us ts read taken = ap pages (same_ok ts us (sym taken ∙ read))
same_pages true paper input us ts read taken =
    ap pages (sym (accepted_cut (guarded (Some paper) input) ts taken).1) ∙ (guard_stays (Some paper) input us read (within (guarded (Some paper) input) ts taken)).1.same_pages

-- a row

piece_stands : (at : ℕ) (found : Option Range) (later : Result (List Standing) RowFault) (all : List Standing)
    → (or_fault at found >>= λ range. later >>= λ more. Ok (record { at = at; range = range } ∷ more)) ≡ Ok all
    → (range : Range) × (more : List Standing) × (found ≡ Some range) × (later ≡ Ok more) × (all ≡ record { at = at; range = range } ∷ more)
piece_stands at None later all e = cc
piece_stands at (Some range) (Err f) all e = cc
piece_stands at (Some range) (Ok more) all e = (range, more, refl, refl, sym (same_ok _ all e))

ranges_stand : (pieces : List (List ℕ)) (at : ℕ) (all : List Standing) → standing_from at pieces ≡ Ok all → ranges_in pieces ≡ Some (ranges_from all)
ranges_stand [] at all e = ap (λ x. Some (ranges_from x)) (same_ok [] all e)
ranges_stand (piece ∷ pieces) at all e =
    let s = piece_stands at (range_at piece) _ all e in
    ap₂ (λ (f : Option Range) (rs : Option (List Range)). option_and_then (λ r. option_map (λ more. r ∷ more) rs) f) s.2 (ranges_stand pieces (at + length piece + 1) s.1 s.3)
    ∙ ap (λ x. Some (ranges_from x)) (sym s.4)

unrefused : (found : Option ℕ) (fault : ℕ → RowFault) (next : Result Row RowFault) (row : Row) → refused_at found fault next ≡ Ok row → next ≡ Ok row
unrefused None fault next row e = e
unrefused (Some at) fault next row e = cc

standing_named : (n : ℕ) (text : List ℕ) (found : Result (List Standing) RowFault) (row : Row) → standing_from 0 (pieces_of text) ≡ found
    → (found >>= row_standing most_entries n) ≡ Ok row → row ≡ row_named n (unwrap_or (ranges_of text) [])
standing_named n text (Err f) row is e = cc
standing_named n text (Ok all) row is e =
    sym (same_ok (row_named n (ranges_from all)) row (unrefused (first_over most_entries 0 n all) TooManyEntries _ row (unrefused (first_missing n all) NotInDocument _ row e)))
    ∙ ap (λ rs. row_named n (unwrap_or rs [])) (sym (ranges_stand (pieces_of text) 0 all is))

after : (found : Result Row RowFault) (want : Row) (next : Row → Result Row RowFault) (row : Row) → ((x : Row) → found ≡ Ok x → x ≡ want)
    → (found >>= next) ≡ Ok row → next want ≡ Ok row
after (Ok x) want next row is e = ap next (sym (is x refl)) ∙ e
after (Err f) want next row is e = cc

named_so : (n : ℕ) (ranges : Option (List ℕ)) (x : Row) → named_row n ranges ≡ Ok x → x ≡ pages_named n ranges
named_so n None x e = sym (same_ok (all_pages n) x e)
named_so n (Some text) x e = standing_named n text (standing_from 0 (pieces_of text)) x refl e

chosen_so : (n : ℕ) (c : Choice) (row : Row) → chosen n c ≡ Ok row → row ≡ chosen_by c n
chosen_so n c row e =
    let left = after (named_row n c.ranges) (pages_named n c.ranges) (λ x. some_left (reversed_if c.backwards (part_of c.part x))) row (named_so n c.ranges) e in
    sym (same_ok (chosen_by c n) row (passes _ NoEntries (Ok (chosen_by c n)) row left).1)

read_so : (found : Result Row RowFault) (next : Row → Row) (row : Row) → (found >>= λ x. Ok (next x)) ≡ Ok row → (x : Row) × (found ≡ Ok x) × (row ≡ next x)
read_so (Ok x) next row e = (x, refl, sym (same_ok (next x) row e))
read_so (Err f) next row e = cc

-- papers

told : (home : Paper) (set : Option Paper) (given : Option (Paper × Comment))
    → (own_or_home home (or_setup set given)).0 ≡ or_this (option_map (λ p. p.0) given) (unwrap_or set home)
told home set (Some found) = refl
told home (Some paper) None = refl
told home None None = refl

paper_found : (named : Option Paper) (r : ImposeRequest) (input : List ℕ) → r.page_paper ≡ named → (page_paper_found r.page_paper r.default_paper input).0 ≡ paper_of_all r input
paper_found named r input is =
    ap (λ n. (page_paper_found n r.default_paper input).0) is ∙ by named ∙ ap (λ n. unwrap_or n (or_this (of_document) usual)) (sym is)
  where
    usual : Paper
    usual = usual_in r.default_paper input

    of_document : Option Paper
    of_document = given_by_document paper_named usual (header input) (trailer_lines (units_of input))

    by : (named : Option Paper) → (page_paper_found named r.default_paper input).0 ≡ unwrap_or named (or_this of_document usual)
    by (Some paper) = refl
    by None = told r.default_paper (set_size (contents input)) (given_by_comments usual input) ∙ ap (λ o. or_this o usual) (document_tells usual input)

first_so : (found : Paper × PaperOrigin) (first : Option Paper) → (or_first found first).0 ≡ unwrap_or first found.0
first_so found None = refl
first_so found (Some first) = refl

cells_so : (l : Layout) (found : Paper × PaperOrigin) (taken : List Paper) → (counted_for l taken (paper_for l found taken)).0 ≡ paper_for_cells l found.0 taken
cells_so layout.Selection found taken = ap (kind_paper (kinds most_kinds taken)) (first_so found (first_instead_of found.0 taken))
cells_so (layout.Spec specs signing) found taken = refl
cells_so other found taken = first_so found (first_instead_of found.0 taken)

own_many : (named : Option Paper) (home : Paper) (input : List ℕ) (us : List NestedUnit) → length (papers_of_each_page named paper_named home input us) ≡ length (pages us)
own_many (Some paper) home input us = length-map (pages us) _
own_many None home input us = length-map (pages us) _

placed_many : (l : Layout) (one : Paper) (taken own : List Paper) → length (papers_to_place l one taken own) ≡ length own
placed_many layout.Selection one taken own = length-map own _
placed_many (layout.Spec specs signing) one taken own = length-map own _
placed_many other one taken own = refl

guard_so : (l : Layout) (papers : List Paper) (sheets : Paper) (row : Row) → guarded_in l (first_paper (Ok row) papers sheets) sheets ≡ paper_of_first l papers sheets row
guard_so layout.Selection papers sheets [] = refl
guard_so layout.Selection papers sheets (entry ∷ row) = refl
guard_so other papers sheets row = refl

-- sheets

lays_so : (l : Layout) (s : Spacing) (page sheet : Paper) (way : Laying) → LaysSo l s page sheet way → Lays l s page sheet way
lays_so (layout.Spec specs signing) s page sheet (laying.BySpec spec on of) h = ((h.0.1, h.0.2, h.0.4), h.1, h.2)
lays_so (layout.Spec specs signing) s page sheet (laying.AsTheyAre blank) h = h
lays_so (layout.Spec specs signing) s page sheet (laying.InCells t how) h = h
lays_so (layout.Spec specs signing) s page sheet (laying.Poster p) h = h
lays_so other s page sheet (laying.BySpec spec on of) h = absurd h.0
lays_so other s page sheet (laying.AsTheyAre blank) h = h
lays_so other s page sheet (laying.InCells t how) h = h
lays_so other s page sheet (laying.Poster p) h = h

row_stays : (r : ImposeRequest) (input text : List ℕ) → RowFound r input text → IsTextOf r input text
row_stays r input text h =
    let us = h.units in
    let ts = h.taken in
    let c = choice_in r.choice in
    let cut_so : us ≡ units_of input = sym (accepted_cut input us h.document).1 in
    let one = (row_paper r input us).0 in
    let papers = papers_in r input us in
    let old_sheets = sheet_paper_in r.layout r.sheet_paper (cells_paper r one) in
    let pages_so : pages ts ≡ pages us = same_pages r.is_guarded (guarded_paper r papers one) input us ts h.document h.guarded in
    let read = read_so (chosen (length (pages ts)) c) (last_at_back_if (row_asked r).last_at_back (row_asked r).signing) h.row h.chosen in
    let chosen_is : read.0 ≡ row_of r input = chosen_so (length (pages ts)) c read.0 read.1 ∙ ap (λ ps. chosen_by c (length ps)) (pages_so ∙ ap pages cut_so) in
    let found : chosen (length (pages us)) c ≡ Ok (row_of r input) = ap (λ ps. chosen (length ps) c) (sym pages_so) ∙ read.1 ∙ ap Ok chosen_is in
    let row_so : row_in r us ≡ row_of r input = ap (λ (f : Result Row RowFault). row_or_none (f >>= λ row. Ok (signed_if None row))) found in
    let own_so : own_in r input us ≡ own_in r input (units_of input) = ap (own_in r input) cut_so in
    let taken_so : row_papers (row_in r us) (own_in r input us) ≡ taken_of r input = ap₂ row_papers row_so own_so in
    let one_so : one ≡ cells_of r input =
    cells_so r.layout (page_paper_found r.page_paper r.default_paper input) (row_papers (row_in r us) (own_in r input us))
    ∙ ap₂ (paper_for_cells r.layout) (paper_found r.page_paper r input refl) taken_so in
    let counted_so : counted_in r input us ≡ counted_of r input =
    ap (λ p. papers_to_place r.layout p (row_papers (row_in r us) (own_in r input us)) (own_in r input us)) one_so
    ∙ ap (λ t. papers_to_place r.layout (cells_of r input) t (own_in r input us)) taken_so
    ∙ ap (papers_to_place r.layout (cells_of r input) (taken_of r input)) own_so in
    let papers_so : papers ≡ map (cells_paper r) (counted_of r input) = ap (map (cells_paper r)) counted_so in
    let turns_so : turns_in r input us ≡ turns_of r.turn (counted_of r input) = ap (turns_of r.turn) counted_so in
    let sheets_so : old_sheets ≡ sheets_paper r input = ap (λ p. sheet_paper_in r.layout r.sheet_paper (cells_paper r p)) one_so in
    let many : length papers ≡ length (pages us) =
    length-map (counted_in r input us) _ ∙ placed_many r.layout one (row_papers (row_in r us) (own_in r input us)) (own_in r input us) ∙ own_many r.page_paper r.default_paper input us in
    let imposed : imposed_row (length papers) c None ≡ Ok (row_of r input) =
    ap (λ (n : ℕ). imposed_row n c None) many ∙ ap (λ (f : Result Row RowFault). f >>= λ row. Ok (signed_if None row)) found in
    let guard_is : guarded_paper r papers one ≡ paper_of_first r.layout (map (cells_paper r) (counted_of r input)) (sheets_paper r input) (row_of r input) =
    ap (λ f. guarded_in r.layout (first_paper f papers old_sheets) old_sheets) imposed
    ∙ guard_so r.layout papers old_sheets (row_of r input)
    ∙ ap₂ (λ (ps : List Paper) (s : Paper). paper_of_first r.layout ps s (row_of r input)) papers_so sheets_so in
    let text_so : ts ≡ units_of (taken_text r.is_guarded (paper_of_first r.layout (map (cells_paper r) (counted_of r input)) (sheets_paper r input) (row_of r input)) input) =
    sym (accepted_cut (text_for r papers one input) ts h.guarded).1 ∙ ap (λ p. units_of (taken_text r.is_guarded p input)) guard_is in (
      h.laying,
      lays_so r.layout r.spacing _ _ h.laying (subst (λ p. LaysBy r p h.laying) one_so h.lays),
      h.written
          ∙ ap (λ ps. row_evened r h.laying ps (turns_in r input us) h.row ts) papers_so
          ∙ ap (λ t. row_evened r h.laying (map (cells_paper r) (counted_of r input)) t h.row ts) turns_so
          ∙ ap (λ w. row_evened r h.laying (map (cells_paper r) (counted_of r input)) (turns_of r.turn (counted_of r input)) w ts)
          (read.2 ∙ ap (last_at_back_if (row_asked r).last_at_back (row_asked r).signing) chosen_is)
          ∙ ap (row_evened r h.laying (map (cells_paper r) (counted_of r input)) (turns_of r.turn (counted_of r input))
          (last_at_back_if (row_asked r).last_at_back (row_asked r).signing (row_of r input))) text_so,
    )

row_text : (r : ImposeRequest) (input : List ℕ) (old new : Option (List ℕ)) (done : Finished) → FinishesRow r input old new done
    → (text : List ℕ) × IsTextOf r input text × Appends old new text
row_text r input old new done h = let t = row_found r input old new done h in (t.0, row_stays r input t.0 t.1, t.2)

-- ---- the program

has_made : {W O : Type 0} (p : Product) (what : Done) (r : ImposeRequest) (gives : Inputs) (input : List ℕ) (edge : Edge W O) (world : W) (rest : Rest W O) (written : Option (List ℕ))
    → IsReadOf (gives (option_map string_bytes r.infile)) input → MakesProduct p r input edge (Ok what) world rest written
    → HasMade p r gives edge.reports_outputs written
has_made product.Sheets (done.Imposed finished) r gives input edge world rest written given h =
    let t = row_text r input _ written finished h.0 in (input, t.0, given, t.1, t.2)
has_made product.Sheets done.Printed r gives input edge world rest written given h = absurd h.0
has_made product.Sheets done.Shown r gives input edge world rest written given h = absurd h.0
has_made product.Specification what r gives input edge world rest written given h = tt
has_made product.Plan what r gives input edge world rest written given h = tt
has_made (product.Picture file) what r gives input edge world rest written given h = tt

has_done : {W O : Type 0} (seen : W → WorldView) (r : ImposeRequest) (gives : Inputs) (same : SameFiles) (terminal : Option Bool) (foreign : Bool) (edge : Edge W O)
    (what : Done) (world : W) (rest : Rest W O) (written : Option (List ℕ))
    → EndsRequest seen r gives same terminal foreign edge (Ok what) world rest written → HasMade r.product r gives edge.reports_outputs written
has_done seen r gives same terminal foreign edge what world rest written (inl h) = let e = h.2 in cc
has_done seen r gives same terminal foreign edge what world rest written (inr h) = has_made r.product what r gives h.0 edge h.1 rest written h.2 h.5

pub has_finished : {W O : Type 0} (seen : W → WorldView) (r : ImposeRequest) (gives : Inputs) (same : SameFiles) (terminal : Option Bool) (foreign : Bool) (edge : Edge W O)
    (outcome : Result Done ImposeFault) (world : W) (rest : Rest W O) (written : Option (List ℕ))
    → EndsRequest seen r gives same terminal foreign edge outcome world rest written → HasFinished (Some r) outcome gives edge.reports_outputs written
has_finished seen r gives same terminal foreign edge (Ok what) world rest written h = has_done seen r gives same terminal foreign edge what world rest written h
has_finished seen r gives same terminal foreign edge (Err f) world rest written h = tt
