-- The text of a request and an input is one.
use Rattle.std.proofs.Common.{◌≡◌, ◌∙◌, ap, refl, sym, subst, Bool, true, false, ℕ, List, [], map, None}
use Rattle.std.specs.Prelude.{option_map, string_bytes}
use Rattle.std.proofs.lemmas.Option.{none-some, same_Some}
use Rattle.rules.proofs.OneSpec.{one_reading}
use Rattle.rules.specs.MadeOutput.{made_output}
use Rattle.rules.specs.Output.{border_within}
use Rattle.rules.specs.Papers.{Paper}
use Rattle.rules.specs.Rows.{Row}
use Rattle.rules.specs.Specification.{Spec, settled}
use Rattle.dsc.specs.Units.{units_of}
use Rattle.pagespec.specs.declared.item.Turn.{Turn}
use Rattle.papers.specs.Reported.{reporting}
use Rattle.dressing.specs.Numbered.{drawn_on}
use Rattle.rows.specs.LastPage.{last_at_back_if}
use Rattle.rows.specs.Printed.{printed_row}
use Rattle.row_sheets.specs.BySpec.{by_spec}
use Rattle.row_runs.specs.Evened.{at_common_scale}
use Rattle.row_runs.specs.Numbers.{named_places_from}
use Rattle.row_runs.specs.Sheets.{leaves_in}
use Rattle.row_runs.specs.SwappedMargins.{swapped}
use Rattle.row_runs.specs.Turning.{turn_on, turned_sheet}
use Rattle.row_runs.specs.declared.sheet_request.Laying.{Laying}
use Rattle.row_runs.specs.declared.sheet_request.Laying.TheVariants as laying
use Rattle.impose_words.specs.declared.request.ImposeRequest.{ImposeRequest}
use Rattle.impose_words.specs.declared.request.Layout.{Layout}
use Rattle.impose_words.specs.declared.request.Layout.TheVariants as layout
use Rattle.impose_words.specs.declared.request.Spacing.{Spacing}
use Rattle.impose_cli.specs.RowTasks.{cells_paper, turns_of}
use Rattle.impose_cli.specs.RowsAsked.{row_asked}
use Rattle.impose_cli.specs.Tasks.{taken_text}
use Rattle.impose_cli.specs.Finished.{OneText, IsTextOfSpec, Lays, cells_of, counted_of, paper_of_first, row_of, row_output, sheets_paper}

one_spec : (text : List ℕ) (one other : Spec) → IsTextOfSpec text one → IsTextOfSpec text other → one ≡ other
one_spec text one other h g = h.2 ∙ ap settled (one_reading text h.0 g.0 h.1 g.1) ∙ sym g.2

-- two layings are alike, but for the place of the specification that they name
abbrev AreAlike : (one other : Laying) → Type 0
AreAlike (laying.BySpec a on of) (laying.BySpec b on' of') = (a.now ≡ b.now) × (on ≡ on') × (of ≡ of')
AreAlike one other = one ≡ other

alike_itself : (l : Laying) → AreAlike l l
alike_itself (laying.BySpec a on of) = (refl, refl, refl)
alike_itself (laying.AsTheyAre blank) = refl
alike_itself (laying.InCells t how) = refl
alike_itself (laying.Poster p) = refl

one_laying : (l : Layout) (s : Spacing) (page sheet : Paper) (one other : Laying) → Lays l s page sheet one → Lays l s page sheet other → AreAlike one other
one_laying (layout.Spec specs signing) s page sheet (laying.BySpec a on of) (laying.BySpec b on' of') h g =
    (one_spec (string_bytes specs) a.now b.now h.0 g.0, h.1 ∙ sym g.1, h.2 ∙ sym g.2)
one_laying (layout.Spec specs signing) s page sheet (laying.BySpec a on of) (laying.AsTheyAre blank) h g = absurd (none-some _ g)
one_laying (layout.Spec specs signing) s page sheet (laying.BySpec a on of) (laying.InCells t how) h g = absurd (none-some _ g)
one_laying (layout.Spec specs signing) s page sheet (laying.BySpec a on of) (laying.Poster p) h g = absurd (none-some _ g)
one_laying (layout.Spec specs signing) s page sheet (laying.AsTheyAre blank) other h g = absurd (none-some _ h)
one_laying (layout.Spec specs signing) s page sheet (laying.InCells t how) other h g = absurd (none-some _ h)
one_laying (layout.Spec specs signing) s page sheet (laying.Poster p) other h g = absurd (none-some _ h)
one_laying l s page sheet one other h g = subst (λ w. AreAlike one w) (same_Some one other (sym h ∙ g)) (alike_itself one)

abbrev named_output : ImposeRequest → Spec → (sheet page : Paper) → List Turn → Row → (text : List ℕ) → List ℕ
named_output r spec on of turns row text =
    let made = map (turned_sheet (turn_on turns)) (swapped None (by_spec spec on of (printed_row (row_asked r) row))) in
    made_output (border_within r.spacing.free.trim r.border)
    (drawn_on (record {
      strokes = [];
      numbers = option_map (λ how. record {
        size = how.size;
        first = how.first;
        places = swapped None (by_spec spec on of (printed_row (row_asked r) (named_places_from 0 row)));
        below = None;
      }) r.marks.numbers;
    }) (reporting made)) made (units_of text)

abbrev row_last : ImposeRequest → Row → Row
row_last r chosen = last_at_back_if (row_asked r).last_at_back (row_asked r).signing chosen

-- what lays a row alike has one output
by_name : (same : Bool) (r : ImposeRequest) (papers : List Paper) (turns : List Turn) (row : Row) (text : List ℕ) (one other : Laying) → AreAlike one other
    → row_output r (at_common_scale same one papers (printed_row (row_asked r) row)) (leaves_in (row_asked r).signing row) papers turns row text
    ≡ row_output r (at_common_scale same other papers (printed_row (row_asked r) row)) (leaves_in (row_asked r).signing row) papers turns row text
by_name true r papers turns row text (laying.BySpec a on of) (laying.BySpec b on' of') h =
    ap (λ s. named_output r s on of turns row text) h.0 ∙ ap (λ p. named_output r b.now p of turns row text) h.1 ∙ ap (λ p. named_output r b.now on' p turns row text) h.2
by_name false r papers turns row text (laying.BySpec a on of) (laying.BySpec b on' of') h =
    ap (λ s. named_output r s on of turns row text) h.0 ∙ ap (λ p. named_output r b.now p of turns row text) h.1 ∙ ap (λ p. named_output r b.now on' p turns row text) h.2
by_name same r papers turns row text one other h =
    ap (λ w. row_output r (at_common_scale same w papers (printed_row (row_asked r) row)) (leaves_in (row_asked r).signing row) papers turns row text) h

pub one_text : OneText
one_text r input one other h g =
    let papers = map (cells_paper r) (counted_of r input) in
    let text = taken_text r.is_guarded (paper_of_first r.layout papers (sheets_paper r input) (row_of r input)) input in
    h.2 ∙ by_name r.spacing.same_scale r papers (turns_of r.turn (counted_of r input)) (row_last r (row_of r input)) text h.0 g.0
    (one_laying r.layout r.spacing (cells_paper r (cells_of r input)) (sheets_paper r input) h.0 g.0 h.1 g.1) ∙ sym g.2
