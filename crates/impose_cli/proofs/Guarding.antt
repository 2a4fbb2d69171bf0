-- The guard sets the page size of the first sheet.
use Rattle.std.proofs.Common.{◌≡◌, List, [], ◌∷◌, Some, ap, refl, subst, sym}
use Rattle.std.specs.Prelude.{Result, Ok}
use Rattle.std.proofs.lemmas.Option.{none-some, same_Some}
use Rattle.rules.specs.Papers.{Paper}
use Rattle.rules.specs.Choice.{RowFault}
use Rattle.rules.specs.Made.{MadeSheet}
use Rattle.rules.specs.Rows.{Row}
use Rattle.rules.specs.Specification.{Spec}
use Rattle.row_runs.specs.declared.sheet_request.Laying.{Laying}
use Rattle.row_runs.specs.declared.sheet_request.Laying.TheVariants as laying
use Rattle.layouts.specs.declared.arrangement.Cells.TheVariants.{AtLeast, Exactly}
use Rattle.impose_words.specs.declared.request.Layout.{Layout}
use Rattle.impose_words.specs.declared.request.Layout.TheVariants as layout
use Rattle.impose_words.specs.declared.request.PosterSize.TheVariants as size
use Rattle.impose_words.specs.declared.request.Spacing.{Spacing}
use Rattle.impose_cli.specs.Laws.{GuardIsOfFirst, IsOfFirst}
use Rattle.impose_cli.specs.RowTasks.{TakesNamed, cells_paper, first_paper, guarded_in, laying_in, sheet_paper_in}

of_first : (sheet other : MadeSheet) (more all : List MadeSheet) → sheet ∷ more ≡ other ∷ all → other.paper ≡ sheet.paper
of_first sheet other more all e = ap paper_of (sym e)
  where
    paper_of : List MadeSheet → Paper
    paper_of [] = sheet.paper
    paper_of (x ∷ xs) = x.paper

no_sheet : (sheet : MadeSheet) (more : List MadeSheet) → [] ≡ sheet ∷ more → ⊥
no_sheet sheet more e = cc (e)

of_selection : (papers : List Paper) (blank : Paper) (row : Row) → IsOfFirst (laying.AsTheyAre blank) papers row (first_paper (Ok row) papers blank)
of_selection papers blank [] sheet more e = absurd (no_sheet sheet more e)
of_selection papers blank (entry ∷ row) sheet more e = of_first _ sheet _ more e

is_laid : (papers : List Paper) (row : Row) (paper : Paper) (one l : Laying) → Some one ≡ Some l → IsOfFirst one papers row paper → IsOfFirst l papers row paper
is_laid papers row paper one l e h = subst (λ x. IsOfFirst x papers row paper) (same_Some one l e) h

by_layout : (how : Layout) (s : Spacing) (page sheet : Paper) (found : Result Row RowFault) (papers : List Paper) (row : Row) (l : Laying) → laying_in how s page sheet ≡ Some l → found ≡ Ok row
    → IsOfFirst l papers row (guarded_in how (first_paper found papers sheet) sheet)
by_layout layout.Selection s page sheet found papers row l is chosen =
    is_laid papers row (first_paper found papers sheet) _ l is
    (subst (λ f. IsOfFirst (laying.AsTheyAre sheet) papers row (first_paper f papers sheet)) (sym chosen) (of_selection papers sheet row))
by_layout (layout.Booklet signing long_edge) s page sheet found papers row l is chosen = is_laid papers row sheet _ l is refl
by_layout (layout.Poster (size.Sheets (Exactly columns rows))) s page sheet found papers row l is chosen = is_laid papers row sheet _ l is refl
by_layout (layout.Poster (size.Sheets (AtLeast n))) s page sheet found papers row l is chosen = is_laid papers row sheet _ l is refl
by_layout (layout.Poster (size.Scaled scale)) s page sheet found papers row l is chosen = is_laid papers row sheet _ l is refl
by_layout (layout.Poster (size.Fitting paper)) s page sheet found papers row l is chosen = is_laid papers row sheet _ l is refl
by_layout (layout.NUp cells) s page sheet found papers row l is chosen = is_laid papers row sheet _ l is refl
by_layout (layout.Cards cells) s page sheet found papers row l is chosen = is_laid papers row sheet _ l is refl
by_layout (layout.Stack cells duplex) s page sheet found papers row l is chosen = is_laid papers row sheet _ l is refl
by_layout (layout.Notes pages) s page sheet found papers row l is chosen = is_laid papers row sheet _ l is refl
by_layout layout.Zine s page sheet found papers row l is chosen = is_laid papers row sheet _ l is refl
by_layout (layout.Spec specs signing) s page sheet found papers row l is chosen = absurd (none-some l is)

-- a specification's sheets have one paper
by_name : (how : Layout) (spec : Spec) (first sheet given : Paper) → TakesNamed how spec → given ≡ sheet → given ≡ guarded_in how first sheet
by_name (layout.Spec specs signing) spec first sheet given named is = is
by_name other spec first sheet given named is = absurd named

pub guard_is_of_first : GuardIsOfFirst
guard_is_of_first r papers page_paper row (laying.BySpec spec sheet page) is chosen = by_name r.layout spec.now _ _ sheet is.0 is.1
guard_is_of_first r papers page_paper row (laying.AsTheyAre blank) is chosen =
    by_layout r.layout r.spacing (cells_paper r page_paper) (sheet_paper_in r.layout r.sheet_paper (cells_paper r page_paper)) _ papers row (laying.AsTheyAre blank) is chosen
guard_is_of_first r papers page_paper row (laying.InCells t way) is chosen =
    by_layout r.layout r.spacing (cells_paper r page_paper) (sheet_paper_in r.layout r.sheet_paper (cells_paper r page_paper)) _ papers row (laying.InCells t way) is chosen
guard_is_of_first r papers page_paper row (laying.Poster p) is chosen =
    by_layout r.layout r.spacing (cells_paper r page_paper) (sheet_paper_in r.layout r.sheet_paper (cells_paper r page_paper)) _ papers row (laying.Poster p) is chosen
