-- Pages that are laid at one scale.
use Rattle.std.proofs.Common.{Bool, true, false, List, ◌≡◌, ◌∙◌, sym, refl, None}
use Rattle.rules.specs.Papers.{Paper}
use Rattle.rules.specs.Made.{MadeSheet}
use Rattle.rules.specs.Rows.{Row}
use Rattle.row_runs.specs.declared.sheet_request.Laying.{Laying}
use Rattle.row_runs.specs.declared.sheet_request.Laying.TheVariants as laying
use Rattle.row_sheets.specs.declared.fill.Scheme.TheVariants as scheme
use Rattle.layouts.specs.declared.setting.Setting.{Setting}
use Rattle.row_sheets.specs.Shapes.{filling}
use Rattle.row_sheets.specs.SameScale.{at_one_scale, first_unscaled}
use Rattle.row_sheets.specs.declared.fill.Scheme.{Scheme}
use Rattle.row_runs.specs.Evened.{at_common_scale, why_not_even_if}
use Rattle.row_runs.specs.Sheets.{MayBeLaid}
use Rattle.row_runs.specs.Standing.{StandAsLaid}

-- they are placed as others are
pub evened_stand : (same_scale : Bool) (l : Laying) (papers : List Paper) (row : Row) (made : List MadeSheet) → StandAsLaid (at_common_scale same_scale l papers row) made → StandAsLaid l made
evened_stand false l papers row made h = h
evened_stand true (laying.InCells t (scheme.Booklet turned_backs creep)) papers row made h =
    record { twice = h.twice; no_farther = h.no_farther; no_nearer = h.no_nearer; sides = h.sides; apart = h.apart }
evened_stand true other papers row made h = h

-- and may be laid as they were
pub may_be_evened : (t : Setting) (papers : List Paper) (row : Row) (how : Scheme) → MayBeLaid (laying.InCells t how) → MayBeLaid (laying.InCells (at_one_scale (filling t papers) row) how)
may_be_evened t papers row (scheme.Grid cells) may = may
may_be_evened t papers row (scheme.Cards cells) may = may
may_be_evened t papers row (scheme.Stack cells) may = may
may_be_evened t papers row scheme.Leaves may = may
may_be_evened t papers row (scheme.Booklet turned_backs creep) may = record { grid_is = may.grid_is; order_is = may.order_is; even = may.even }
may_be_evened t papers row scheme.Zine may =
    record { grid_is = may.grid_is; order_is = may.order_is; untrimmed = may.untrimmed; some_across = may.some_across; some_up = may.some_up; even = may.even }

-- what is evened, and why it can't be, by how it is laid
module _ (same_scale : Bool) (l : Laying) (papers : List Paper) (row : Row) where
  pub evened_in_cells : (t u : Setting) (how : Scheme) → same_scale ≡ true → l ≡ laying.InCells t how → u ≡ at_one_scale (filling t papers) row → laying.InCells u how ≡ at_common_scale same_scale l papers row
  evened_in_cells t u how same is made = (λ i. laying.InCells (made i) how) ∙ sym (λ i. at_common_scale (same i) (is i) papers row)

  pub fault_in_cells : (t : Setting) (how : Scheme) → same_scale ≡ true → l ≡ laying.InCells t how → why_not_even_if same_scale l papers row ≡ first_unscaled (filling t papers) row
  fault_in_cells t how same is = λ i. why_not_even_if (same i) (is i) papers row

-- entries that aren't in cells stay as they are
pub others_stay : (same_scale : Bool) (l : Laying) (papers : List Paper) (row : Row) → ((t : Setting) (how : Scheme) → l ≡ laying.InCells t how → ⊥)
    → (l ≡ at_common_scale same_scale l papers row) × (why_not_even_if same_scale l papers row ≡ None)
others_stay false l papers row others = (refl, refl)
others_stay true (laying.InCells t how) papers row others = absurd (others t how refl)
others_stay true other papers row others = (refl, refl)
