-- Which page of a row is refused first.
use Rattle.std.proofs.Common.{arith, ◌≡◌, ◌⊎◌, inl, inr, ℕ, suc, zero, ◌*◌, ◌/◌, ◌%◌, ◌<◌, length, List, Option, Some, None, ap, ap₂, refl, subst, sym, ◌∙◌}
use Rattle.std.specs.Option.{option_or}
use Rattle.std.proofs.Math.Nat.{eq-or-lt_of_le}
use Rattle.std.proofs.lemmas.Bool.{cases_lt}
use Rattle.std.proofs.lemmas.Option.{none-some}
use Rattle.rules.specs.Papers.{Paper}
use Rattle.rules.specs.Signatures.{entry_of}
use Rattle.rules.specs.Rows.{Row}
use Rattle.layouts.specs.declared.error.ArrangementError.{ArrangementError}
use Rattle.row_sheets.specs.Filled.{Filling, grid_entry}
use Rattle.row_sheets.specs.FirstFault.{first_fault}
use Rattle.row_sheets.specs.Shapes.{first_refused, why_no_place}
use Rattle.row_sheets.specs.Creep.{creep_on, first_over_fold, why_no_half}
use Rattle.row_sheets.specs.Posters.{AllMayBePosters, EntryMayBePoster, first_no_poster, why_no_tiles}
use Rattle.row_sheets.specs.Standing.{AllEntriesFit, AllFitOnLeaves, EntryCreeps, EntryFits}
use Rattle.row_sheets.specs.declared.poster.Poster.{Poster}
use Rattle.row_sheets.specs.declared.poster.PosterError.{PosterError}
use Rattle.row_sheets.proofs.Places.{in_blocks, past_end}

-- ---- the first of many

pub no_fault : {E : Type 0} (fault_of : ℕ → Option E) (n : ℕ) → ((i : ℕ) → i < n → fault_of i ≡ None) → first_fault fault_of n ≡ None
no_fault fault_of zero none = refl
no_fault fault_of (suc n) none = ap₂ option_or (no_fault fault_of n (λ i less. none i (omega (arith, less)))) (none n (omega arith))

pub same_fault : {E : Type 0} (one other : ℕ → Option E) (n : ℕ) → ((i : ℕ) → one i ≡ other i) → first_fault one n ≡ first_fault other n
same_fault one other zero same = refl
same_fault one other (suc n) same = ap₂ option_or (same_fault one other n same) (same n)

is_first : {E : Type 0} (fault_of : ℕ → Option E) (n i : ℕ) (e : E) → i < n → ((j : ℕ) → j < i → fault_of j ≡ None) → fault_of i ≡ Some e → first_fault fault_of n ≡ Some e
is_first fault_of zero i e less none here = absurd (omega (arith, less))
is_first fault_of (suc n) i e less none here = either (λ before. is_first fault_of n i e before none here) (eq-or-lt_of_le (omega (arith, less)))
  where
    either : (i < n → first_fault fault_of n ≡ Some e) → (i ≡ n) ⊎ (i < n) → first_fault fault_of (suc n) ≡ Some e
    either earlier (inl is) =
        ap₂ option_or (no_fault fault_of n (subst (λ k. (j : ℕ) → j < k → fault_of j ≡ None) is none)) (subst (λ k. fault_of k ≡ Some e) is here)
    either earlier (inr before) = ap (λ x. option_or x (fault_of n)) (earlier before)

-- of the entries of a row, if a blank has no fault
pub first_entry : {E : Type 0} (fault_of : ℕ → Option ℕ → Option E) (row : Row) (i : ℕ) (e : E) → ((j : ℕ) → fault_of j None ≡ None) → ((j : ℕ) → j < i → fault_of j (entry_of row j) ≡ None) → fault_of i (entry_of row i) ≡ Some e
    → first_fault (λ j. fault_of j (entry_of row j)) (length row) ≡ Some e
first_entry fault_of row i e blank none here = elim (cases_lt i (length row)) [
  | inl less ↦ is_first (λ j. fault_of j (entry_of row j)) (length row) i e less none here
  | inr past ↦ absurd (none-some e (sym (ap (fault_of i) (past_end row i past) ∙ blank i) ∙ here))
]

-- ---- in cells

pub fits_none : (f : Filling) (entry : Option ℕ) → EntryFits f entry → why_no_place f entry ≡ None
fits_none f None has = refl
fits_none f (Some page) has = has.fits

pub fit_none : (f : Filling) (row : Row) → AllEntriesFit f row → first_refused f row ≡ None
fit_none f row fits = no_fault (λ i. why_no_place f (entry_of row i)) (length row) (λ i less. fits_none f (entry_of row i) (fits i))

-- ---- on leaves that creep

pub creeps_none : (f : Filling) (creep : ℕ) (entry : Option ℕ) → EntryCreeps f creep entry → why_no_half f creep entry ≡ None
creeps_none f creep None has = refl
creeps_none f creep (Some page) has = has.fits

-- why entry j can't lie in its half
abbrev pub in_its_half : Filling → (creep leaves j : ℕ) → Option ℕ → Option ArrangementError
in_its_half f creep leaves j entry = why_no_half f (creep_on creep leaves (j / 2)) entry

-- the entries of so many sides
pub sides_none : (f : Filling) (creep leaves s : ℕ) (row : Row) → ((n k : ℕ) → n < s → k < 2 → EntryCreeps f (creep_on creep leaves n) (grid_entry 2 row n k))
    → (j : ℕ) → j < s * 2 → in_its_half f creep leaves j (entry_of row j) ≡ None
sides_none f creep leaves s row fits j less =
    let at = in_blocks j (s * 2) 2 s less (omega arith) in
    subst (λ k. in_its_half f creep leaves j (entry_of row k) ≡ None) at.is
    (creeps_none f (creep_on creep leaves (j / 2)) (grid_entry 2 row (j / 2) (j % 2)) (fits (j / 2) (j % 2) at.block at.place))

pub on_leaves_none : (f : Filling) (creep leaves : ℕ) (row : Row) → AllFitOnLeaves f creep leaves row → first_over_fold f creep leaves row ≡ None
on_leaves_none f creep leaves row fits =
    no_fault (λ j. in_its_half f creep leaves j (entry_of row j)) (length row) (λ j less. sides_none f creep leaves (length row) row (λ n k in_n in_k. fits n k in_k) j (omega (arith, less)))

-- ---- as posters

pub poster_none : (p : Poster) (papers : List Paper) (entry : Option ℕ) → EntryMayBePoster p papers entry → why_no_tiles p papers entry ≡ None
poster_none p papers None has = refl
poster_none p papers (Some page) has = has.fits

pub posters_none : (p : Poster) (papers : List Paper) (row : Row) → AllMayBePosters p papers row → first_no_poster p papers row ≡ None
posters_none p papers row fits = no_fault (λ i. why_no_tiles p papers (entry_of row i)) (length row) (λ i less. poster_none p papers (entry_of row i) (fits i))

pub first_poster : (p : Poster) (papers : List Paper) (row : Row) (i : ℕ) (e : PosterError) → ((j : ℕ) → j < i → EntryMayBePoster p papers (entry_of row j)) → why_no_tiles p papers (entry_of row i) ≡ Some e → first_no_poster p papers row ≡ Some e
first_poster p papers row i e fits here =
    first_entry (λ j. why_no_tiles p papers) row i e (λ j. refl) (λ j less. poster_none p papers (entry_of row j) (fits j less)) here
