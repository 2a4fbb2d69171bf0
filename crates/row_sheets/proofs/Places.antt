-- Each entry of a row has its cell, so if all entries of all sheets have their places, so has each page of the row.
use Rattle.std.proofs.Common.{arith, ◌≡◌, ◌∙◌, inl, inr, ℕ, suc, zero, ◌+◌, ◌*◌, ◌/◌, ◌%◌, ◌<◌, ◌≤◌, Bool, true, false, length, refl, sym, ap, subst}
use Rattle.std.specs.Prelude.{◌==◌, if◌then◌else◌, None}
use Rattle.std.proofs.Math.Nat.{mod-lt, div-lt_iff_lt-mul, mul_comm}
use Rattle.std.proofs.lemmas.Bool.{cases_lt}
use Rattle.std.proofs.lemmas.List.{get_or_past}
use Rattle.std.proofs.lemmas.Nat.{div-add-mod'}
use Rattle.rules.specs.Sheets.{blocks}
use Rattle.rules.specs.Signatures.{entry_of}
use Rattle.rules.specs.Rows.{Row}
use Rattle.rules.proofs.Auto.{blocks_cover}
use Rattle.layouts.specs.Cells.{size}
use Rattle.layouts.specs.declared.setting.Setting.{Setting}
use Rattle.row_sheets.specs.Filled.{Filling, behind_in, grid_entry, zine_place}
use Rattle.row_sheets.specs.Creep.{creep_on}
use Rattle.row_sheets.specs.Schemes.{EntryFitsBy, FitBy}
use Rattle.row_sheets.specs.Shapes.{cell_count, cell_on, place_by, sheet_count}
use Rattle.row_sheets.specs.declared.fill.Scheme.{Scheme}
use Rattle.row_sheets.specs.declared.fill.Scheme.TheVariants as scheme
use Rattle.row_sheets.specs.Standing.{AllEntriesFit, AllFitOnLeaves, EntryCreeps, EntryFits}
use Rattle.row_sheets.proofs.Behind.{behind_is_mirror, behind_twice}

-- after the end of a row all is blank
pub past_end : (row : Row) (i : ℕ) → length row ≤ i → entry_of row i ≡ None
past_end row i past = get_or_past row i None past

each_entry : (f : Filling) (row : Row) → ((i : ℕ) → i < length row → EntryFits f (entry_of row i)) → AllEntriesFit f row
each_entry f row fits i = elim (cases_lt i (length row)) [
  | inl less ↦ fits i less
  | inr past ↦ subst (EntryFits f) (sym (past_end row i past)) tt
]

-- place i in blocks of so many, of which there are enough
pub record IsIn (i many most : ℕ) : Type 0 where
  pub some : 0 < many
  pub block : i / many < most
  pub place : i % many < many
  pub is : i / many * many + i % many ≡ i

pub in_blocks : (i n many most : ℕ) → i < n → n ≤ most * many → IsIn i many most
in_blocks i n zero most less enough = absurd (omega (arith, less, enough))
in_blocks i n (suc m) most less enough =
    let some : 0 < suc m = omega arith in record {
      some = some;
      block = (div-lt_iff_lt-mul some).1 (omega (arith, less, enough));
      place = mod-lt i some;
      is = div-add-mod' i (suc m);
    }

-- ---- cells

-- what is behind the cell that is behind a cell is that cell
on_both : (t : Setting) (k : ℕ) → k < size t.grid → (b : Bool)
    → ((if b then k else behind_in t k) < size t.grid) × ((if b then (if b then k else behind_in t k) else behind_in t (if b then k else behind_in t k)) ≡ k)
on_both t k within true = (within, refl)
on_both t k within false =
    ((behind_is_mirror t.order.run t.order.right_to_left t.order.turned t.grid k within).0, behind_twice t k within)

turned_over : (leaves cells : ℕ) → leaves * (2 * cells) ≡ cells * (2 * leaves)
turned_over leaves cells = grind arith

covering : (cells sheets : ℕ) (row : Row) → 0 < cells → sheets ≡ blocks cells (length row) → length row ≤ sheets * cells
covering cells sheets row some many = subst (λ n. length row ≤ n * cells) (sym many) (blocks_cover cells (length row) some)

-- which cell of a zine has an entry
zine_cell : (j : ℕ) → j < 8 → (c : ℕ) × (c < 8) × (zine_place c ≡ j)
zine_cell zero within = (7, omega arith, refl)
zine_cell (suc zero) within = (3, omega arith, refl)
zine_cell (suc (suc zero)) within = (2, omega arith, refl)
zine_cell (suc (suc (suc zero))) within = (1, omega arith, refl)
zine_cell (suc (suc (suc (suc zero)))) within = (0, omega arith, refl)
zine_cell (suc (suc (suc (suc (suc zero))))) within = (4, omega arith, refl)
zine_cell (suc (suc (suc (suc (suc (suc zero)))))) within = (5, omega arith, refl)
zine_cell (suc (suc (suc (suc (suc (suc (suc zero))))))) within = (6, omega arith, refl)
zine_cell (suc (suc (suc (suc (suc (suc (suc (suc j)))))))) within = absurd (omega (arith, within))

-- ---- leaves that creep

creeping_fit : (f : Filling) (creep leaves sheets : ℕ) (row : Row) → sheets ≡ blocks 2 (length row)
    → ((s k : ℕ) → s < sheets → k < 2 → EntryCreeps f (creep_on creep leaves s) (grid_entry 2 row s k)) → AllFitOnLeaves f creep leaves row
creeping_fit f creep leaves sheets row many fits s k in_k = elim (cases_lt s sheets) [
  | inl less ↦ fits s k less in_k
  | inr past ↦
      let enough : length row ≤ blocks 2 (length row) * 2 = blocks_cover 2 (length row) (omega arith) in
      subst (EntryCreeps f (creep_on creep leaves s)) (sym (past_end row (s * 2 + k) (omega (arith, past, enough, many)))) tt
]

-- ---- all of them

pub cells_fit : (how : Scheme) (f : Filling) (leaves cells sheets : ℕ) (row : Row) → 0 < cells → cells ≡ cell_count how f.setting → sheets ≡ sheet_count how cells (length row)
    → ((s c : ℕ) → s < sheets → c < cells → EntryFitsBy how f leaves s (entry_of row (place_by how f.setting sheets cells s c))) → FitBy how f leaves row
cells_fit (scheme.Grid given) f leaves cells sheets row some all many fits = each_entry f row (λ i less.
    let at = in_blocks i (length row) cells sheets less (covering cells sheets row some many) in
    subst (λ k. EntryFits f (entry_of row k)) at.is (fits (i / cells) (i % cells) at.block at.place))
cells_fit (scheme.Cards given) f leaves cells sheets row some all many fits = each_entry f row (λ i less.
    let same : sheets ≡ length row = many in
    fits i 0 (omega (arith, less, same)) some)
cells_fit (scheme.Stack given) f leaves cells sheets row some all many fits = each_entry f row (λ i less.
    let enough = covering cells sheets row some many in
    let at = in_blocks i (length row) sheets cells less (omega (arith, enough, mul_comm sheets cells)) in
    subst (λ k. EntryFits f (entry_of row k)) at.is (fits (i % sheets) (i / sheets) at.place at.block))
cells_fit scheme.Leaves f leaves cells sheets row some all many fits = each_entry f row (λ i less.
    let t = f.setting in
    let sewn = blocks (2 * cells) (length row) in
    let covered : length row ≤ sewn * (2 * cells) = blocks_cover (2 * cells) (length row) (omega (arith, some)) in
    let enough : length row ≤ cells * sheets = subst (λ n. length row ≤ n) (turned_over sewn cells ∙ ap (λ s. cells * s) (sym many)) covered in
    let at = in_blocks i (length row) sheets cells less enough in
    let k = i / sheets in
    let s = i % sheets in
    let c = cell_on t s k in
    let both = on_both t k (subst (λ n. k < n) all at.block) (s % 2 == 0) in
    let within : c < cells = subst (λ n. c < n) (sym all) both.0 in
    let is : cell_on t s c * sheets + s ≡ i = ap (λ j. j * sheets + s) both.1 ∙ at.is in
    subst (λ j. EntryFits f (entry_of row j)) is (fits s c at.place within))
cells_fit scheme.Zine f leaves cells sheets row some all many fits = each_entry f row (λ i less.
    let at = in_blocks i (length row) cells sheets less (covering cells sheets row some many) in
    let c = zine_cell (i % cells) (subst (λ n. i % cells < n) all at.place) in
    subst (λ k. EntryFits f (entry_of row k)) (ap (λ j. i / cells * cells + j) c.2 ∙ at.is)
    (fits (i / cells) c.0 at.block (subst (λ n. c.0 < n) (sym all) c.1)))
cells_fit (scheme.Booklet turned_backs creep) f leaves cells sheets row some all many fits =
    creeping_fit f creep leaves sheets row (many ∙ ap (λ n. blocks n (length row)) all) (λ s k in_s in_two. fits s k in_s (subst (λ n. k < n) (sym all) in_two))
