-- The table of papers: the row with a name.
use Rattle.std.proofs.Common.{arith, ◌≡◌, ◌<◌, ℕ, zero, suc, List, [], ◌∷◌, Bool, true, false, refl, sym, ap, ◌∙◌, length, drop, get_or}
use Rattle.std.specs.Prelude.{map, nat_lt, ◌&&◌, if◌then◌else◌, Option, Some}
use Rattle.std.specs.List.{list_all}
use Rattle.std.specs.Str.{bytes_eq}
use Rattle.std.proofs.lemmas.Bool.Decides.{nat_tests}
use Rattle.rules.specs.Papers.{Paper, points, small, paper_among}
use Rattle.paper_names.specs.Names.{Row, entry, sides_fit}

both : (a b : Bool) → (a && b) ≡ true → (a ≡ true) × (b ≡ true)
both true b e = (refl, e)
both false b e = absurd (cc)

fit_at : (rows : List Row) (i : ℕ) (d : Row) → list_all sides_fit rows ≡ true → i < length rows → sides_fit (get_or rows i d) ≡ true
fit_at [] i d all h = absurd (omega arith)
fit_at (row ∷ rows) zero d all h = (both _ _ all).0
fit_at (row ∷ rows) (suc i) d all h = fit_at rows i d (both _ _ all).1 (omega arith)

is_below : (a b : ℕ) → nat_lt a b ≡ true → a < b
is_below a b e = grind (arith, nat_tests)

within : (side most : ℕ) → (nat_lt 0 side && nat_lt side most) ≡ true → (0 < side) × (side < most)
within side most e = (is_below 0 side (both _ _ e).0, is_below side most (both _ _ e).1)

pub width_fits : (rows : List Row) (i : ℕ) (d : Row) → list_all sides_fit rows ≡ true → i < length rows
    → (0 < (get_or rows i d).1) × ((get_or rows i d).1 < 7_200_000)
width_fits rows i d all h = within (get_or rows i d).1 7_200_000 (both _ _ (fit_at rows i d all h)).0

pub height_fits : (rows : List Row) (i : ℕ) (d : Row) → list_all sides_fit rows ≡ true → i < length rows
    → (0 < (get_or rows i d).2) × ((get_or rows i d).2 < 7_200_000)
height_fits rows i d all h = within (get_or rows i d).2 7_200_000 (both _ _ (fit_at rows i d all h)).1

-- the paper of a row, or what is found in the rows after it
abbrev pick : Row → List Row → (name : List ℕ) → Bool → Option Paper
pick row rows name b = if b then Some (points row.1 row.2) else paper_among (map entry rows) name

row_at : (rows : List Row) (i : ℕ) (d : Row) (name : List ℕ) → i < length rows
    → paper_among (map entry (drop i rows)) name ≡ pick (get_or rows i d) (drop (suc i) rows) name (bytes_eq (map small name) (get_or rows i d).0.now)
row_at [] i d name h = absurd (omega arith)
row_at (row ∷ rows) zero d name h = refl
row_at (row ∷ rows) (suc i) d name h = row_at rows i d name (omega arith)

-- whether the row at this place has the name was asked of its name by itself
test_is : (rows : List Row) (i : ℕ) (d : Row) (name known : List ℕ) (same b : Bool) → known ≡ (get_or rows i d).0.now
    → same ≡ bytes_eq (map small name) known → same ≡ b → bytes_eq (map small name) (get_or rows i d).0.now ≡ b
test_is rows i d name known same b is test e = ap (bytes_eq (map small name)) (sym is) ∙ (sym test ∙ e)

pub found_by : (rows : List Row) (i : ℕ) (d : Row) (name known : List ℕ) (same : Bool) → known ≡ (get_or rows i d).0.now → i < length rows
    → same ≡ bytes_eq (map small name) known → same ≡ true
    → paper_among (map entry (drop i rows)) name ≡ Some (points (get_or rows i d).1 (get_or rows i d).2)
found_by rows i d name known same is h test e =
    row_at rows i d name h ∙ ap (pick (get_or rows i d) (drop (suc i) rows) name) (test_is rows i d name known same true is test e)

pub passed_by : (rows : List Row) (i : ℕ) (d : Row) (name known : List ℕ) (same : Bool) → known ≡ (get_or rows i d).0.now → i < length rows
    → same ≡ bytes_eq (map small name) known → same ≡ false
    → paper_among (map entry (drop (suc i) rows)) name ≡ paper_among (map entry (drop i rows)) name
passed_by rows i d name known same is h test e =
    sym (row_at rows i d name h ∙ ap (pick (get_or rows i d) (drop (suc i) rows) name) (test_is rows i d name known same false is test e))
