-- The table of papers, read from its start.
use Rattle.std.proofs.Common.{arith, ◌≡◌, ◌<◌, ℕ, zero, suc, List, [], ◌∷◌, Bool, true, false, refl, sym, ap, ◌∙◌, length, drop, get_or, IsTrue, Bor, true≢false}
use Rattle.std.specs.Prelude.{map, ◌&&◌, ◌↔◌, if◌then◌else◌, Some}
use Rattle.std.specs.List.{list_all}
use Rattle.std.specs.Char.{to_ascii_lowercase}
use Rattle.std.specs.Str.{bytes_eq}
use Rattle.std.proofs.lemmas.Slice.Eq.{bytes_eq-Decides}
use Rattle.std.proofs.lemmas.Bool.Decides.{nat_tests}
use Rattle.rules.specs.Papers.{NamedPaper, points, small, paper_among}

-- a row of the table: its name, and the sides in points
abbrev pub Row : Type 0
Row = Bor (List ℕ) × ℕ × ℕ

abbrev pub entry : Row → NamedPaper
entry row = record { name = row.0.now; paper = points row.1 row.2 }

abbrev pub is_lowercase : Row → Bool
is_lowercase row = bytes_eq (map to_ascii_lowercase row.0.now) row.0.now

both : (a b : Bool) → (a && b) ≡ true → (a ≡ true) × (b ≡ true)
both true b e = (refl, e)
both false b e = absurd (cc)

small_is : (b : ℕ) → small b ≡ to_ascii_lowercase b
small_is b = grind (arith, nat_tests)

lowercase-small : (bs : List ℕ) → map small bs ≡ map to_ascii_lowercase bs
lowercase-small [] = refl
lowercase-small (b ∷ bs) = ap (λ c. c ∷ map small bs) (small_is b) ∙ ap (λ rest. to_ascii_lowercase b ∷ rest) (lowercase-small bs)

by_test : (b : Bool) → (b ≡ true → ⊥) → b ≡ false
by_test true h = absurd (h refl)
by_test false h = refl

-- a name that isn't this row's is looked for in the rows after it
other_name : (name : List ℕ) (row : Row) (rows : List Row) → is_lowercase row ≡ true → (map to_ascii_lowercase name ≡ map to_ascii_lowercase row.0.now → ⊥)
    → paper_among (map entry (row ∷ rows)) name ≡ paper_among (map entry rows) name
other_name name row rows lower differs =
    let known : map to_ascii_lowercase row.0.now ≡ row.0.now = (bytes_eq-Decides _ _).0 lower in
    let no : bytes_eq (map small name) row.0.now ≡ false = by_test _ (λ e. differs (sym (lowercase-small name) ∙ (bytes_eq-Decides _ _).0 e ∙ sym known)) in
    ap (λ b. if b then Some (entry row).paper else paper_among (map entry rows) name) no

pub passed_over : (rows : List Row) (i : ℕ) (d : Row) (name : List ℕ) → list_all is_lowercase rows ≡ true → i < length rows
    → (same : Bool) → (IsTrue same ↔ (map to_ascii_lowercase name ≡ map to_ascii_lowercase (get_or rows i d).0.now)) → same ≡ false
    → paper_among (map entry (drop (suc i) rows)) name ≡ paper_among (map entry (drop i rows)) name
passed_over [] i d name lower h same test e = absurd (omega arith)
passed_over (row ∷ rows) zero d name lower h same test e = sym (other_name name row rows (both _ _ lower).0 (λ q. true≢false (sym (test.1 q) ∙ e)))
passed_over (row ∷ rows) (suc i) d name lower h same test e = passed_over rows i d name (both _ _ lower).1 (omega arith) same test e

-- a name that is this row's names its paper
pub found_at : (rows : List Row) (i : ℕ) (d : Row) (name : List ℕ) → list_all is_lowercase rows ≡ true → i < length rows
    → (same : Bool) → (IsTrue same ↔ (map to_ascii_lowercase name ≡ map to_ascii_lowercase (get_or rows i d).0.now)) → same ≡ true
    → paper_among (map entry (drop i rows)) name ≡ Some (points (get_or rows i d).1 (get_or rows i d).2)
found_at [] i d name lower h same test e = absurd (omega arith)
found_at (row ∷ rows) zero d name lower h same test e =
    let known : map to_ascii_lowercase row.0.now ≡ row.0.now = (bytes_eq-Decides _ _).0 (both _ _ lower).0 in
    let yes : bytes_eq (map small name) row.0.now ≡ true = (bytes_eq-Decides _ _).1 (lowercase-small name ∙ test.0 e ∙ known) in
    ap (λ b. if b then Some (entry row).paper else paper_among (map entry rows) name) yes
found_at (row ∷ rows) (suc i) d name lower h same test e = found_at rows i d name (both _ _ lower).1 (omega arith) same test e
