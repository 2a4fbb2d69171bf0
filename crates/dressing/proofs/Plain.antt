-- A text without a line end is one line.
use Rattle.std.proofs.Common.{◌≡◌, ℕ, List, [], ◌∷◌, Bool, true, false, refl, ap, ◌∙◌}
use Rattle.std.specs.Prelude.{IsTrue, not, ◌&&◌, ◌||◌, ◌==◌}
use Rattle.rules.specs.Units.{is_end}
use Rattle.imposed_again.specs.Seams.{no_ends}
use Rattle.sheet_text.specs.LinesIn.{is_line}

both : (s t : Bool) → (s && t) ≡ true → (s ≡ true) × (t ≡ true)
both true t e = (refl, e)
both false t e = (e, cc)

not_second : (s t : Bool) → not (s || t) ≡ true → not t ≡ true
not_second true true e = e
not_second true false e = refl
not_second false t e = e

joined : (s t : Bool) → s ≡ true → t ≡ true → (s && t) ≡ true
joined true t a b = b
joined false t a b = a

is_line_of : (xs : List ℕ) → no_ends xs ≡ true → is_line xs ≡ true
is_line_of [] h = refl
is_line_of (b ∷ bs) h =
    let parts = both (not (is_end b)) (no_ends bs) h in
    joined (not (b == 10)) (is_line bs) (not_second (b == 13) (b == 10) parts.0) (is_line_of bs parts.1)

-- a text that is this one, which has no line end
pub may_stand : (xs row : List ℕ) → xs ≡ row → no_ends row ≡ true → IsTrue (is_line xs)
may_stand xs row is plain = ap is_line is ∙ is_line_of row plain
