-- Places of syntax faults, worked out.
use Rattle.std.proofs.Common.{◌≡◌, inl, inr, ℕ, List, [], ◌∷◌, ◌++◌, None, refl, subst, true, false}
use Rattle.std.specs.Prelude.{codes, pos, ◌*◌, ◌^◌}
use Rattle.std.proofs.lemmas.List.Elements.{All-nil, All-cons}
use Rattle.rules.specs.Papers.{Pt}
use Rattle.rules.specs.Specification.{Modifier, Quarters, Moved, Measure, WrittenItem, WrittenSpec, Left, IsDigits, IsMeasure}
use Rattle.rules.proofs.Digits.{IsDigit}
use Rattle.pagespec.specs.Reading.{measure_at, offset_at, scale_at, modifier_at, modifiers_at, item_at, joined_at, bare_at, all_groups_at, spec_at}
use Rattle.pagespec.specs.Places.{IsPlaceIn}
use Rattle.pagespec.proofs.Canonical.{turn_written}
use Rattle.pagespec.proofs.Places.{parts_place}

abbrev item : List Modifier → WrittenItem
item ms = record { from_end = false; page = 0; modifiers = ms }

abbrev spec : ℕ → List Modifier → WrittenSpec
spec modulo ms = record { modulo = modulo; groups = (item ms ∷ []) ∷ [] }

no_page : IsDigits (codes "0") 0
no_page = (All-cons IsDigit 48 [] refl (All-nil IsDigit), (λ n. cc (n)), refl)

abbrev points : ℕ → Measure
points n = record { number = pos (n * 10 ^ 9); unit = Pt }

zero_in_points : IsMeasure (codes "0") (points 0)
zero_in_points = (codes "0", [], refl, (false, [], codes "0", [], [], refl, refl, All-cons IsDigit 48 [] refl (All-nil IsDigit), refl, All-nil IsDigit, (λ e. cc (e)), refl), inr (refl, refl))

one_in_points : IsMeasure (codes "1") (points 1)
one_in_points = (codes "1", [], refl, (false, [], codes "1", [], [], refl, refl, All-cons IsDigit 49 [] refl (All-nil IsDigit), refl, All-nil IsDigit, (λ e. cc (e)), refl), inr (refl, refl))

-- what follows the longest beginning is a byte after which no text is read
abbrev Stops : List ℕ → ℕ → Type 0
Stops front b = (after : List ℕ) → spec_at (front ++ b ∷ after) ≡ None

stops : (front rest : List ℕ) (c : ℕ) → Stops front c → (b : ℕ) (tail : List ℕ) → c ∷ rest ≡ b ∷ tail → (after : List ℕ) → spec_at (front ++ b ∷ after) ≡ None
stops front rest c stop b tail e after = let same : c ≡ b = cc (e) in subst (λ x. spec_at (front ++ x ∷ after) ≡ None) same (stop after)

at_end : (front : List ℕ) (b : ℕ) (tail : List ℕ) → [] ≡ b ∷ tail → (after : List ℕ) → spec_at (front ++ b ∷ after) ≡ None
at_end front b tail e after = absurd (cc (e))

-- the page number is left out only where the text is one item
number_left_out : IsPlaceIn (codes "L,0") 1
unfolding measure_at offset_at scale_at modifier_at modifiers_at item_at joined_at bare_at all_groups_at spec_at
number_left_out =
    parts_place (codes "L") (codes ",0") [] (spec 1 (Quarters 1 ∷ [])) (inl (refl, inr (item (Quarters 1 ∷ []), refl, (codes "L", refl, refl, (λ e. cc (e)), turn_written Left))))
    (stops (codes "L") (codes "0") 44 (λ after. refl))

empty_text : IsPlaceIn [] 0
empty_text =
    parts_place [] [] (codes "-") (record { modulo = 1; groups = (record { from_end = true; page = 0; modifiers = [] } ∷ []) ∷ [] })
    (inl (refl, inr (record { from_end = true; page = 0; modifiers = [] }, refl, ([], refl, refl, (λ e. cc (e)), refl)))) (at_end [])

modulo_alone : IsPlaceIn (codes "2:") 2
modulo_alone =
    parts_place (codes "2:") [] (codes "0") (spec 2 []) (inr (codes "2", codes "0", refl, (All-cons IsDigit 50 [] refl (All-nil IsDigit), (λ n. cc (n)), refl), inl (codes "0", [], refl, no_page, refl))) (at_end (codes "2:"))

space_after : IsPlaceIn (codes "0 ") 1
unfolding measure_at offset_at scale_at modifier_at modifiers_at item_at joined_at bare_at all_groups_at spec_at
space_after =
    parts_place (codes "0") (codes " ") [] (spec 1 []) (inl (refl, inl (codes "0", [], refl, no_page, refl))) (stops (codes "0") [] 32 (λ after. refl))

offset_begun : IsPlaceIn (codes "0(1") 3
offset_begun =
    parts_place (codes "0(1") [] (codes ",0)") (spec 1 (Moved (points 1) (points 0) ∷ []))
    (inl (refl, inl (codes "0", codes "(1,0)", refl, no_page, (codes "(1,0)", [], refl, (codes "1", codes "0", refl, one_in_points, zero_in_points), refl)))) (at_end (codes "0(1"))

turn_before_number : IsPlaceIn (codes "0L0") 2
unfolding measure_at offset_at scale_at modifier_at modifiers_at item_at joined_at bare_at all_groups_at spec_at
turn_before_number =
    parts_place (codes "0L") (codes "0") [] (spec 1 (Quarters 1 ∷ [])) (inl (refl, inl (codes "0", codes "L", refl, no_page, turn_written Left))) (stops (codes "0L") [] 48 (λ after. refl))

no_modifier : IsPlaceIn (codes "0:0x") 3
unfolding measure_at offset_at scale_at modifier_at modifiers_at item_at joined_at bare_at all_groups_at spec_at
no_modifier =
    parts_place (codes "0:0") (codes "x") [] (spec 0 []) (inr (codes "0", codes "0", refl, no_page, inl (codes "0", [], refl, no_page, refl))) (stops (codes "0:0") [] 120 (λ after. refl))
