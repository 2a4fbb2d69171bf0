-- A range, by the parts between minus signs.
use Rattle.std.proofs.Common.{ℕ, ◌<◌, ◌≡◌, ◌∙◌, Option, Some, None, List, [], ◌∷◌, ◌==◌, false, arith, ap, sym, refl, length}
use Rattle.std.specs.Prelude.{if◌then◌else◌, option_map, option_and_then}
use Rattle.std.specs.List.{slice_split}
use Rattle.std.proofs.lemmas.List.Splits.{length-slice_split}
use Rattle.rules.specs.Ranges.{RangeEnd, BlankPage, FromTo, is_blank_page, range_at, range_of, place_at, last_place_at}
use Rattle.rows.specs.Found.{found_in, number_found, range_found}

abbrev parts : List ℕ → List (List ℕ)
parts text = slice_split (λ b. b == 45) text

not_blank : (text : List ℕ) (ps : List (List ℕ)) → is_blank_page text ≡ false → parts text ≡ ps → range_at text ≡ range_of ps
not_blank text ps isnt is = ap (λ t. if t then Some BlankPage else range_of (parts text)) isnt ∙ ap range_of is

range_of_many : (first second : List ℕ) (more : List (List ℕ)) → 0 < length more → range_of (first ∷ second ∷ more) ≡ None
range_of_many first second [] lt = absurd (omega (arith, lt))
range_of_many first second (x ∷ more) lt = refl

pub too_many : (pages : ℕ) (text first rest second third : List ℕ) → is_blank_page text ≡ false → parts text ≡ first ∷ parts rest → parts rest ≡ second ∷ parts third
    → None ≡ option_map (found_in pages) (range_at text)
too_many pages text first rest second third isnt is more =
    let some : 0 < length (parts third) = omega (arith, length-slice_split (λ b. b == 45) third) in
    sym (ap (option_map (found_in pages)) (not_blank text _ isnt (is ∙ ap (λ ps. first ∷ ps) more) ∙ range_of_many first second (parts third) some))

fused : (pages : ℕ) (a b : Option RangeEnd)
    → option_and_then (λ n. option_map (range_found n) (option_map (number_found pages) b)) (option_map (number_found pages) a)
    ≡ option_map (found_in pages) (option_and_then (λ p. option_map (λ q. FromTo p q) b) a)
fused pages None b = refl
fused pages (Some p) None = refl
fused pages (Some p) (Some q) = refl

pub two_places : (pages : ℕ) (text first rest second : List ℕ) (o p : Option ℕ) → is_blank_page text ≡ false → parts text ≡ first ∷ parts rest → parts rest ≡ second ∷ []
    → o ≡ option_map (number_found pages) (place_at first) → p ≡ option_map (number_found pages) (last_place_at second)
    → option_and_then (λ n. option_map (range_found n) p) o ≡ option_map (found_in pages) (range_at text)
two_places pages text first rest second o p isnt is more one other =
    ap (λ a. option_and_then (λ n. option_map (range_found n) p) a) one
    ∙ ap (λ b. option_and_then (λ n. option_map (range_found n) b) (option_map (number_found pages) (place_at first))) other
    ∙ fused pages (place_at first) (last_place_at second)
    ∙ sym (ap (option_map (found_in pages)) (not_blank text _ isnt (is ∙ ap (λ ps. first ∷ ps) more)))
