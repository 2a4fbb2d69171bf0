-- A wide sheet: 65 slots on it, each a point further to the right.
use Rattle.std.proofs.Common.{◌≡◌, ℕ, List, [], ◌∷◌, ◌++◌, map, refl, Some, None, false}
use Rattle.std.specs.Prelude.{codes, Ok}
use Rattle.std.specs.List.{range_with_len}
use Rattle.std.specs.Fmt.{digits}
use Rattle.rules.specs.Specification.{Spec, settled}
use Rattle.rules.proofs.Examples.Written.{item, written}
use Rattle.pictures.specs.Objects.{Call}
use Rattle.pictures.specs.Machine.{Painting}
use Rattle.pictures.proofs.Examples.TwoUp.{lines}
use Rattle.pictures.proofs.Examples.ByHand.{says, matrix, words, paper, edge, clip_to, by, prints}

abbrev document : List ℕ
document = lines (
    codes "%!PS-Adobe-3.0"
    ∷ codes "%%EndComments"
    ∷ codes "%%Page: 1 1"
    ∷ codes "1 2 3 4 rectfill"
    ∷ codes "showpage"
    ∷ codes "%%EOF"
    ∷ [])

-- `0+0(1,0)+0(2,0)+ .. +0(64,0)`
abbrev wide : Spec
wide = settled (written 1 (map (λ x. item false 0 (by x 0 ∷ [])) (range_with_len 0 65) ∷ []))

abbrev shifts : List (List ℕ)
shifts = words (
    codes "0 1 2 3 4 5 6 7 8 9 10 11 12 13 14 15 16 17 18 19 20 21 22 23 24 25 26 27 28 29 30 31 32 33 34 35 36 37 38"
    ++ codes " 39 40 41 42 43 44 45 46 47 48 49 50 51 52 53 54 55 56 57 58 59 60 61 62 63 64")

abbrev rectangle_at : List Call → Painting
rectangle_at place = record {
  call = says (codes "1 2 3 4 rectfill");
  graphics = record { chain = place; path = []; clip = clip_to (edge place) ∷ []; settings = [] };
}

in_a_row : prints document None wide paper
    ≡ Ok (Some (map (λ x. rectangle_at (matrix (codes "1 0 0 1 " ++ x ++ codes " 0") ∷ [])) shifts ∷ []))
unfolding digits
in_a_row = refl
