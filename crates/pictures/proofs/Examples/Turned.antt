-- A page turned to the left, upside down and to the right, each time moved back onto the paper.
use Rattle.std.proofs.Common.{◌≡◌, ℕ, List, [], ◌∷◌, refl, Some, None, false}
use Rattle.std.specs.Prelude.{codes, Ok}
use Rattle.std.specs.Fmt.{digits}
use Rattle.rules.specs.Specification.{Quarters, Spec, settled}
use Rattle.rules.proofs.Examples.Written.{item, written}
use Rattle.pictures.specs.Objects.{Call}
use Rattle.pictures.specs.Machine.{Painting}
use Rattle.pictures.proofs.Examples.TwoUp.{lines}
use Rattle.pictures.proofs.Examples.ByHand.{says, matrix, path, paper, edge, clip_to, by, prints}

abbrev document : List ℕ
document = lines (
    codes "%!PS-Adobe-3.0"
    ∷ codes "%%EndComments"
    ∷ codes "%%Page: 1 1"
    ∷ codes "10 20 moveto 0 40 rlineto stroke"
    ∷ codes "showpage"
    ∷ codes "%%EOF"
    ∷ [])

-- `0L(200,0),0U(200,300),0R(0,300)`
abbrev turns : Spec
turns = settled (written 1 (
    (item false 0 (Quarters 1 ∷ by 200 0 ∷ []) ∷ [])
    ∷ (item false 0 (Quarters 2 ∷ by 200 300 ∷ []) ∷ [])
    ∷ (item false 0 (Quarters 3 ∷ by 0 300 ∷ []) ∷ [])
    ∷ []))

-- the line, on a page with this placing
abbrev line_at : Call → Painting
line_at place = record {
  call = says (codes "stroke");
  graphics = record {
    chain = place ∷ [];
    path = path (place ∷ []) (codes "10 20 moveto" ∷ codes "0 40 rlineto" ∷ []);
    clip = clip_to (edge (place ∷ [])) ∷ [];
    settings = [];
  };
}

-- To the left (x, y) goes to (-y, x), and then to (200 - y, x); upside down to (-x, -y), and then to
-- (200 - x, 300 - y); to the right to (y, -x), and then to (y, 300 - x). The six numbers [a b c d e f] send it to
-- (a x + c y + e, b x + d y + f)
turned_three_ways : prints document None turns paper ≡ Ok (Some (
    (line_at (matrix (codes "0 1 -1 0 200 0")) ∷ [])
    ∷ (line_at (matrix (codes "-1 0 0 -1 200 300")) ∷ [])
    ∷ (line_at (matrix (codes "0 -1 1 0 0 300")) ∷ [])
    ∷ []))
unfolding digits
turned_three_ways = refl
