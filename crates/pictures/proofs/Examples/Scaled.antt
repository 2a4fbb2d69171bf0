-- Pages scaled, one of them also turned, and moved by centimetres, inches and parts of the paper.
use Rattle.std.proofs.Common.{◌≡◌, ℕ, List, [], ◌∷◌, refl, Some, None, false}
use Rattle.std.specs.Prelude.{codes, Ok, pos}
use Rattle.std.specs.Fmt.{digits}
use Rattle.rules.specs.Papers.{Cm, In, Width, Height}
use Rattle.rules.specs.Specification.{Quarters, Scaled, Moved, Spec, settled}
use Rattle.rules.proofs.Examples.Written.{item, measure, written}
use Rattle.pictures.specs.Objects.{Call}
use Rattle.pictures.specs.Machine.{Painting}
use Rattle.pictures.proofs.Examples.TwoUp.{lines}
use Rattle.pictures.proofs.Examples.ByHand.{says, matrix, path, paper, edge, clip_to, prints}

abbrev document : List ℕ
document = lines (
    codes "%!PS-Adobe-3.0"
    ∷ codes "%%EndComments"
    ∷ codes "%%Page: 1 1"
    ∷ codes "10 20 30 40 rectfill"
    ∷ codes "showpage"
    ∷ codes "%%Page: 2 2"
    ∷ codes "2 3 scale 1 1 moveto 9 1 lineto 9 9 lineto closepath fill"
    ∷ codes "showpage"
    ∷ codes "%%EOF"
    ∷ [])

-- `2:0@.5(1cm,.25h)+1L@.707107(1w,1in)`
abbrev scales : Spec
scales = settled (written 2 (
    (item false 0 (
    Scaled (pos 500_000_000)
    ∷ Moved (measure (pos 1_000_000_000) Cm) (measure (pos 250_000_000) Height) ∷ [])
    ∷ item false 1 (
    Quarters 1 ∷ Scaled (pos 707_107_000)
    ∷ Moved (measure (pos 1_000_000_000) Width) (measure (pos 1_000_000_000) In) ∷ [])
    ∷ []) ∷ []))

-- 72 / 2.54 = 28.346456.. points are a centimetre, which is printed with five decimals; a quarter of 300 is 75
abbrev half : Call
half = matrix (codes "0.5 0 0 0.5 28.34646 75")

-- (x, y) goes to (s x, s y); turned to the left, to (-s y, s x), and then to (200 - s y, 72 + s x)
abbrev turned : Call
turned = matrix (codes "0 0.707107 -0.707107 0 200 72")

abbrev rectangle : Painting
rectangle = record {
  call = says (codes "10 20 30 40 rectfill");
  graphics = record { chain = half ∷ []; path = []; clip = clip_to (edge (half ∷ [])) ∷ []; settings = [] };
}

-- the page's own matrix within
abbrev inner : List Call
inner = says (codes "2 3 scale") ∷ turned ∷ []

abbrev triangle : Painting
triangle = record {
  call = says (codes "fill");
  graphics = record {
    chain = inner;
    path = path inner (codes "1 1 moveto" ∷ codes "9 1 lineto" ∷ codes "9 9 lineto" ∷ codes "closepath" ∷ []);
    clip = clip_to (edge (turned ∷ [])) ∷ [];
    settings = [];
  };
}

scaled_two_ways : prints document None scales paper ≡ Ok (Some ((rectangle ∷ triangle ∷ []) ∷ []))
unfolding digits
scaled_two_ways = refl
