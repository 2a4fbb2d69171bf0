-- A border around each placed page: it is painted before the page, with its own line width.
use Rattle.std.proofs.Common.{◌≡◌, ℕ, List, [], ◌∷◌, refl, Some, None, false}
use Rattle.std.specs.Prelude.{codes, Ok, pos}
use Rattle.std.specs.Fmt.{digits}
use Rattle.rules.specs.Specification.{Scaled, Spec, settled}
use Rattle.rules.proofs.Examples.Written.{item, written}
use Rattle.pictures.specs.Objects.{Call}
use Rattle.pictures.specs.Machine.{Painting}
use Rattle.pictures.proofs.Examples.TwoUp.{lines}
use Rattle.pictures.proofs.Examples.ByHand.{says, matrix, path, bordered, edge, clip_to, by, prints}

abbrev document : List ℕ
document = lines (
    codes "%!PS-Adobe-3.0"
    ∷ codes "%%EndComments"
    ∷ codes "%%Page: 1 1"
    ∷ codes "5 setlinewidth 10 20 moveto 0 40 rlineto stroke"
    ∷ codes "showpage"
    ∷ codes "%%Page: 2 2"
    ∷ codes "20 10 moveto 40 0 rlineto stroke"
    ∷ codes "showpage"
    ∷ codes "%%EOF"
    ∷ [])

-- `2:0@.5+1@.5(100,150)`
abbrev two_up : Spec
two_up = settled (written 2 (
    (item false 0 (Scaled (pos 500_000_000) ∷ [])
    ∷ item false 1 (Scaled (pos 500_000_000) ∷ by 100 150 ∷ [])
    ∷ []) ∷ []))

abbrev left : Call
left = matrix (codes "0.5 0 0 0.5 0 0")

abbrev right : Call
right = matrix (codes "0.5 0 0 0.5 100 150")

abbrev border_at : Call → Painting
border_at place = record {
  call = says (codes "stroke");
  graphics = record {
    chain = place ∷ [];
    path = edge (place ∷ []);
    clip = clip_to (edge (place ∷ [])) ∷ [];
    settings = says (codes "1 setlinewidth") ∷ [];
  };
}

abbrev line_at : Call → List Call → List (List ℕ) → Painting
line_at place settings drawn = record {
  call = says (codes "stroke");
  graphics = record {
    chain = place ∷ [];
    path = path (place ∷ []) drawn;
    clip = clip_to (edge (place ∷ [])) ∷ [];
    settings = settings;
  };
}

-- neither a border's width nor the first page's is set on the second page
each_behind_its_border : prints document None two_up bordered ≡ Ok (Some (
    (border_at left
    ∷ line_at left (says (codes "5 setlinewidth") ∷ []) (codes "10 20 moveto" ∷ codes "0 40 rlineto" ∷ [])
    ∷ border_at right
    ∷ line_at right [] (codes "20 10 moveto" ∷ codes "40 0 rlineto" ∷ [])
    ∷ []) ∷ []))
unfolding digits
each_behind_its_border = refl
