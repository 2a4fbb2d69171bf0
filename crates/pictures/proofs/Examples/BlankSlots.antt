-- Blank slots: they have no border, and a sheet of blanks is printed with nothing on it.
use Rattle.std.proofs.Common.{◌≡◌, ℕ, List, [], ◌∷◌, refl, Some, None, false}
use Rattle.std.specs.Prelude.{codes, Ok}
use Rattle.std.specs.Fmt.{digits}
use Rattle.rules.specs.Specification.{Spec, settled}
use Rattle.rules.proofs.Examples.Written.{item, written}
use Rattle.pictures.specs.Objects.{Call}
use Rattle.pictures.specs.Machine.{Painting}
use Rattle.pictures.proofs.Examples.TwoUp.{lines}
use Rattle.pictures.proofs.Examples.ByHand.{says, matrix, path, bordered, edge, clip_to, by, prints}

abbrev document : List ℕ
document = lines (
    codes "%!PS-Adobe-3.0"
    ∷ codes "%%EndComments"
    ∷ codes "%%Page: 1 1"
    ∷ codes "10 20 moveto 0 40 rlineto stroke"
    ∷ codes "showpage"
    ∷ codes "%%EOF"
    ∷ [])

-- `4:2+0(7,8)+1,3`
abbrev blanks : Spec
blanks = settled (written 4 (
    (item false 2 [] ∷ item false 0 (by 7 8 ∷ []) ∷ item false 1 [] ∷ []) ∷ (item false 3 [] ∷ []) ∷ []))

abbrev place : Call
place = matrix (codes "1 0 0 1 7 8")

abbrev border : Painting
border = record {
  call = says (codes "stroke");
  graphics = record {
    chain = place ∷ [];
    path = edge (place ∷ []);
    clip = clip_to (edge (place ∷ [])) ∷ [];
    settings = says (codes "1 setlinewidth") ∷ [];
  };
}

abbrev line : Painting
line = record {
  call = says (codes "stroke");
  graphics = record {
    chain = place ∷ [];
    path = path (place ∷ []) (codes "10 20 moveto" ∷ codes "0 40 rlineto" ∷ []);
    clip = clip_to (edge (place ∷ [])) ∷ [];
    settings = [];
  };
}

-- the one page between two blanks, and then a sheet of one blank
one_page_and_three_blanks : prints document None blanks bordered ≡ Ok (Some ((border ∷ line ∷ []) ∷ [] ∷ []))
unfolding digits
one_page_and_three_blanks = refl
