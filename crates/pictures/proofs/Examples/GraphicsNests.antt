-- A page with `gsave` and `grestore`, `save` and `restore` and a clip within one another: each painting has what
-- was set around it, and outside of that the place.
use Rattle.std.proofs.Common.{◌≡◌, ℕ, List, [], ◌∷◌, refl, Some, None, false}
use Rattle.std.specs.Prelude.{codes, Ok}
use Rattle.std.specs.Fmt.{digits}
use Rattle.rules.specs.Specification.{Spec, settled}
use Rattle.rules.proofs.Examples.Written.{item, written}
use Rattle.pictures.specs.Objects.{Call}
use Rattle.pictures.specs.Machine.{Clip, Painting}
use Rattle.pictures.proofs.Examples.TwoUp.{lines}
use Rattle.pictures.proofs.Examples.ByHand.{says, matrix, path, paper, edge, clip_to, by, prints}

abbrev document : List ℕ
document = lines (
    codes "%!PS-Adobe-3.0"
    ∷ codes "%%EndComments"
    ∷ codes "%%Page: 1 1"
    ∷ codes "3 setlinewidth"
    ∷ codes "gsave 2 2 scale .2 setgray"
    ∷ codes "  gsave 90 rotate 0 0 moveto 0 9 lineto 9 9 lineto clip newpath 1 1 2 2 rectfill grestore"
    ∷ codes "  3 3 4 4 rectfill"
    ∷ codes "  save .4 setgray gsave 7 8 translate 5 5 6 6 rectfill restore"
    ∷ codes "  7 7 8 8 rectfill"
    ∷ codes "grestore"
    ∷ codes "9 9 10 10 rectstroke"
    ∷ codes "showpage"
    ∷ codes "%%EOF"
    ∷ [])

-- `0(30,40)`
abbrev moved : Spec
moved = settled (written 1 ((item false 0 (by 30 40 ∷ []) ∷ []) ∷ []))

abbrev place : List Call
place = matrix (codes "1 0 0 1 30 40") ∷ []

abbrev page_clip : List Clip
page_clip = clip_to (edge place) ∷ []

abbrev wide : List Call
wide = says (codes "3 setlinewidth") ∷ []

abbrev dark : List Call
dark = says (codes ".2 setgray") ∷ wide

abbrev darker : List Call
darker = says (codes ".4 setgray") ∷ dark

abbrev twice : List Call
twice = says (codes "2 2 scale") ∷ place

abbrev shifted : List Call
shifted = says (codes "7 8 translate") ∷ twice

abbrev rotated : List Call
rotated = says (codes "90 rotate") ∷ twice

abbrev rectangle : List ℕ → List Call → List Clip → List Call → Painting
rectangle text chain clip settings = record {
  call = says text;
  graphics = record { chain = chain; path = []; clip = clip; settings = settings };
}

abbrev triangle : Clip
triangle = clip_to (path rotated (codes "0 0 moveto" ∷ codes "0 9 lineto" ∷ codes "9 9 lineto" ∷ []))

-- the third one is in a `gsave` that `restore` undoes with its `save`
five_rectangles : prints document None moved paper ≡ Ok (Some ((
    rectangle (codes "1 1 2 2 rectfill") rotated (triangle ∷ page_clip) dark
    ∷ rectangle (codes "3 3 4 4 rectfill") twice page_clip dark
    ∷ rectangle (codes "5 5 6 6 rectfill") shifted page_clip darker
    ∷ rectangle (codes "7 7 8 8 rectfill") twice page_clip dark
    ∷ rectangle (codes "9 9 10 10 rectstroke") place page_clip wide
    ∷ []) ∷ []))
unfolding digits
five_rectangles = refl
