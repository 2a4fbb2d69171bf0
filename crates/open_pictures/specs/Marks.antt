-- What a sheet's own strokes paint: marks for folds and cuts, lines for notes. They come after its pages.
use Rattle.std.specs.Prelude.{ℕ, List, [], ◌∷◌, codes}
use Rattle.rules.specs.Numbers.{points_text}
use Rattle.dressing.specs.declared.strokes.Stroke.{Stroke}
use Rattle.pictures.specs.Objects.{Number, Plain, Array, Call}
use Rattle.pictures.specs.Machine.{Graphics, Painting}
use Rattle.pictures.specs.Sheets.{path_point}

-- the operators that draw them
abbrev pub marking_names : List (List ℕ)
marking_names =
    codes "gsave" ∷ codes "setgray" ∷ codes "setlinewidth" ∷ codes "[" ∷ codes "]" ∷ codes "setdash" ∷ codes "newpath"
    ∷ codes "moveto" ∷ codes "lineto" ∷ codes "stroke" ∷ codes "grestore" ∷ []

-- black, a quarter of a point wide, without dashes
abbrev pub inked : List Call → List Call
inked settings =
    record { name = codes "setdash"; operands = Plain (Number (codes "0")) ∷ Array [] ∷ [] }
    ∷ record { name = codes "setlinewidth"; operands = Plain (Number (codes ".25")) ∷ [] }
    ∷ record { name = codes "setgray"; operands = Plain (Number (codes "0")) ∷ [] } ∷ settings

-- a line between two points of the sheet
abbrev pub line_painted : Graphics → (a b c d : List ℕ) → Painting
line_painted g a b c d = record {
  call = record { name = codes "stroke"; operands = [] };
  graphics = record {
    chain = g.chain;
    path = path_point (codes "lineto") c d g.chain ∷ path_point (codes "moveto") a b g.chain ∷ [];
    clip = g.clip;
    settings = inked g.settings;
  };
}

abbrev pub stroke_painted : Graphics → Stroke → Painting
stroke_painted g x =
    line_painted g (points_text x.start.0) (points_text x.start.1) (points_text x.end.0) (points_text x.end.1)

-- these strokes, after what was painted before; the latest painting first
abbrev pub with_strokes : Graphics → List Stroke → List Painting → List Painting
with_strokes g [] before = before
with_strokes g (x ∷ strokes) before = with_strokes g strokes (stroke_painted g x ∷ before)
