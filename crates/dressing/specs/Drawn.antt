-- The lines that draw marks, and the dress that has them. Their operators are of the PostScript Language Reference; the rest
-- is this project's own rules.
use Rattle.std.specs.Prelude.{ℕ, List, [], ◌∷◌, ◌++◌, map, codes}
use Rattle.rules.specs.Dress.{Dress}
use Rattle.sheet_text.specs.PageNumbers.{number_point_text}
use Rattle.dressing.specs.declared.strokes.Stroke.{Stroke}

-- the line that draws a stroke
abbrev pub stroke_line : Stroke → List ℕ
stroke_line s =
    codes "newpath "
    ++ (number_point_text s.start.0 s.start.1 ++ (codes " moveto " ++ (number_point_text s.end.0 s.end.1 ++ codes " lineto stroke")))

-- strokes are black, and a quarter of a point wide; no strokes are no lines (RULES, 15)
abbrev pub mark_lines : List Stroke → List (List ℕ)
mark_lines [] = []
mark_lines (s ∷ strokes) =
    codes "gsave 0 setgray .25 setlinewidth [] 0 setdash"
    ∷ (map stroke_line (s ∷ strokes) ++ codes "grestore" ∷ [])

-- the dress with these strokes at the end of each sheet, after its own lines there
abbrev pub strokes_added : List Stroke → Dress → Dress
strokes_added strokes dress = record dress { finish = λ s paper. dress.finish s paper ++ mark_lines strokes }
