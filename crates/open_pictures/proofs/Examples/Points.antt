-- The current point: as it was written, whatever the transformation; and where the machine stops.
use Rattle.std.proofs.Common.{◌≡◌, ℕ, List, [], ◌∷◌, refl, Some, None, false, map}
use Rattle.std.specs.Prelude.{codes, Option, Ok, option_map}
use Rattle.std.specs.Fmt.{digits}
use Rattle.rules.specs.Units.{◌>>=◌}
use Rattle.rules.specs.Run.{document_of}
use Rattle.rules.specs.Output.{output}
use Rattle.pictures.specs.Objects.{Object}
use Rattle.pictures.specs.Machine.{Painting}
use Rattle.pictures.specs.Scanner.{tokens}
use Rattle.pictures.specs.Documents.{started}
use Rattle.pictures.proofs.Examples.TwoUp.{number, end_by}
use Rattle.pictures.proofs.Examples.Premises.{document_with, half, frame}
use Rattle.open_pictures.specs.Machine.{open_step}
use Rattle.open_pictures.specs.Values.{values}
use Rattle.open_pictures.proofs.Examples.Values.{left_by}

as_written : left_by (codes "2 3 scale 10 20 moveto currentpoint") ≡ Some (number (codes "20") ∷ number (codes "10") ∷ [])
unfolding digits
as_written = refl

sum : left_by (codes "10 20 moveto 3 -4 rlineto .5 1 rmoveto currentpoint") ≡ Some (number (codes "17") ∷ number (codes "13 .5 add") ∷ [])
unfolding digits
sum = refl

of_a_curve : left_by (codes "1 2 moveto 3 4 5 6 7 8 curveto currentpoint") ≡ Some (number (codes "8") ∷ number (codes "7") ∷ [])
unfolding digits
of_a_curve = refl

-- under another transformation than the element's it would have to be calculated
under_another : left_by (codes "10 20 moveto 2 3 scale currentpoint") ≡ None
unfolding digits
under_another = refl

-- as many matrices aren't the same ones
as_many : left_by (codes "matrix currentmatrix 2 2 scale 5 5 moveto setmatrix 3 3 scale currentpoint") ≡ None
unfolding digits
as_many = refl

again : left_by (codes "1 2 translate 10 20 moveto matrix currentmatrix 2 3 scale setmatrix currentpoint")
    ≡ Some (number (codes "20") ∷ number (codes "10") ∷ [])
unfolding digits
again = refl

-- a sum is of what was written under one transformation
partly : left_by (codes "10 20 moveto 2 3 scale 1 1 rlineto currentpoint") ≡ None
unfolding digits
partly = refl

-- after a text it is a term
after_text : left_by (codes "/Times-Roman findfont 12 scalefont setfont 10 20 moveto (ab) show currentpoint pop")
    ≡ Some (number (codes "10 /Times-Roman 12 <6162> stringwidth pop add") ∷ [])
unfolding digits
after_text = refl

after_each : left_by (codes "/Times-Roman findfont 12 scalefont setfont 10 20 moveto (ab) [1 2 3 4] xyshow currentpoint")
    ≡ Some (number (codes "26") ∷ number (codes "14") ∷ [])
unfolding digits
after_each = refl

-- a path may have none
nowhere : left_by (codes "1 2 moveto newpath currentpoint") ≡ None
unfolding digits
nowhere = refl

-- On its sheet a page has the points that it has by itself, unlike that of `Looking`: a line from the current point.

abbrev line : List ℕ
line = codes "0 9 moveto currentpoint exch 4 add exch lineto stroke"

-- of each painting on each sheet the operands of its path's elements, the latest first
abbrev sheets_of : List ℕ → Option (List (List (List (List Object))))
sheets_of text = option_map (λ s. points s.sheets) (end_by (open_step values false) 2000 (started (tokens text)))
  where
    points : List (List Painting) → List (List (List (List Object)))
    points sheets = map (λ sheet. map (λ p. map (λ y. y.call.operands) p.graphics.path) sheet) sheets

abbrev line_on_sheet : List (List (List (List Object)))
line_on_sheet = (((number (codes "9") ∷ number (codes "4") ∷ []) ∷ (number (codes "9") ∷ number (codes "0") ∷ []) ∷ []) ∷ []) ∷ []

own : sheets_of (document_with [] (line ∷ [])) ≡ Some line_on_sheet
unfolding digits
own = refl

on_its_sheet : (document_of (document_with [] (line ∷ [])) >>= λ us. Ok (sheets_of (output frame None half us))) ≡ Ok (Some line_on_sheet)
unfolding digits
on_its_sheet = refl
