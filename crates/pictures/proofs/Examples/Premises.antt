-- One document for each premise that doesn't hold, and the consequence: a picture that is not the page's own,
-- placed.
use Rattle.std.proofs.Common.{◌≡◌, ℕ, List, [], ◌∷◌, ◌++◌, refl, Some, None, true, false, map}
use Rattle.std.specs.Prelude.{codes, Result, Ok, pos, Option, option_map}
use Rattle.std.specs.Fmt.{digits}
use Rattle.rules.specs.Papers.{points}
use Rattle.rules.specs.Specification.{Scaled, Spec, settled}
use Rattle.rules.specs.Units.{◌>>=◌}
use Rattle.rules.specs.Run.{document_of, DocumentFault}
use Rattle.rules.specs.Output.{Frame, output}
use Rattle.rules.proofs.Examples.Written.{item, written}
use Rattle.pictures.specs.Machine.{State, Painting, step, and_then}
use Rattle.pictures.specs.Scanner.{tokens}
use Rattle.pictures.specs.Sheets.{running_alone}
use Rattle.pictures.proofs.Examples.TwoUp.{lines, sheets_of, end_by, to_the_end}
use Rattle.pictures.specs.Documents.{started}

-- a document with this prolog and these pages
abbrev pub document_with : List ℕ → List (List ℕ) → List ℕ
document_with prolog pages =
    lines (codes "%!PS-Adobe-3.0" ∷ codes "%%EndComments" ∷ prolog ∷ [])
    ++ lines (map (λ page. codes "%%Page: 1 1\n" ++ page ++ codes "\nshowpage") pages)

-- each page half as large, on a sheet of its own
abbrev pub half : Spec
half = settled (written 1 ((item false 0 (Scaled (pos 500_000_000) ∷ []) ∷ []) ∷ []))

abbrev pub frame : Frame
frame = record { paper = points 200 300; border = None }

-- of each painting on each sheet, the operators of its transformation and of its clip
abbrev pub outline : List (List Painting) → List (List (List (List ℕ) × List (List ℕ)))
outline sheets =
    map (λ sheet. map (λ p. (map (λ c. c.name) p.graphics.chain, map (λ c. c.name) p.graphics.clip)) sheet) sheets

-- the sheets of a document, the latest first: printed by itself, and imposed
abbrev pub own_sheets : List ℕ → List (List ℕ) → Option (List (List Painting))
own_sheets prolog pages = sheets_of (document_with prolog pages)

abbrev pub sheets_by : Spec → List ℕ → List (List ℕ) → Result (Option (List (List Painting))) DocumentFault
sheets_by spec prolog pages =
    document_of (document_with prolog pages) >>= λ us. Ok (sheets_of (output frame None spec us))

abbrev pub own : List ℕ → List (List ℕ) → Option (List (List (List (List ℕ) × List (List ℕ))))
own prolog pages = option_map outline (own_sheets prolog pages)

abbrev pub imposed :
    List ℕ → List (List ℕ) → Result (Option (List (List (List (List ℕ) × List (List ℕ))))) DocumentFault
imposed prolog pages = sheets_by half prolog pages >>= λ sheets. Ok (option_map outline sheets)

-- a page by itself, held, after a prolog
abbrev pub by_itself : List ℕ → List ℕ → Option State
by_itself prolog page =
    and_then (λ s. end_by (step true) 100 (running_alone s (tokens page))) (to_the_end 100 (started (tokens prolog)))

abbrev pub stroke : List ℕ
stroke = codes "0 0 moveto 9 9 lineto stroke"

abbrev pub placed : List (List ℕ) × List (List ℕ)
placed = (codes "concat" ∷ [], codes "clip" ∷ [])

abbrev pub not_placed : List (List ℕ) × List (List ℕ)
not_placed = ([], [])

-- all premises hold: two sheets
both_are_placed : imposed (codes "/x 1 def") (stroke ∷ stroke ∷ []) ≡ Ok (Some ((placed ∷ []) ∷ (placed ∷ []) ∷ []))
unfolding digits
both_are_placed = refl

-- a page resets the graphics state: held, it stops
resets : imposed (codes "/x 1 def") ((codes "initgraphics " ++ stroke) ∷ []) ≡ Ok (Some ((not_placed ∷ []) ∷ []))
unfolding digits
resets = refl

resets_held : by_itself (codes "/x 1 def") (codes "initgraphics " ++ stroke) ≡ None
resets_held = refl

-- a page restores a graphics state that it didn't push
takes_back : imposed (codes "/x 1 def") ((codes "grestore " ++ stroke) ∷ []) ≡ Ok (Some ((not_placed ∷ []) ∷ []))
unfolding digits
takes_back = refl

takes_back_held : by_itself (codes "/x 1 def") (codes "grestore " ++ stroke) ≡ None
takes_back_held = refl

-- a prolog binds or loads showpage: two sheets instead of one
binds_showpage : imposed (codes "/e {showpage} bind def") ((stroke ++ codes " e " ++ stroke) ∷ [])
    ≡ Ok (Some ((not_placed ∷ []) ∷ (placed ∷ []) ∷ []))
unfolding digits
binds_showpage = refl

binds_showpage_held : by_itself (codes "/e {showpage} bind def") (stroke ++ codes " e " ++ stroke) ≡ None
binds_showpage_held = refl

-- a prolog that redefines an operator
other_concat : imposed (codes "/concat {pop} def") (stroke ∷ []) ≡ Ok (Some ((([], codes "clip" ∷ []) ∷ []) ∷ []))
unfolding digits
other_concat = refl

-- a prolog that sets a matrix: it is gone after the first sheet
matrix_in_prolog : imposed (codes "2 2 scale") (stroke ∷ stroke ∷ [])
    ≡ Ok (Some ((placed ∷ []) ∷ ((codes "concat" ∷ codes "scale" ∷ [], codes "clip" ∷ []) ∷ []) ∷ []))
unfolding digits
matrix_in_prolog = refl

-- a page that uses the name of the save: nothing restores it, and the machine stops
takes_the_name : imposed (codes "/x 1 def") ((codes "/ImposeSave 1 def " ++ stroke) ∷ []) ≡ Ok None
unfolding digits
takes_the_name = refl
