-- What the guard doesn't cure, each with the wrong picture that comes of it.
use Rattle.std.proofs.Common.{◌≡◌, [], ◌∷◌, ◌++◌, refl, Some, None, false}
use Rattle.std.specs.Prelude.{codes, Ok, option_map}
use Rattle.std.specs.Fmt.{digits}
use Rattle.rules.specs.Papers.{points}
use Rattle.rules.specs.Specification.{Spec, settled}
use Rattle.rules.specs.Units.{◌>>=◌}
use Rattle.rules.specs.Run.{document_of}
use Rattle.rules.specs.Output.{output}
use Rattle.rules.proofs.Examples.Written.{item, written}
use Rattle.guard.specs.Guard.{guarded}
use Rattle.pictures.proofs.Examples.TwoUp.{lines, sheets_of}
use Rattle.pictures.proofs.Examples.Premises.{document_with, frame, outline, stroke, placed, not_placed}
use Rattle.pictures.proofs.Examples.Guarded.{imposed, sheets_with_guard}

-- the operator itself, by systemdict: a sheet more, and what is painted after it isn't placed
takes_the_operator : imposed (codes "/x 1 def") ((stroke ++ codes " systemdict /showpage get exec " ++ stroke) ∷ [])
    ≡ Ok (Some ((not_placed ∷ []) ∷ (placed ∷ []) ∷ []))
unfolding digits
takes_the_operator = refl

resets_by_the_operator : imposed (codes "/x 1 def") ((codes "systemdict /initgraphics get exec " ++ stroke) ∷ []) ≡ Ok (Some ((not_placed ∷ []) ∷ []))
unfolding digits
resets_by_the_operator = refl

-- a page that restores a save of the prolog: the place is gone, and the name of the sheet's save with it, so the machine stops
restores_prolog : imposed (codes "/s save def") ((codes "s restore " ++ stroke) ∷ []) ≡ Ok None
unfolding digits
restores_prolog = refl

-- a matrix that the setup has set: it is gone after the first sheet
matrix_in_setup : imposed (codes "2 2 scale") (stroke ∷ stroke ∷ [])
    ≡ Ok (Some ((placed ∷ []) ∷ ((codes "concat" ∷ codes "scale" ∷ [], codes "clip" ∷ []) ∷ []) ∷ []))
unfolding digits
matrix_in_setup = refl

-- a matrix that was noted there, and that a page sets: the page leaves its place, within its clip
matrix_of_setup : imposed (codes "/m matrix currentmatrix def") ((codes "m setmatrix " ++ stroke) ∷ [])
    ≡ Ok (Some ((([], codes "clip" ∷ []) ∷ []) ∷ []))
unfolding digits
matrix_of_setup = refl

-- a showpage of the document's own in a dictionary that can't be written: it hides the sheet's, and no sheet is printed
keeps_its_own_showpage : imposed (codes "/d 1 dict def d /showpage {} put d readonly begin") (stroke ∷ []) ≡ Ok (Some [])
unfolding digits
keeps_its_own_showpage = refl

-- and in one that can be written, where the first sheet has no page: the guard has changed nothing then, and that sheet isn't
-- printed
abbrev second_page_first : Spec
second_page_first = settled (written 2 ((item false 1 [] ∷ []) ∷ (item false 0 [] ∷ []) ∷ []))

blank_sheet_first : (document_of (guarded (Some (points 200 300)) (document_with (codes "/d 1 dict def d /showpage {} put d begin") (stroke ∷ [])))
    >>= λ us. Ok (option_map outline (sheets_of (output frame None second_page_first us)))) ≡ Ok (Some ((placed ∷ []) ∷ []))
unfolding digits
blank_sheet_first = refl

-- so it is where userdict's showpage is empty, and the first sheet has no page
blank_sheet_first_silenced : (document_of (guarded (Some (points 200 300)) (document_with (codes "userdict /showpage {} put") (stroke ∷ [])))
    >>= λ us. Ok (option_map outline (sheets_of (output frame None second_page_first us)))) ≡ Ok (Some ((placed ∷ []) ∷ []))
unfolding digits
blank_sheet_first_silenced = refl

-- both: the dictionary's showpage asks userdict's, which is empty
silences_both : imposed (codes "userdict /showpage {} put /d 1 dict def d /showpage {} put d begin") (stroke ∷ []) ≡ Ok (Some [])
unfolding digits
silences_both = refl

-- showpage in the trailer: a blank sheet more
shows_in_trailer : sheets_with_guard (document_with (codes "/x 1 def") (stroke ∷ []) ++ lines (codes "%%Trailer" ∷ codes "showpage" ∷ []))
    ≡ Ok (Some ([] ∷ (placed ∷ []) ∷ []))
unfolding digits
shows_in_trailer = refl

-- a showpage of the document's own that draws: its mark is drawn on the sheet, not on the page
draws_in_showpage : imposed (codes "/old /showpage load def /showpage {0 0 moveto 9 9 lineto stroke old} def") (stroke ∷ [])
    ≡ Ok (Some ((not_placed ∷ placed ∷ []) ∷ []))
unfolding digits
draws_in_showpage = refl

-- a dictionary with a showpage of its own, which a page leaves on the stack: it hides the first sheet's showpage, and the
-- first page is printed with the second
leaves_a_dictionary : imposed (codes "/d 1 dict def d /showpage {} put") ((stroke ++ codes " d begin") ∷ stroke ∷ [])
    ≡ Ok (Some ((placed ∷ placed ∷ []) ∷ []))
unfolding digits
leaves_a_dictionary = refl
