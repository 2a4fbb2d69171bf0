-- Pages that don't end with the one showpage that prints them, and pages that look up its meaning.
use Rattle.std.proofs.Common.{◌≡◌, [], ◌∷◌, ◌++◌, refl, Some}
use Rattle.std.specs.Prelude.{codes, Ok}
use Rattle.std.specs.Fmt.{digits}
use Rattle.pictures.proofs.Examples.Premises.{own, imposed, stroke, placed, not_placed}

-- a page that prints two sheets by itself: imposed, they are on top of each other
prints_two : own [] ((stroke ++ codes " showpage " ++ stroke) ∷ []) ≡ Some ((not_placed ∷ []) ∷ (not_placed ∷ []) ∷ [])
prints_two = refl

two_on_one : imposed [] ((stroke ++ codes " showpage " ++ stroke) ∷ []) ≡ Ok (Some ((placed ∷ placed ∷ []) ∷ []))
unfolding digits
two_on_one = refl

-- a page that redefines showpage prints nothing by itself, but its sheet is printed
prints_none : own [] ((codes "/showpage {} def " ++ stroke) ∷ []) ≡ Some []
prints_none = refl

none_on_one : imposed [] ((codes "/showpage {} def " ++ stroke) ∷ []) ≡ Ok (Some ((placed ∷ []) ∷ []))
unfolding digits
none_on_one = refl

-- a page that looks up showpage in userdict: by itself it isn't there, on a sheet it is
asks : own [] ((codes "userdict /showpage known {" ++ stroke ++ codes "} if") ∷ []) ≡ Some ([] ∷ [])
asks = refl

asked : imposed [] ((codes "userdict /showpage known {" ++ stroke ++ codes "} if") ∷ [])
    ≡ Ok (Some ((placed ∷ []) ∷ []))
unfolding digits
asked = refl

-- the same holds for the name of the save
asks_for_the_save : own [] ((codes "userdict /ImposeSave known {" ++ stroke ++ codes "} if") ∷ []) ≡ Some ([] ∷ [])
asks_for_the_save = refl

asked_for_the_save : imposed [] ((codes "userdict /ImposeSave known {" ++ stroke ++ codes "} if") ∷ [])
    ≡ Ok (Some ((placed ∷ []) ∷ []))
unfolding digits
asked_for_the_save = refl
