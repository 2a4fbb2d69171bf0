-- Setups that leave more than names, and the consequences. Sheets and paintings are listed latest first.
use Rattle.std.proofs.Common.{◌≡◌, [], ◌∷◌, ◌++◌, refl, Some, None}
use Rattle.std.specs.Prelude.{codes, Ok}
use Rattle.std.specs.Fmt.{digits}
use Rattle.pictures.proofs.Examples.Premises.{own, imposed, stroke, placed, not_placed}

-- a setup that paints: its painting is on the first sheet, and isn't placed
paints : imposed stroke (stroke ∷ stroke ∷ []) ≡ Ok (Some ((placed ∷ []) ∷ (placed ∷ not_placed ∷ []) ∷ []))
unfolding digits
paints = refl

-- a setup that prints: one more sheet
prints : imposed (codes "showpage") (stroke ∷ []) ≡ Ok (Some ((placed ∷ []) ∷ [] ∷ []))
unfolding digits
prints = refl

-- a setup that pushes a graphics state, which a page restores: the sheet's save comes between them
pushes : own (codes "gsave") ((codes "grestore " ++ stroke) ∷ []) ≡ Some ((not_placed ∷ []) ∷ [])
pushes = refl

pushes_imposed : imposed (codes "gsave") ((codes "grestore " ++ stroke) ∷ []) ≡ Ok (Some ((not_placed ∷ []) ∷ []))
unfolding digits
pushes_imposed = refl

-- a setup that saves, and a page that restores: restoring the setup's save removes the name of the sheet's own
saves : own (codes "/s save def") ((codes "s restore " ++ stroke) ∷ []) ≡ Some ((not_placed ∷ []) ∷ [])
saves = refl

saves_imposed : imposed (codes "/s save def") ((codes "s restore " ++ stroke) ∷ []) ≡ Ok None
unfolding digits
saves_imposed = refl

-- the save may also be an operand
saves_on_the_stack : own (codes "save") ((codes "restore save " ++ stroke) ∷ []) ≡ Some ((not_placed ∷ []) ∷ [])
saves_on_the_stack = refl

saves_on_the_stack_imposed : imposed (codes "save") ((codes "restore save " ++ stroke) ∷ []) ≡ Ok None
unfolding digits
saves_on_the_stack_imposed = refl

-- a setup that defines the name of the save does no harm if no page uses it. Here the laws ask for more than is
-- needed
has_the_name : imposed (codes "/ImposeSave 1 def") (stroke ∷ stroke ∷ [])
    ≡ Ok (Some ((placed ∷ []) ∷ (placed ∷ []) ∷ []))
unfolding digits
has_the_name = refl

-- a setup that leaves a string on the operand stack: it is older than the page's save, but this machine doesn't
-- know that of strings, and stops at `restore`, which the Reference allows
leaves_a_string : own (codes "(left)") (stroke ∷ []) ≡ Some ((not_placed ∷ []) ∷ [])
leaves_a_string = refl

string_left : imposed (codes "(left)") (stroke ∷ []) ≡ Ok None
unfolding digits
string_left = refl

-- a number does no harm
number_left : imposed (codes "7") (stroke ∷ []) ≡ Ok (Some ((placed ∷ []) ∷ []))
unfolding digits
number_left = refl

-- a setup with its own showpage: no sheet is printed, neither of the document nor of its output
hides_showpage : own (codes "/showpage {} def") (stroke ∷ []) ≡ Some []
hides_showpage = refl

showpage_hidden : imposed (codes "/showpage {} def") (stroke ∷ []) ≡ Ok (Some [])
unfolding digits
showpage_hidden = refl
