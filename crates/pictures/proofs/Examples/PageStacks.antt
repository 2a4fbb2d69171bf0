-- Pages that leave something on the stacks or under the sheet's names, and the consequences.
use Rattle.std.proofs.Common.{◌≡◌, ℕ, List, [], ◌∷◌, ◌++◌, refl, Some, None, false, map}
use Rattle.std.specs.Prelude.{codes, Ok, option_map}
use Rattle.std.specs.Fmt.{digits}
use Rattle.rules.specs.Specification.{Spec, settled}
use Rattle.rules.specs.Units.{◌>>=◌}
use Rattle.rules.proofs.Examples.Written.{item, written}
use Rattle.pictures.specs.Objects.{Call}
use Rattle.pictures.specs.Machine.{Painting}
use Rattle.pictures.proofs.Examples.ByHand.{says}
use Rattle.pictures.proofs.Examples.Premises.{own, own_sheets, imposed, sheets_by, stroke, placed, not_placed}

-- An operand. The second page takes the one that the first page left, or the setup's if the first page hasn't run.

abbrev one_operand : List ℕ
one_operand = codes "3"

abbrev leaves_and_takes : List (List ℕ)
leaves_and_takes = (stroke ++ codes " 5") ∷ (codes "setlinewidth " ++ stroke) ∷ []

-- `2:1,0`
abbrev exchanged : Spec
exchanged = settled (written 2 ((item false 1 [] ∷ []) ∷ (item false 0 [] ∷ []) ∷ []))

abbrev settings_of : List (List Painting) → List (List (List Call))
settings_of sheets = map (λ sheet. map (λ p. p.graphics.settings) sheet) sheets

-- here the latest sheet comes first
takes_five : option_map settings_of (own_sheets one_operand leaves_and_takes)
    ≡ Some (((says (codes "5 setlinewidth") ∷ []) ∷ []) ∷ ([] ∷ []) ∷ [])
takes_five = refl

takes_three : (sheets_by exchanged one_operand leaves_and_takes >>= λ sheets. Ok (option_map settings_of sheets))
    ≡ Ok (Some (([] ∷ []) ∷ ((says (codes "3 setlinewidth") ∷ []) ∷ []) ∷ []))
unfolding digits
takes_three = refl

-- A dictionary among the operands: nothing newer than a save may be there when it is restored, so the machine
-- stops.

leaves_a_dictionary : own [] ((stroke ++ codes " 1 dict") ∷ []) ≡ Some ((not_placed ∷ []) ∷ [])
leaves_a_dictionary = refl

dictionary_left : imposed [] ((stroke ++ codes " 1 dict") ∷ []) ≡ Ok None
unfolding digits
dictionary_left = refl

-- A dictionary left open.

leaves_one_open : own [] ((codes "1 dict begin " ++ stroke) ∷ []) ≡ Some ((not_placed ∷ []) ∷ [])
leaves_one_open = refl

left_open : imposed [] ((codes "1 dict begin " ++ stroke) ∷ []) ≡ Ok None
unfolding digits
left_open = refl

-- A redefined restore: the page's save isn't restored, showpage still does nothing, and no sheet is printed.

renames_restore : own [] ((codes "/restore {pop} def " ++ stroke) ∷ []) ≡ Some ((not_placed ∷ []) ∷ [])
renames_restore = refl

restore_renamed : imposed [] ((codes "/restore {pop} def " ++ stroke) ∷ []) ≡ Ok (Some [])
unfolding digits
restore_renamed = refl

-- A save that is left does no harm unless it is an operand: the sheet's own is older, and restoring that undoes it
-- too. (BehindShowpage has the law for such a page.)

leaves_a_save : imposed [] ((codes "save pop " ++ stroke) ∷ []) ≡ Ok (Some ((placed ∷ []) ∷ []))
unfolding digits
leaves_a_save = refl
