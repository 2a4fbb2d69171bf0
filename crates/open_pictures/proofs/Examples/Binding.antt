-- A further operator that is there by its name, in the dictionaries that the machine begins with: `bind` binds it, and `where`
-- finds it. Without an entry it is found when it is run, and `bind` leaves the name as it is.
use Rattle.std.proofs.Common.{◌≡◌, ℕ, List, [], ◌∷◌, refl, Some, None, false}
use Rattle.std.specs.Prelude.{codes, Option, bytes_eq, if◌then◌else◌, option_map}
use Rattle.pictures.specs.Objects.{Object, Operator, Looks, CopiesPage}
use Rattle.pictures.specs.Operators.{Work}
use Rattle.pictures.specs.Scanner.{tokens}
use Rattle.pictures.specs.Sheets.{in_userdict}
use Rattle.pictures.proofs.Examples.TwoUp.{number, end_by}
use Rattle.open_pictures.specs.Machine.{Further, open_step}
use Rattle.open_pictures.specs.Operators.{Answer, by_table, only_names, answering}
use Rattle.open_pictures.specs.Documents.{begun_machine, plain_work}

-- `languagelevel` answers 3
abbrev three : Answer
three os settings = Some (number (codes "3") ∷ [])

abbrev x : Further
x = by_table (only_names (λ name. if bytes_eq name (codes "languagelevel") then Some (answering name 0 None three) else None))

abbrev there : Work
there = record plain_work { entries = in_userdict (codes "languagelevel") (Operator (codes "languagelevel") (Looks CopiesPage)) ∷ [] }

abbrev left_by : Work → List ℕ → Option (List Object)
left_by w text = option_map (λ s. s.work.operands) (end_by (open_step x false) 1000 (begun_machine w (tokens text)))

called : left_by plain_work (codes "languagelevel") ≡ Some (number (codes "3") ∷ [])
called = refl

called_there : left_by there (codes "languagelevel") ≡ Some (number (codes "3") ∷ [])
called_there = refl

bound : left_by there (codes "/x {languagelevel} bind def /languagelevel 1 def x") ≡ Some (number (codes "3") ∷ [])
bound = refl

not_bound : left_by plain_work (codes "/x {languagelevel} bind def /languagelevel 1 def x") ≡ Some (number (codes "1") ∷ [])
not_bound = refl

found : left_by there (codes "/languagelevel where {pop languagelevel} {0} ifelse") ≡ Some (number (codes "3") ∷ [])
found = refl

-- without an entry the machine stops: it lacks the name, and can't say that there is none
not_found : left_by plain_work (codes "/languagelevel where {pop languagelevel} {0} ifelse") ≡ None
not_found = refl
