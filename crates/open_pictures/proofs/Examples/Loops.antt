-- Operators that drop a part of what is left to run, up to a name: `exit`, and one that reads data up to its end. With them
-- the table is blind as before.
use Rattle.std.specs.Prelude.{Option, Some, None, codes, bytes_eq, ◌||◌, option_map}
use Rattle.std.proofs.Common.{◌≡◌, ℕ, Bool, true, false, List, [], ◌∷◌, ◌++◌, refl, ap, subst, true≢false, is_none}
use Rattle.std.specs.Fmt.{digits}
use Rattle.pictures.specs.Objects.{Opens, Closes, Bound, Object, Plain, Procedure}
use Rattle.pictures.specs.Scanner.{tokens}
use Rattle.pictures.proofs.Examples.TwoUp.{number, end_by}
use Rattle.open_pictures.specs.Machine.{open_step}
use Rattle.open_pictures.specs.Blindness.{IsBlind}
use Rattle.open_pictures.specs.Documents.{begun_machine, plain_work}
use Rattle.open_pictures.specs.Operators.{Blind, AsksForNone, by_table}
use Rattle.open_pictures.specs.Stores.{Given, Change, Valued, by_store}
use Rattle.open_pictures.specs.Composites.{run_next}
use Rattle.open_pictures.specs.Values.{values_with}
use Rattle.open_pictures.proofs.Stores.{stores_ask_for_none}
use Rattle.open_pictures.proofs.Values.{values_are_blind}

-- no text can have it as a name
abbrev loop_end : List ℕ
loop_end = 263 ∷ []

-- a turn, and then the procedure again
abbrev looping : List Object → Given → Option Change
looping (Procedure ts ∷ os) given = run_next (ts ++ (Opens ∷ ts) ++ (Closes ∷ Bound loop_end ∷ [])) os given
looping os given = None

abbrev dropping : List ℕ → List Object → Given → Option Change
dropping name os given = Some (record { next = []; past = Some name; operands = os; puts = []; made = given.made; strokes = [] })

-- with a file, which the machine doesn't have: here a number
abbrev reading : List Object → Given → Option Change
reading (Plain t ∷ os) given = dropping (codes "cleartomark") os given
reading os given = None

abbrev loops : Valued
loops given = looping given.operands given

abbrev exits : Valued
exits given = dropping loop_end given.operands given

abbrev reads : Valued
reads given = reading given.operands given

abbrev one_of : (is_loop is_exit is_data : Bool) → Option Blind
one_of true is_exit is_data = Some (by_store loops)
one_of false true is_data = Some (by_store exits)
one_of false false true = Some (by_store reads)
one_of false false false = None

abbrev others : List ℕ → Option Blind
others name = one_of (bytes_eq name (codes "loop") || bytes_eq name loop_end) (bytes_eq name (codes "exit")) (bytes_eq name (codes "eexec"))

some_same : (f g : Blind) → Some f ≡ Some g → f ≡ g
some_same f g e = ap (or_f f) e
  where
    or_f : Blind → Option Blind → Blind
    or_f f None = f
    or_f f (Some g) = g

one_asks : (a b c : Bool) (f : Blind) → one_of a b c ≡ Some f → AsksForNone f
one_asks true b c f e = subst AsksForNone (some_same (by_store loops) f e) (stores_ask_for_none loops)
one_asks false true c f e = subst AsksForNone (some_same (by_store exits) f e) (stores_ask_for_none exits)
one_asks false false true f e = subst AsksForNone (some_same (by_store reads) f e) (stores_ask_for_none reads)
one_asks false false false f e = absurd (true≢false (ap is_none e))

blind : IsBlind (by_table (values_with others))
blind =
    values_are_blind others
    (λ name f e. one_asks (bytes_eq name (codes "loop") || bytes_eq name loop_end) (bytes_eq name (codes "exit")) (bytes_eq name (codes "eexec")) f e)

abbrev left_by : List ℕ → Option (List Object)
left_by text = option_map (λ s. s.work.operands) (end_by (open_step (by_table (values_with others)) false) 1000 (begun_machine plain_work (tokens text)))

counted : left_by (codes "0 {1 add dup 3 eq {exit} if} loop") ≡ Some (number (codes "3") ∷ [])
unfolding digits
counted = refl

-- `exit` leaves the innermost one
nested : left_by (codes "0 {{1 add exit 9} loop 1 add dup 4 eq {exit} if} loop") ≡ Some (number (codes "4") ∷ [])
unfolding digits
nested = refl

not_in_a_loop : left_by (codes "1 exit 2") ≡ None
unfolding digits
not_in_a_loop = refl

skipped : left_by (codes "1 2 eexec f983 ef00 97ec 0000 cleartomark 7") ≡ Some (number (codes "7") ∷ number (codes "1") ∷ [])
unfolding digits
skipped = refl

without_an_end : left_by (codes "1 2 eexec f983 7") ≡ None
unfolding digits
without_an_end = refl
