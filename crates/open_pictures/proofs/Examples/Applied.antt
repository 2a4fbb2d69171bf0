-- The law at a guarded document whose page resets, shows a text by xyshow, which the machine of crates/pictures lacks, and prints
-- by a procedure that was bound: its premises hold, for a machine that has xyshow.
use Rattle.std.proofs.Common.{◌≡◌, ℕ, List, [], ◌∷◌, refl, ap, subst, Bool, true, false, Some, None, arith, true≢false, is_none}
use Rattle.std.specs.Prelude.{codes, Option, bytes_eq, if◌then◌else◌}
use Rattle.std.specs.Fmt.{digits}
use Rattle.rules.specs.Parts.{NestedUnit, preamble, bytes_of}
use Rattle.dsc.specs.Units.{units_of}
use Rattle.guard.specs.Guard.{guarded}
use Rattle.pictures.specs.Objects.{Shows}
use Rattle.pictures.specs.Machine.{State, Painting}
use Rattle.pictures.specs.Scanner.{tokens}
use Rattle.pictures.specs.Documents.{started, document_page, all_sheets, sheet_pictures}
use Rattle.pictures.proofs.Examples.TwoUp.{far}
use Rattle.pictures.proofs.Examples.Premises.{document_with, half, frame, outline, placed}
use Rattle.pictures.proofs.Examples.Applied.{units}
use Rattle.pictures.specs.Shelter.{sheltered}
use Rattle.pictures.specs.Pages.{IsGuarded, outline_of}
use Rattle.pictures.proofs.Examples.GuardedApplied.{paper, behind, guarded_behind}
use Rattle.open_pictures.specs.Machine.{Further}
use Rattle.open_pictures.specs.Operators.{Blind, Stop, AtName, AtOperands, Answer, by_table, only_names, table_entry, answering}
use Rattle.open_pictures.specs.Documents.{plain_work, OpenPreambleRuns, OpenIsPrinted}
use Rattle.open_pictures.proofs.Operators.{tables_are_placeless, names_take_others}
use Rattle.open_pictures.specs.Blindness.{RunsPreambles}
use Rattle.open_pictures.proofs.Runs.{open_runs}
use Rattle.open_pictures.proofs.Nowhere.{placeless_runs_preambles}
use Rattle.open_pictures.specs.Shelter.{IsPlacelessThere, SeesNoMatrices, open_shelter_step}
use Rattle.open_pictures.specs.Pages.{OpenGuardedPagePaints}
use Rattle.open_pictures.proofs.GuardedOperators.{tables_are_placeless_there, answers_see_no_matrices}
use Rattle.open_pictures.proofs.GuardedImposed.{open_guarded_document_is_shown}

abbrev nothing : Answer
nothing os settings = Some []

abbrev xyshow : Blind
xyshow = answering (codes "xyshow") 2 (Some Shows) nothing

abbrev names : List ℕ → Option Blind
names name = if bytes_eq name (codes "xyshow") then Some xyshow else None

abbrev pub x : Further
x = by_table (only_names names)

never : {A : Type 0} (x : A) → None ≡ Some x → ⊥
never x e = true≢false (ap is_none e)

sees_if : (b : Bool) (f : Blind) → (if b then Some xyshow else None) ≡ Some f → SeesNoMatrices f
sees_if false f e = absurd (never f e)
sees_if true f e = subst (λ g. SeesNoMatrices g) (ap blind_of e) (answers_see_no_matrices (codes "xyshow") 2 (Some Shows) nothing)
  where
    blind_of : Option Blind → Blind
    blind_of None = xyshow
    blind_of (Some g) = g

all_see : (stop : Stop) (f : Blind) → table_entry (only_names names) stop ≡ Some f → SeesNoMatrices f
all_see (AtName name) f e = sees_if (bytes_eq name (codes "xyshow")) f e
all_see (AtOperands name kind) f e = absurd (never f e)

pub placeless : IsPlacelessThere x
placeless = tables_are_placeless_there (only_names names) (names_take_others names) all_see

pub runs : RunsPreambles x x
runs = placeless_runs_preambles x (tables_are_placeless (only_names names) (names_take_others names))

abbrev text : List ℕ
text = document_with (codes "/e {showpage} bind def") (codes "initgraphics 9 9 moveto (Two) [6 0 7 0 8 0] xyshow e" ∷ [])

abbrev us : List NestedUnit
us = units text

-- the preamble needs nothing further
preamble_runs : OpenPreambleRuns x plain_work IsGuarded (bytes_of (preamble (units_of (guarded paper text)))) behind
unfolding digits
preamble_runs = (refl, open_runs x (started (tokens (bytes_of (preamble (units_of (guarded paper text)))))) behind (268, refl), refl, refl, refl, guarded_behind)

abbrev end : State
end = far (open_shelter_step x [] (outline_of frame)) 17 (sheltered [] behind (outline_of frame) (tokens (document_page us 0)))

abbrev picture : ℕ → List Painting
picture p = end.painted

page : OpenGuardedPagePaints x frame us behind 0 (picture 0)
unfolding digits
page = (
  refl,
  refl,
  record {
    end = end;
    run = (17, refl);
    leaves = record { nothing_left = refl; operands = refl; dictionaries = refl; saves = refl; save_name = refl; restore_name = refl };
    picture_is = refl;
  },
)

-- so the sheet shows the page
shown : OpenIsPrinted x plain_work frame None half (units_of (guarded paper text)) picture behind
unfolding digits
shown = open_guarded_document_is_shown x x plain_work paper frame None half text us picture behind placeless runs refl (omega arith) refl preamble_runs ((page, tt), tt)

-- one sheet with one painting, in its place
it_is_placed : outline (sheet_pictures None us picture behind (all_sheets frame None half us)) ≡ (placed ∷ []) ∷ []
unfolding digits
it_is_placed = refl
