-- Guarded documents that are in these states after so many pages, in a machine with further operators.
use Rattle.std.specs.Prelude.{Option, Ok}
use Rattle.std.proofs.Common.{◌≡◌, ℕ, suc, ◌≤◌, ap, sym, subst, true, false, List, [], length}
use Rattle.rules.specs.Papers.{Paper}
use Rattle.rules.specs.Specification.{Spec}
use Rattle.rules.specs.Parts.{NestedUnit, pages, preamble, bytes_of}
use Rattle.rules.specs.Run.{document_of, most_input_bytes}
use Rattle.rules.specs.Signatures.{sheets_in}
use Rattle.rules.specs.Output.{Border, Frame, output}
use Rattle.rules.specs.Made.{MadeSheet, made_of}
use Rattle.rules.specs.Dress.{Dress, undressed}
use Rattle.rules.specs.MadeOutput.{made_output}
use Rattle.dsc.specs.Units.{units_of}
use Rattle.guard.specs.Guard.{guarded}
use Rattle.guard.proofs.TheGuard.{guard_stays}
use Rattle.pictures.specs.Operators.{Work}
use Rattle.pictures.specs.Machine.{State, Painting}
use Rattle.pictures.specs.Scanner.{tokens, EndsBetweenTokens}
use Rattle.pictures.specs.Kept.{comments_apart_with}
use Rattle.pictures.specs.Sheets.{Shown}
use Rattle.pictures.specs.Documents.{page_frame, FirstHas, OnSheetsFrom, all_sheets}
use Rattle.pictures.specs.Imposed.{IsQuiet}
use Rattle.pictures.proofs.Sheets.{Places, Prints}
use Rattle.pictures.proofs.Output.{Bodies, on_sheets, by_specification}
use Rattle.pictures.proofs.Imposed.{document_is_shown}
use Rattle.pictures.specs.Shelter.{outline_tokens}
use Rattle.pictures.specs.Pages.{state_after_sheets}
use Rattle.open_pictures.specs.Machine.{Further, OpenRuns}
use Rattle.open_pictures.specs.Blindness.{RunsPreambles}
use Rattle.open_pictures.specs.Documents.{begun_machine}
use Rattle.open_pictures.proofs.Runs.{open_are_runs}
use Rattle.open_pictures.proofs.Output.{open_runs_on}
use Rattle.open_pictures.specs.Shelter.{OpenPaintsSheltered}
use Rattle.open_pictures.specs.OwnShowpage.{OpenPaintsFrom}
use Rattle.open_pictures.proofs.GuardedSheets.{page_again, kept_places}

-- sheets to which comments alone are added
pub states_are_shown : (x z : Further) (w : Work) (at : ℕ → State) (least : ℕ) (sheet : Option Paper) (border : Option Border) (dress : Dress) (all : List MadeSheet) (text : List ℕ) (us : List NestedUnit) (picture : ℕ → List Painting)
    → ((k : ℕ) (y : Shown) → OpenPaintsSheltered x [] (at (suc k)) (outline_tokens y.placed.numbers) y.placed.body y.picture → Places (OpenRuns z false) at (at 0).graphics k y)
    → ((k : ℕ) → least ≤ k → Prints (OpenRuns z false) (at k))
    → RunsPreambles x z → IsQuiet dress → document_of text ≡ Ok us → length (guarded sheet text) ≤ most_input_bytes → comments_apart_with dress.header (units_of (guarded sheet text)) ≡ true
    → EndsBetweenTokens (bytes_of (preamble (units_of (guarded sheet text)))) → OpenRuns z false (begun_machine w (tokens (bytes_of (preamble (units_of (guarded sheet text)))))) (at 0) → (at 0).left ≡ [] → (at 0).painted ≡ []
    → FirstHas least all → OnSheetsFrom (OpenPaintsFrom x border us picture at) 0 all
    → OpenRuns z false (begun_machine w (tokens (made_output border dress all (units_of (guarded sheet text))))) (state_after_sheets at border (units_of (guarded sheet text)) picture all)
states_are_shown x z w at least sheet border dress all text us picture places prints runs quiet doc few apart complete run left painted has h =
    let again : List NestedUnit = units_of (guarded sheet text) in
    let stays = guard_stays sheet text us doc few in
    document_is_shown (OpenRuns z false) (open_are_runs z) (begun_machine w) at least border dress all (guarded sheet text) again picture quiet stays.0 apart
    (open_runs_on z w (bytes_of (preamble again)) (at 0) runs.sees_nothing_after complete run left) painted prints has
    (on_sheets (OpenPaintsFrom x border us picture at) (Bodies (OpenRuns z false) at border again picture)
    (λ k paper p y. kept_places x (OpenRuns z false) at (page_frame border paper) again k p (picture p) (places k)
    (page_again x (page_frame border paper) us again (at (suc k)) p (picture p) stays.1.same_pages y)) 0 all h)

-- and so by a specification
pub by_specification_shown : (z : Further) (w : Work) (at : ℕ → State) (frame : Frame) (sides : Option ℕ) (spec : Spec) (us again : List NestedUnit) (picture : ℕ → List Painting) → pages again ≡ pages us
    → OpenRuns z false (begun_machine w (tokens (made_output frame.border undressed (all_sheets frame sides spec us) again))) (state_after_sheets at frame.border again picture (all_sheets frame sides spec us))
    → OpenRuns z false (begun_machine w (tokens (output frame sides spec again))) (state_after_sheets at frame.border again picture (all_sheets frame sides spec us))
by_specification_shown z w at frame sides spec us again picture same h =
    let all : List MadeSheet = all_sheets frame sides spec us in
    let end : State = state_after_sheets at frame.border again picture all in
    let alike : all ≡ all_sheets frame sides spec again = ap (λ ps. made_of frame.paper (sheets_in sides spec (length ps))) (sym same) in
    by_specification (OpenRuns z false) (begun_machine w) frame sides spec again end
    (subst (λ sheets. OpenRuns z false (begun_machine w (tokens (made_output frame.border undressed sheets again))) end) alike h)
