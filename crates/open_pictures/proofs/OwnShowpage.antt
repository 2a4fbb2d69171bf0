-- Documents with a showpage of their own, in a machine with further operators.
use Rattle.std.specs.Prelude.{Option, Ok}
use Rattle.std.proofs.Common.{◌≡◌, ℕ, suc, ◌≤◌, subst, true, false, List, [], ◌++◌, length}
use Rattle.rules.specs.Papers.{Paper}
use Rattle.rules.specs.Parts.{NestedUnit, preamble, bytes_of}
use Rattle.rules.specs.Run.{document_of, most_input_bytes}
use Rattle.rules.specs.Output.{Border}
use Rattle.rules.specs.Made.{MadeSheet}
use Rattle.rules.specs.Dress.{Dress, undressed}
use Rattle.rules.specs.MadeOutput.{made_output}
use Rattle.dsc.specs.Units.{units_of}
use Rattle.guard.specs.Guard.{guarded}
use Rattle.guard.proofs.TheGuard.{guard_stays}
use Rattle.papers.specs.Reported.{reporting}
use Rattle.pictures.specs.Objects.{Token}
use Rattle.pictures.specs.Operators.{Work}
use Rattle.pictures.specs.Machine.{State, Painting}
use Rattle.pictures.specs.Scanner.{tokens}
use Rattle.pictures.specs.Kept.{comments_apart_with}
use Rattle.pictures.specs.Sheets.{Numbers, Shown, closing_tokens, placed_tokens, page_picture}
use Rattle.pictures.specs.Documents.{FirstHas, OnSheetsFrom, all_sheets}
use Rattle.pictures.specs.Imposed.{IsQuiet}
use Rattle.pictures.proofs.Sheets.{Places, fresh, still_leaves}
use Rattle.pictures.proofs.Output.{undressed_is_quiet}
use Rattle.pictures.specs.Shelter.{outline_tokens, sheltered}
use Rattle.pictures.specs.Lines.{with_asking}
use Rattle.pictures.specs.Pages.{around, state_after_sheets}
use Rattle.pictures.specs.OwnShowpage.{HasItsOwn, asking}
use Rattle.pictures.proofs.GuardedImposed.{reporting_is_quiet}
use Rattle.pictures.proofs.OwnShowpage.{own_on_paper, own_page_runs, own_anyway, own_after, same_graphics, own_prints}
use Rattle.open_pictures.specs.Machine.{Further, OpenRuns}
use Rattle.open_pictures.specs.Blindness.{Extends, RunsPreambles}
use Rattle.open_pictures.specs.Documents.{begun_machine, OpenPreambleRuns}
use Rattle.open_pictures.proofs.Runs.{open_are_runs}
use Rattle.open_pictures.proofs.More.{extended_runs}
use Rattle.open_pictures.specs.Shelter.{IsPlacelessThere, OpenPaintsSheltered}
use Rattle.open_pictures.specs.OwnShowpage.{OpenPaintsFrom, OpenOwnPageIsPlaced, OpenOwnShowpageIsShown, OpenOwnMadeDocumentIsShown}
use Rattle.open_pictures.proofs.States.{states_are_shown, by_specification_shown}
use Rattle.open_pictures.proofs.Sheltering.{open_shelter_commutes}

pub open_own_page_is_placed : OpenOwnPageIsPlaced
open_own_page_is_placed x d s y rest blind h p =
    let t : State = with_asking d s in
    let n : Numbers = y.placed.numbers in
    let more : List Token = closing_tokens ++ rest in
    own_page_runs (OpenRuns x false) (open_are_runs x) d s p.end y rest h
    (open_shelter_commutes x n [] (around more n t) (sheltered [] t (outline_tokens n) y.placed.body) p.end blind (own_on_paper d s n more h) p.run) p.leaves p.picture_is

-- with more operators too, whatever is painted and printed before
own_places : (x z : Further) (d : ℕ) (s : State) (k : ℕ) (y : Shown) → IsPlacelessThere x → Extends x z → HasItsOwn d s
    → OpenPaintsSheltered x [] (asking d s (suc k)) (outline_tokens y.placed.numbers) y.placed.body y.picture → Places (OpenRuns z false) (asking d s) s.graphics k y
own_places x z d s k y blind q h p =
    let t : State = asking d s k in
    subst (λ g. Places (OpenRuns z false) (asking d s) g k y) (same_graphics d s k)
    (λ ps sheets rest. extended_runs x z (fresh t (placed_tokens y.placed ++ rest) ps sheets) (fresh (with_asking d t) rest (page_picture t.graphics y ++ ps) sheets) q
    (open_own_page_is_placed x d (record t { painted = ps; sheets = sheets }) y rest blind (own_anyway d t ps sheets (own_after d s k h))
    (record { end = p.end; run = p.run; leaves = still_leaves (with_asking d t) p.end ps sheets p.leaves; picture_is = p.picture_is })))

own_is_shown : (x z : Further) (w : Work) (sheet : Option Paper) (border : Option Border) (dress : Dress) (all : List MadeSheet) (text : List ℕ) (us : List NestedUnit) (picture : ℕ → List Painting) (d : ℕ) (s : State)
    → IsPlacelessThere x → RunsPreambles x z → IsQuiet dress → document_of text ≡ Ok us → length (guarded sheet text) ≤ most_input_bytes → comments_apart_with dress.header (units_of (guarded sheet text)) ≡ true
    → OpenPreambleRuns z w (HasItsOwn d) (bytes_of (preamble (units_of (guarded sheet text)))) s → FirstHas 1 all → OnSheetsFrom (OpenPaintsFrom x border us picture (asking d s)) 0 all
    → OpenRuns z false (begun_machine w (tokens (made_output border dress all (units_of (guarded sheet text))))) (state_after_sheets (asking d s) border (units_of (guarded sheet text)) picture all)
own_is_shown x z w sheet border dress all text us picture d s blind runs quiet doc few apart (complete, run, left, painted, printed, own) has h =
    states_are_shown x z w (asking d s) 1 sheet border dress all text us picture (λ k y j. own_places x z d s k y blind runs.extends own j) (own_prints (OpenRuns z false) (open_are_runs z) d s own)
    runs quiet doc few apart complete run left painted has h

pub open_own_made_document_is_shown : OpenOwnMadeDocumentIsShown
open_own_made_document_is_shown x z w sheet border all text us picture d s blind runs on doc few apart run has h =
    own_is_shown x z w sheet border (reporting all) all text us picture d s blind runs (reporting_is_quiet all on) doc few apart run has h

pub open_own_showpage_is_shown : OpenOwnShowpageIsShown
open_own_showpage_is_shown x z w sheet frame sides spec text us picture d s blind runs doc few apart run has h =
    by_specification_shown z w (asking d s) frame sides spec us (units_of (guarded sheet text)) picture (guard_stays sheet text us doc few).1.same_pages
    (own_is_shown x z w sheet frame.border undressed (all_sheets frame sides spec us) text us picture d s blind runs undressed_is_quiet doc few apart run has h)
