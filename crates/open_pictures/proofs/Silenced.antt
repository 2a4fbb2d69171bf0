-- Documents that leave userdict's showpage empty, in a machine with further operators.
use Rattle.std.specs.Prelude.{Option, Ok}
use Rattle.std.proofs.Common.{◌≡◌, ℕ, zero, suc, ◌≤◌, true, false, List, [], ◌++◌, length}
use Rattle.rules.specs.Papers.{Paper}
use Rattle.rules.specs.Parts.{NestedUnit, preamble, bytes_of}
use Rattle.rules.specs.Run.{document_of, most_input_bytes}
use Rattle.rules.specs.Output.{Border}
use Rattle.rules.specs.Made.{MadeSheet}
use Rattle.rules.specs.Dress.{Dress, undressed}
use Rattle.rules.specs.MadeOutput.{made_output}
use Rattle.dsc.specs.Units.{units_of}
use Rattle.guard.specs.Guard.{guarded}
use Rattle.guard.proofs.TheGuard.{guard_stays}
use Rattle.papers.specs.Reported.{reporting}
use Rattle.pictures.specs.Objects.{Token}
use Rattle.pictures.specs.Operators.{Work}
use Rattle.pictures.specs.Machine.{State, Painting}
use Rattle.pictures.specs.Scanner.{tokens}
use Rattle.pictures.specs.Kept.{comments_apart_with}
use Rattle.pictures.specs.Sheets.{Numbers, Shown, closing_tokens, placed_tokens, page_picture}
use Rattle.pictures.specs.Documents.{FirstHas, OnSheetsFrom, all_sheets}
use Rattle.pictures.specs.Imposed.{IsQuiet}
use Rattle.pictures.proofs.Sheets.{Places, fresh, still_leaves}
use Rattle.pictures.proofs.Output.{undressed_is_quiet}
use Rattle.pictures.specs.Shelter.{outline_tokens, sheltered}
use Rattle.pictures.specs.Silenced.{IsSilenced, with_showpage, after_pages}
use Rattle.pictures.specs.Pages.{around, state_after_sheets}
use Rattle.pictures.proofs.GuardedImposed.{reporting_is_quiet}
use Rattle.pictures.proofs.GuardedPlaced.{on_paper, takes_pages}
use Rattle.pictures.proofs.Silenced.{silenced_page_runs, silenced_anyway, silenced_prints}
use Rattle.open_pictures.specs.Machine.{Further, OpenRuns}
use Rattle.open_pictures.specs.Blindness.{Extends, RunsPreambles}
use Rattle.open_pictures.specs.Documents.{begun_machine, OpenPreambleRuns}
use Rattle.open_pictures.proofs.Runs.{open_are_runs}
use Rattle.open_pictures.proofs.More.{extended_runs}
use Rattle.open_pictures.specs.Shelter.{IsPlacelessThere, OpenPaintsSheltered}
use Rattle.open_pictures.specs.OwnShowpage.{OpenPaintsFrom}
use Rattle.open_pictures.specs.Silenced.{OpenSilencedPageIsPlaced, OpenSilencedDocumentIsShown, OpenSilencedMadeDocumentIsShown}
use Rattle.open_pictures.proofs.States.{states_are_shown, by_specification_shown}
use Rattle.open_pictures.proofs.GuardedSheets.{page_places}
use Rattle.open_pictures.proofs.Sheltering.{open_shelter_commutes}

pub open_silenced_page_is_placed : OpenSilencedPageIsPlaced
open_silenced_page_is_placed x s y rest blind h p =
    let t : State = with_showpage s in
    let n : Numbers = y.placed.numbers in
    let more : List Token = closing_tokens ++ rest in
    silenced_page_runs (OpenRuns x false) (open_are_runs x) s p.end y rest h
    (open_shelter_commutes x n [] (around more n t) (sheltered [] t (outline_tokens n) y.placed.body) p.end blind (on_paper [] t n more (takes_pages t h.guarded)) p.run) p.leaves p.picture_is

-- with more operators too, whatever is painted and printed before: the first page puts the showpage there, and others find it
silenced_places : (x z : Further) (s : State) (k : ℕ) (y : Shown) → IsPlacelessThere x → Extends x z → IsSilenced s
    → OpenPaintsSheltered x [] (after_pages s (suc k)) (outline_tokens y.placed.numbers) y.placed.body y.picture → Places (OpenRuns z false) (after_pages s) s.graphics k y
silenced_places x z s zero y blind q h p ps sheets rest =
    extended_runs x z (fresh s (placed_tokens y.placed ++ rest) ps sheets) (fresh (with_showpage s) rest (page_picture s.graphics y ++ ps) sheets) q
    (open_silenced_page_is_placed x (record s { painted = ps; sheets = sheets }) y rest blind (silenced_anyway s ps sheets h)
    (record { end = p.end; run = p.run; leaves = still_leaves (with_showpage s) p.end ps sheets p.leaves; picture_is = p.picture_is }))
silenced_places x z s (suc k) y blind q h p ps sheets rest =
    let t : State = with_showpage s in
    extended_runs x z (fresh t (placed_tokens y.placed ++ rest) ps sheets) (fresh t rest (page_picture s.graphics y ++ ps) sheets) q
    (page_places x t y blind (takes_pages t h.guarded) p ps sheets rest)

silenced_is_shown : (x z : Further) (w : Work) (sheet : Option Paper) (border : Option Border) (dress : Dress) (all : List MadeSheet) (text : List ℕ) (us : List NestedUnit) (picture : ℕ → List Painting) (s : State)
    → IsPlacelessThere x → RunsPreambles x z → IsQuiet dress → document_of text ≡ Ok us → length (guarded sheet text) ≤ most_input_bytes → comments_apart_with dress.header (units_of (guarded sheet text)) ≡ true
    → OpenPreambleRuns z w IsSilenced (bytes_of (preamble (units_of (guarded sheet text)))) s → FirstHas 1 all → OnSheetsFrom (OpenPaintsFrom x border us picture (after_pages s)) 0 all
    → OpenRuns z false (begun_machine w (tokens (made_output border dress all (units_of (guarded sheet text))))) (state_after_sheets (after_pages s) border (units_of (guarded sheet text)) picture all)
silenced_is_shown x z w sheet border dress all text us picture s blind runs quiet doc few apart (complete, run, left, painted, printed, silenced) has h =
    states_are_shown x z w (after_pages s) 1 sheet border dress all text us picture (λ k y j. silenced_places x z s k y blind runs.extends silenced j) (silenced_prints (OpenRuns z false) (open_are_runs z) s silenced)
    runs quiet doc few apart complete run left painted has h

pub open_silenced_made_document_is_shown : OpenSilencedMadeDocumentIsShown
open_silenced_made_document_is_shown x z w sheet border all text us picture s blind runs on doc few apart run has h =
    silenced_is_shown x z w sheet border (reporting all) all text us picture s blind runs (reporting_is_quiet all on) doc few apart run has h

pub open_silenced_document_is_shown : OpenSilencedDocumentIsShown
open_silenced_document_is_shown x z w sheet frame sides spec text us picture s blind runs doc few apart run has h =
    by_specification_shown z w (after_pages s) frame sides spec us (units_of (guarded sheet text)) picture (guard_stays sheet text us doc few).1.same_pages
    (silenced_is_shown x z w sheet frame.border undressed (all_sheets frame sides spec us) text us picture s blind runs undressed_is_quiet doc few apart run has h)
