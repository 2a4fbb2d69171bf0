-- What a machine prints of an output of a guarded document.
use Rattle.std.specs.Prelude.{Option, Ok, slice_index_or}
use Rattle.std.proofs.Common.{◌≡◌, ℕ, suc, ◌≤◌, ap, sym, subst, false, true, List, [], length}
use Rattle.rules.specs.Specification.{Spec}
use Rattle.rules.specs.Papers.{Paper}
use Rattle.rules.specs.Parts.{NestedUnit, pages, preamble, bytes_of}
use Rattle.rules.specs.Run.{document_of, most_input_bytes}
use Rattle.rules.specs.Output.{Border, Frame, output}
use Rattle.rules.specs.Signatures.{sheets_in}
use Rattle.rules.specs.Made.{MadeSheet, made_of}
use Rattle.rules.specs.Dress.{Dress, undressed}
use Rattle.rules.specs.MadeOutput.{made_output}
use Rattle.dsc.specs.Units.{units_of}
use Rattle.guard.specs.Guard.{guarded}
use Rattle.guard.proofs.TheGuard.{guard_stays}
use Rattle.pictures.specs.Kept.{page_comments_apart, comments_apart_with}
use Rattle.pictures.specs.Machine.{State, Painting, Runs}
use Rattle.pictures.specs.Scanner.{tokens, EndsBetweenTokens}
use Rattle.pictures.specs.Sheets.{Shown}
use Rattle.pictures.specs.Documents.{started, numbers_of, page_frame, PreambleRuns, FirstHas, OnSheetsFrom, document_page, body_of_page, all_sheets}
use Rattle.pictures.specs.Imposed.{IsQuiet, MadeIsPrinted}
use Rattle.pictures.proofs.Runs.{free_are_runs}
use Rattle.pictures.proofs.Kept.{kept_runs_alike}
use Rattle.pictures.proofs.Sheets.{Places, Prints, still}
use Rattle.pictures.proofs.Output.{BodyPlaces, Bodies, free_runs_on, on_sheets, undressed_is_quiet, by_specification}
use Rattle.pictures.proofs.Imposed.{document_is_shown, still_document_is_shown}
use Rattle.pictures.specs.Shelter.{outline_tokens, PaintsSheltered}
use Rattle.pictures.specs.Pages.{IsGuarded, outline_of, GuardedPagePaints, PaintsFrom, state_after_sheets, GuardedSheetsShowThePages, GuardedDocumentIsShown}
use Rattle.pictures.proofs.GuardedPlaced.{takes_pages}
use Rattle.pictures.proofs.GuardedSheets.{page_places, guarded_prints}

-- if pages that paint a picture by themselves are placed, so is what is kept of a page
pub body_places : (R : State → State → Type 0) (at : ℕ → State) (frame : Frame) (us : List NestedUnit) (k p : ℕ) (picture : List Painting)
    → ((x : Shown) → PaintsSheltered [] (at (suc k)) (outline_tokens x.placed.numbers) x.placed.body x.picture → Places R at (at 0).graphics k x)
    → GuardedPagePaints frame us (at (suc k)) p picture → BodyPlaces R at frame us k p picture
body_places R at frame us k p picture places (complete, apart, h) =
    let alike = kept_runs_alike (document_page us p) apart complete in (
      alike.1,
      λ item. places (record { placed = record { numbers = numbers_of frame item; body = tokens (body_of_page us p) }; picture = picture })
          (subst (λ ts. PaintsSheltered [] (at (suc k)) (outline_of frame) ts picture) (sym alike.0) h),
    )

-- the pages of a document are those without the guard
pub page_again : (frame : Frame) (us again : List NestedUnit) (s : State) (p : ℕ) (picture : List Painting) → pages again ≡ pages us → GuardedPagePaints frame us s p picture → GuardedPagePaints frame again s p picture
page_again frame us again s p picture same h =
    subst (λ page. EndsBetweenTokens page × (page_comments_apart page ≡ true) × PaintsSheltered [] s (outline_of frame) (tokens page) picture) (ap (λ ps. slice_index_or ps p []) (sym same)) h

-- What impose makes of a document, with the guard put in, if it is in these states after so many pages.
pub states_are_shown : (at : ℕ → State) (least : ℕ) (sheet : Option Paper) (border : Option Border) (dress : Dress) (all : List MadeSheet) (text : List ℕ) (us : List NestedUnit) (picture : ℕ → List Painting)
    → ((k : ℕ) (x : Shown) → PaintsSheltered [] (at (suc k)) (outline_tokens x.placed.numbers) x.placed.body x.picture → Places (Runs false) at (at 0).graphics k x)
    → ((k : ℕ) → least ≤ k → Prints (Runs false) (at k))
    → IsQuiet dress → document_of text ≡ Ok us → length (guarded sheet text) ≤ most_input_bytes → comments_apart_with dress.header (units_of (guarded sheet text)) ≡ true
    → EndsBetweenTokens (bytes_of (preamble (units_of (guarded sheet text)))) → Runs false (started (tokens (bytes_of (preamble (units_of (guarded sheet text)))))) (at 0) → (at 0).left ≡ [] → (at 0).painted ≡ []
    → FirstHas least all → OnSheetsFrom (PaintsFrom border us picture at) 0 all
    → Runs false (started (tokens (made_output border dress all (units_of (guarded sheet text))))) (state_after_sheets at border (units_of (guarded sheet text)) picture all)
states_are_shown at least sheet border dress all text us picture places prints quiet d few apart complete run left painted has h =
    let again : List NestedUnit = units_of (guarded sheet text) in
    let stays = guard_stays sheet text us d few in
    document_is_shown (Runs false) free_are_runs started at least border dress all (guarded sheet text) again picture quiet stays.0 apart (free_runs_on (bytes_of (preamble again)) (at 0) complete run left) painted prints has
    (on_sheets (PaintsFrom border us picture at) (Bodies (Runs false) at border again picture)
    (λ k own p x. body_places (Runs false) at (page_frame border own) again k p (picture p) (places k) (page_again (page_frame border own) us again (at (suc k)) p (picture p) stays.1.same_pages x)) 0 all h)

-- and so by a specification
pub by_specification_shown : (at : ℕ → State) (frame : Frame) (sides : Option ℕ) (spec : Spec) (us again : List NestedUnit) (picture : ℕ → List Painting) → pages again ≡ pages us
    → Runs false (started (tokens (made_output frame.border undressed (all_sheets frame sides spec us) again))) (state_after_sheets at frame.border again picture (all_sheets frame sides spec us))
    → Runs false (started (tokens (output frame sides spec again))) (state_after_sheets at frame.border again picture (all_sheets frame sides spec us))
by_specification_shown at frame sides spec us again picture same h =
    let all : List MadeSheet = all_sheets frame sides spec us in
    let alike : all ≡ all_sheets frame sides spec again = ap (λ ps. made_of frame.paper (sheets_in sides spec (length ps))) (sym same) in
    by_specification (Runs false) started frame sides spec again (state_after_sheets at frame.border again picture all)
    (subst (λ sheets. Runs false (started (tokens (made_output frame.border undressed sheets again))) (state_after_sheets at frame.border again picture all)) alike h)

-- an accepted document in whose preamble the guard has run
pub guarded_is_shown : (border : Option Border) (dress : Dress) (all : List MadeSheet) (text : List ℕ) (us : List NestedUnit) (picture : ℕ → List Painting) (s : State)
    → IsQuiet dress → document_of text ≡ Ok us → comments_apart_with dress.header us ≡ true → PreambleRuns IsGuarded (bytes_of (preamble us)) s
    → OnSheetsFrom (Bodies (Runs false) (still s) border us picture) 0 all → MadeIsPrinted border dress all us picture s
guarded_is_shown border dress all text us picture s q d apart (complete, run, left, painted, printed, g) bodies =
    still_document_is_shown (Runs false) free_are_runs started border dress all text us picture s q d apart (free_runs_on (bytes_of (preamble us)) s complete run left) painted
    (guarded_prints (Runs false) free_are_runs s g) bodies

pub guarded_bodies : (border : Option Border) (us : List NestedUnit) (picture : ℕ → List Painting) (s : State) → IsGuarded s → (all : List MadeSheet)
    → OnSheetsFrom (λ k own p. GuardedPagePaints (page_frame border own) us s p (picture p)) 0 all → OnSheetsFrom (Bodies (Runs false) (still s) border us picture) 0 all
guarded_bodies border us picture s g all h =
    on_sheets (λ k own p. GuardedPagePaints (page_frame border own) us s p (picture p)) (Bodies (Runs false) (still s) border us picture)
    (λ k own p x. body_places (Runs false) (still s) (page_frame border own) us k p (picture p) (λ y i. page_places [] s y (takes_pages s g) i) x) 0 all h

pub guarded_sheets_show_the_pages : GuardedSheetsShowThePages
guarded_sheets_show_the_pages frame sides spec text us picture s d apart run h =
    let all : List MadeSheet = all_sheets frame sides spec us in
    by_specification (Runs false) started frame sides spec us _
    (guarded_is_shown frame.border undressed all text us picture s undressed_is_quiet d apart run (guarded_bodies frame.border us picture s run.5 all h))

-- with the guard put in
pub guarded_again : (border : Option Border) (us again : List NestedUnit) (picture : ℕ → List Painting) (s : State) (all : List MadeSheet) → pages again ≡ pages us
    → OnSheetsFrom (λ k own p. GuardedPagePaints (page_frame border own) us s p (picture p)) 0 all → OnSheetsFrom (λ k own p. GuardedPagePaints (page_frame border own) again s p (picture p)) 0 all
guarded_again border us again picture s all same h =
    on_sheets (λ k own p. GuardedPagePaints (page_frame border own) us s p (picture p)) (λ k own p. GuardedPagePaints (page_frame border own) again s p (picture p))
    (λ k own p x. page_again (page_frame border own) us again s p (picture p) same x) 0 all h

pub guarded_document_is_shown : GuardedDocumentIsShown
guarded_document_is_shown sheet frame sides spec text us picture s d few apart run h =
    let again : List NestedUnit = units_of (guarded sheet text) in
    let stays = guard_stays sheet text us d few in
    let same : all_sheets frame sides spec us ≡ all_sheets frame sides spec again = ap (λ ps. made_of frame.paper (sheets_in sides spec (length ps))) (sym stays.1.same_pages) in
    guarded_sheets_show_the_pages frame sides spec (guarded sheet text) again picture s stays.0 apart run
    (subst (λ all. OnSheetsFrom (λ k own p. GuardedPagePaints (page_frame frame.border own) again s p (picture p)) 0 all) same
    (guarded_again frame.border us again picture s (all_sheets frame sides spec us) stays.1.same_pages h))
