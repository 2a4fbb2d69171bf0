-- Given an output, a machine prints what the document's own pages print.
use Rattle.std.specs.Prelude.{Option, Ok}
use Rattle.std.proofs.Common.{◌≡◌, ℕ, ◌≤◌, true, false, List, [], length}
use Rattle.rules.specs.Parts.{NestedUnit, preamble, bytes_of}
use Rattle.rules.specs.Filters.{trailer_text}
use Rattle.rules.specs.Run.{document_of}
use Rattle.rules.specs.Output.{Border}
use Rattle.rules.specs.Made.{MadeSheet}
use Rattle.rules.specs.Dress.{Dress, undressed}
use Rattle.rules.specs.MadeOutput.{dressed_preamble, made_output}
use Rattle.pictures.specs.Objects.{Token}
use Rattle.pictures.specs.Machine.{State, Painting, Runs}
use Rattle.pictures.specs.Scanner.{tokens}
use Rattle.pictures.specs.Documents.{started, page_frame, sheet_pictures, pages_past_all, FirstHas, OnSheetsFrom, all_sheets}
use Rattle.pictures.specs.Kept.{comments_apart_with}
use Rattle.pictures.specs.Unaware.{PagePrints, SheetsShowThePages}
use Rattle.pictures.specs.Imposed.{IsQuiet, MadeSheetsShowThePages}
use Rattle.pictures.proofs.Runs.{AreRuns, free_are_runs}
use Rattle.pictures.proofs.Sheets.{Prints, still, ground_prints}
use Rattle.pictures.proofs.Comments.{comments_read}
use Rattle.pictures.proofs.Output.{Bodies, RunsOn, on_sheets, runs_alike, free_runs_on, body_places, bodies_are_shown, still_bodies_are_shown, undressed_is_quiet, by_specification}
use Rattle.pictures.proofs.Kept.{dressed_runs_alike}
use Rattle.pictures.proofs.Own.{page_paints}

-- the preamble with added comments runs like the document's
begins_alike : (R : State → State → Type 0) (start : List Token → State) (dress : Dress) (sheets : ℕ) (text : List ℕ) (us : List NestedUnit) (s : State) → IsQuiet dress → document_of text ≡ Ok us → comments_apart_with dress.header us ≡ true
    → RunsOn R start (bytes_of (preamble us)) s → RunsOn R start (dressed_preamble sheets dress.header us) s
begins_alike R start dress sheets text us s q d apart run =
    runs_alike R start (bytes_of (preamble us)) (dressed_preamble sheets dress.header us) s (dressed_runs_alike sheets dress.header text us (comments_read dress.header q.header) d apart run.0) run

-- any machine whose runs are these prints a document's sheets
pub document_is_shown : (R : State → State → Type 0) → AreRuns R → (start : List Token → State) (at : ℕ → State) (least : ℕ) (border : Option Border) (dress : Dress) (all : List MadeSheet) (text : List ℕ) (us : List NestedUnit) (picture : ℕ → List Painting)
    → IsQuiet dress → document_of text ≡ Ok us → comments_apart_with dress.header us ≡ true → RunsOn R start (bytes_of (preamble us)) (at 0) → (at 0).painted ≡ []
    → ((k : ℕ) → least ≤ k → Prints R (at k)) → FirstHas least all → OnSheetsFrom (Bodies R at border us picture) 0 all
    → R (start (tokens (made_output border dress all us)))
    (record (at (pages_past_all 0 all)) { left = tokens (trailer_text us); painted = []; sheets = sheet_pictures border us picture (at 0) all })
document_is_shown R m start at least border dress all text us picture q d apart run =
    bodies_are_shown R m start at least border dress all us picture q (begins_alike R start dress (length all) text us (at 0) q d apart run)

pub still_document_is_shown : (R : State → State → Type 0) → AreRuns R → (start : List Token → State) (border : Option Border) (dress : Dress) (all : List MadeSheet) (text : List ℕ) (us : List NestedUnit) (picture : ℕ → List Painting) (s : State)
    → IsQuiet dress → document_of text ≡ Ok us → comments_apart_with dress.header us ≡ true → RunsOn R start (bytes_of (preamble us)) s → s.painted ≡ []
    → Prints R s → OnSheetsFrom (Bodies R (still s) border us picture) 0 all
    → R (start (tokens (made_output border dress all us))) (record s { left = tokens (trailer_text us); sheets = sheet_pictures border us picture s all })
still_document_is_shown R m start border dress all text us picture s q d apart run =
    still_bodies_are_shown R m start border dress all us picture s q (begins_alike R start dress (length all) text us s q d apart run)

pub made_sheets_show_the_pages : MadeSheetsShowThePages
made_sheets_show_the_pages border dress all text us picture s q d apart (complete, run, left, painted, printed, ground) plain h =
    still_document_is_shown (Runs false) free_are_runs started border dress all text us picture s q d apart (free_runs_on (bytes_of (preamble us)) s complete run left) painted
    (ground_prints (Runs false) free_are_runs s ground)
    (on_sheets (λ k paper p. PagePrints us s p (picture p)) (Bodies (Runs false) (still s) border us picture)
    (λ k paper p x. body_places (page_frame border paper) us s p k (picture p) ground (page_paints us s p (picture p) plain x)) 0 all h)

pub sheets_show_the_pages : SheetsShowThePages
sheets_show_the_pages frame sides spec text us picture s d apart run plain h =
    let all = all_sheets frame sides spec us in
    by_specification (Runs false) started frame sides spec us (record s { left = tokens (trailer_text us); sheets = sheet_pictures frame.border us picture s all })
    (made_sheets_show_the_pages frame.border undressed all text us picture s undressed_is_quiet d apart run plain h)
