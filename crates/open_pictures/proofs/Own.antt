-- What a page prints of itself is what it paints by itself, with further operators that are blind; and so sheets show the pages.
use Rattle.std.proofs.Common.{ℕ, sym, subst, true, false, List}
use Rattle.rules.specs.Parts.{NestedUnit}
use Rattle.rules.specs.Output.{Frame}
use Rattle.pictures.specs.Objects.{Token}
use Rattle.pictures.specs.Machine.{State, Painting}
use Rattle.pictures.specs.Scanner.{tokens}
use Rattle.pictures.specs.Unaware.{IsPlainGround}
use Rattle.pictures.specs.Documents.{numbers_of, document_page, body_of_page}
use Rattle.pictures.proofs.Kept.{kept_runs_alike}
use Rattle.pictures.proofs.Output.{BodyPlaces}
use Rattle.pictures.proofs.Sheets.{still}
use Rattle.pictures.proofs.Own.{prints_by, paints_by}
use Rattle.open_pictures.specs.Machine.{Further, open_step, OpenRuns, open_unaware_step}
use Rattle.open_pictures.specs.Blindness.{IsBlind}
use Rattle.open_pictures.specs.Sheets.{OpenPaintsAlone}
use Rattle.open_pictures.specs.Documents.{OpenPrintsItself, OpenPagePrints, OpenOwnPicture}
use Rattle.open_pictures.proofs.Runs.{own_step, own_held}
use Rattle.open_pictures.proofs.Unaware.{open_free, open_goes, open_keeps}
use Rattle.open_pictures.proofs.Sheets.{page_places}

open_paints : (x : Further) (s : State) (body : List Token) (picture : List Painting) → IsBlind x → IsPlainGround s → OpenPrintsItself x s body picture → OpenPaintsAlone x s body picture
open_paints x s body picture blind p q =
    paints_by (open_step x false) (open_step x true) (open_unaware_step x) (λ u v e k. own_held x u v v e k) (open_goes x blind.unaware) s body picture p q

pub open_own_picture : OpenOwnPicture
open_own_picture x s body picture blind p q = (
  prints_by (open_step x false) (open_unaware_step x) (own_step x) (open_free x) (open_keeps x blind.placeless) s body picture q,
  open_paints x s body picture blind p q,
)

-- so what is kept of the page is placed
pub own_body_places : (x : Further) (frame : Frame) (us : List NestedUnit) (s : State) (k p : ℕ) (picture : List Painting) → IsBlind x → IsPlainGround s → OpenPagePrints x us s p picture
    → BodyPlaces (OpenRuns x false) (still s) frame us k p picture
own_body_places x frame us s k p picture blind g (complete, apart, q) =
    let alike = kept_runs_alike (document_page us p) apart complete in
    let paints : OpenPaintsAlone x s (tokens (body_of_page us p)) picture =
    subst (λ ts. OpenPaintsAlone x s ts picture) (sym alike.0) (open_paints x s (tokens (document_page us p)) picture blind g q) in
    (alike.1, λ item. page_places x s (record { placed = record { numbers = numbers_of frame item; body = tokens (body_of_page us p) }; picture = picture }) blind.placeless g.ground paints)
