-- Pages of a guarded document are placed, and its sheets are printed, with further operators too.
use Rattle.std.specs.Prelude.{slice_index_or}
use Rattle.std.proofs.Common.{◌≡◌, ℕ, suc, ap, sym, subst, true, false, List, []}
use Rattle.rules.specs.Parts.{NestedUnit, pages}
use Rattle.rules.specs.Output.{Frame}
use Rattle.pictures.specs.Machine.{State, Painting}
use Rattle.pictures.specs.Scanner.{tokens, EndsBetweenTokens}
use Rattle.pictures.specs.Kept.{page_comments_apart}
use Rattle.pictures.specs.Sheets.{Shown}
use Rattle.pictures.specs.Documents.{numbers_of, document_page, body_of_page}
use Rattle.pictures.proofs.Sheets.{Places, Stays, still, still_leaves}
use Rattle.pictures.proofs.Output.{BodyPlaces}
use Rattle.pictures.proofs.Kept.{kept_runs_alike}
use Rattle.pictures.specs.Shelter.{outline_tokens}
use Rattle.pictures.specs.Pages.{IsGuarded, TakesPages, outline_of}
use Rattle.pictures.proofs.GuardedPlaced.{takes_pages}
use Rattle.pictures.proofs.GuardedSheets.{still_takes}
use Rattle.open_pictures.specs.Machine.{Further, OpenRuns}
use Rattle.open_pictures.specs.Shelter.{IsPlacelessThere, OpenPaintsSheltered}
use Rattle.open_pictures.specs.Pages.{OpenGuardedPagePaints}
use Rattle.open_pictures.proofs.GuardedPlaced.{open_guarded_page_is_placed}

pub page_places : (x : Further) (s : State) (y : Shown) → IsPlacelessThere x → TakesPages [] s → OpenPaintsSheltered x [] s (outline_tokens y.placed.numbers) y.placed.body y.picture → Stays (OpenRuns x false) s y
page_places x s y blind g h ps sheets rest =
    open_guarded_page_is_placed x [] (record s { painted = ps; sheets = sheets }) y rest blind (still_takes [] s ps sheets g)
    (record { end = h.end; run = h.run; leaves = still_leaves s h.end ps sheets h.leaves; picture_is = h.picture_is })

-- if pages that paint a picture by themselves are placed, so is what is kept of a page
pub kept_places : (x : Further) (R : State → State → Type 0) (at : ℕ → State) (frame : Frame) (us : List NestedUnit) (k p : ℕ) (picture : List Painting)
    → ((y : Shown) → OpenPaintsSheltered x [] (at (suc k)) (outline_tokens y.placed.numbers) y.placed.body y.picture → Places R at (at 0).graphics k y)
    → OpenGuardedPagePaints x frame us (at (suc k)) p picture → BodyPlaces R at frame us k p picture
kept_places x R at frame us k p picture places (complete, apart, h) =
    let alike = kept_runs_alike (document_page us p) apart complete in (
      alike.1,
      λ item. places (record { placed = record { numbers = numbers_of frame item; body = tokens (body_of_page us p) }; picture = picture })
          (subst (λ ts. OpenPaintsSheltered x [] (at (suc k)) (outline_of frame) ts picture) (sym alike.0) h),
    )

pub body_places : (x : Further) (frame : Frame) (us : List NestedUnit) (s : State) (k p : ℕ) (picture : List Painting) → IsPlacelessThere x → IsGuarded s → OpenGuardedPagePaints x frame us s p picture
    → BodyPlaces (OpenRuns x false) (still s) frame us k p picture
body_places x frame us s k p picture blind g h =
    kept_places x (OpenRuns x false) (still s) frame us k p picture (λ y j. page_places x s y blind (takes_pages s g) j) h

-- the pages of a document are those without the guard
pub page_again : (x : Further) (frame : Frame) (us again : List NestedUnit) (s : State) (p : ℕ) (picture : List Painting) → pages again ≡ pages us → OpenGuardedPagePaints x frame us s p picture → OpenGuardedPagePaints x frame again s p picture
page_again x frame us again s p picture same h =
    subst (λ page. EndsBetweenTokens page × (page_comments_apart page ≡ true) × OpenPaintsSheltered x [] s (outline_of frame) (tokens page) picture) (ap (λ ps. slice_index_or ps p []) (sym same)) h
