-- A text brings a machine with further operators to a state, whatever comes after it; and there more operators place pages as
-- fewer do.
use Rattle.std.proofs.Common.{◌≡◌, ℕ, false, List, [], ◌++◌}
use Rattle.rules.specs.Parts.{NestedUnit}
use Rattle.rules.specs.Output.{Frame}
use Rattle.pictures.specs.Operators.{Work}
use Rattle.pictures.specs.Machine.{State, Painting}
use Rattle.pictures.specs.Scanner.{tokens, EndsBetweenTokens}
use Rattle.pictures.specs.Sheets.{Shown, placed_tokens, page_picture}
use Rattle.pictures.specs.Documents.{numbers_of, body_of_page}
use Rattle.pictures.proofs.Sheets.{fresh, still}
use Rattle.pictures.proofs.Output.{BodyPlaces, RunsOn, runs_on}
use Rattle.open_pictures.specs.Machine.{Further, OpenRuns}
use Rattle.open_pictures.specs.Blindness.{Extends, SeesNothingAfter}
use Rattle.open_pictures.specs.Documents.{begun_machine}
use Rattle.open_pictures.proofs.More.{open_runs_with_more, extended_runs}

pub open_runs_on : (x : Further) (w : Work) (text : List ℕ) (s : State) → SeesNothingAfter x → EndsBetweenTokens text → OpenRuns x false (begun_machine w (tokens text)) s → s.left ≡ []
    → RunsOn (OpenRuns x false) (begun_machine w) text s
open_runs_on x w text s p complete run left = runs_on (OpenRuns x false) (begun_machine w) text s (λ ts more r. open_runs_with_more x more (begun_machine w ts) s p r) complete run left

pub still_body : (x z : Further) (frame : Frame) (us : List NestedUnit) (s : State) (k p : ℕ) (picture : List Painting) → Extends x z → BodyPlaces (OpenRuns x false) (still s) frame us k p picture
    → BodyPlaces (OpenRuns z false) (still s) frame us k p picture
still_body x z frame us s k p picture q (complete, h) = (
  complete,
  λ item ps sheets rest.
      let y : Shown = record { placed = record { numbers = numbers_of frame item; body = tokens (body_of_page us p) }; picture = picture } in
      extended_runs x z (fresh s (placed_tokens y.placed ++ rest) ps sheets) (fresh s rest (page_picture s.graphics y ++ ps) sheets) q (h item ps sheets rest),
)
