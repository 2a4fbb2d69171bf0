-- Pages and sheets in a machine with further operators: the definitions of crates/pictures, with this machine's runs.
use Rattle.std.specs.Prelude.{◌≡◌, List, [], ◌++◌, false, true}
use Rattle.pictures.specs.Objects.{Token}
use Rattle.pictures.specs.Machine.{State, Painting}
use Rattle.pictures.specs.Placing.{Around, state_at}
use Rattle.pictures.specs.Sheets.{Shown, AllOf, IsGround, PaintsBy, run_of, page_picture, placed_tokens}
use Rattle.pictures.specs.Pictures.{printed_sheets, sheets_tokens}
use Rattle.open_pictures.specs.Machine.{Further, open_step, OpenRuns}
use Rattle.open_pictures.specs.Blindness.{IsPlaceless}

-- what a held machine does in a state, a free one does in the state placed, with any further operators that are
-- placeless: a law
abbrev pub OpenPlacingCommutes : Type 0
OpenPlacingCommutes =
    (x : Further) (a : Around) (s t : State) → IsPlaceless x → OpenRuns x true s t
    → OpenRuns x false (state_at a s) (state_at a t)

-- from a state after the preamble the page paints this by itself
abbrev pub OpenPaintsAlone : Further → State → List Token → List Painting → Type 0
OpenPaintsAlone x s body picture = PaintsBy (open_step x true) s body picture

-- a placed page paints on the sheet what it paints by itself, placed, after its border; and all else is as it was: a law
abbrev pub OpenPageIsPlaced : Type 0
OpenPageIsPlaced =
    (x : Further) (s : State) (y : Shown) (rest : List Token) → IsPlaceless x → IsGround s
    → OpenPaintsAlone x s y.placed.body y.picture
    → OpenRuns x false (run_of (placed_tokens y.placed ++ rest) s)
    (record s { left = rest; painted = page_picture s.graphics y ++ s.painted })

-- each sheet is printed with the pictures of its pages, placed, and the machine is where it was: a law
abbrev pub OpenSheetsArePrinted : Type 0
OpenSheetsArePrinted =
    (x : Further) (s : State) (ys : List (List Shown)) (rest : List Token) → IsPlaceless x → IsGround s → s.painted ≡ []
    → AllOf (AllOf (λ (y : Shown). OpenPaintsAlone x s y.placed.body y.picture)) ys
    → OpenRuns x false (run_of (sheets_tokens ys ++ rest) s)
    (record s { left = rest; sheets = printed_sheets s.graphics ys s.sheets })
