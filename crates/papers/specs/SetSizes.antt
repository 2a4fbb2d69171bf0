-- The page size that is set when a sheet begins.
use Rattle.std.specs.Prelude.{◌≡◌, ◌⊎◌, ℕ, List, [], ◌∷◌, ◌++◌, Some, slice_get}
use Rattle.rules.specs.Papers.{Paper}
use Rattle.rules.specs.Made.{MadeSheet}
use Rattle.papers.specs.Reported.{setting_line, size_text, reporting}

-- the last of these lines sets the page size to this paper
abbrev pub SetLast : Paper → List (List ℕ) → Type 0
SetLast paper lines = (before : List (List ℕ)) × (lines ≡ before ++ setting_line paper ∷ [])

-- a sheet has no such lines, and this paper's size is printed as its own
abbrev pub StayAsSet : Paper → (lines : List (List ℕ)) → (set : Paper) → Type 0
StayAsSet paper lines set = (lines ≡ []) × (size_text set ≡ size_text paper)

-- If the page size was set before to the paper of any of the sheets, as the guard does, each sheet begins with the size of
-- its own paper: the last of the lines at its start sets it, or there are none, and it is the one that was set (RULES, 15)
abbrev pub SizeIsSet : Type 0
SizeIsSet = (all : List MadeSheet) (s t : ℕ) (sheet other : MadeSheet) → slice_get all s ≡ Some sheet → slice_get all t ≡ Some other
    → SetLast sheet.paper ((reporting all).start s sheet.paper) ⊎ StayAsSet sheet.paper ((reporting all).start s sheet.paper) other.paper
