-- The calls by which a sheet's pages are found.
use Rattle.std.specs.Prelude.{◌≡◌, ℕ, ◌<◌, ◌≤◌, List, [], ◌∷◌, length, Option, Some, None}
use Rattle.rules.specs.Sheets.{Layout}
use Rattle.gather_table.specs.Table.{slots}
use Rattle.gather_table.specs.History.{Entry, PageAt, after_history}
use Rattle.gather_table.specs.Shared.{SeatView, MadeCall, MakesCalls}
use Rattle.run_steps.specs.declared.imposition.ImposeError.{ImposeError}
use Rattle.run_steps.specs.declared.imposition.ImposeError.TheVariants.{NoMemory, NotShown}

-- the pages of these slots, in slot order
abbrev pub needed : List (Option ℕ) → List ℕ
needed [] = []
needed (None ∷ xs) = needed xs
needed (Some p ∷ xs) = p ∷ needed xs

-- the pages of a sheet, in slot order
abbrev pub pages_of : Layout → ℕ → List ℕ
pages_of layout sheet = needed (slots layout sheet)

-- one look-up for each page, each of which finds an index
abbrev pub look_ups : List ℕ → List ℕ → List Entry
look_ups [] is = []
look_ups (p ∷ ps) [] = []
look_ups (p ∷ ps) (i ∷ is) = PageAt p (Some i) ∷ look_ups ps is

-- the first n of these pages were looked up, in order, each found an index, and nothing else was called
pub record LooksUp (pages : List ℕ) (n : ℕ) (old new : SeatView) : Type 0 where
  pub within : n ≤ length pages
  pub indexes : List ℕ
  pub found : length indexes ≡ n
  pub made : MakesCalls old (look_ups pages indexes) new

-- the first of these pages were looked up, as many as there were until this was answered: if a page isn't shown, one at
-- least
abbrev pub LooksUpUntil : List ℕ → ImposeError → (old new : SeatView) → Type 0
LooksUpUntil pages NoMemory old new = (n : ℕ) × LooksUp pages n old new
LooksUpUntil pages NotShown old new = (n : ℕ) × (0 < n) × LooksUp pages n old new

-- the page of a slot was looked up and found, and nothing else was called; a blank slot, or one that isn't there, has
-- none
abbrev pub LooksAt : Option (Option ℕ) → (old new : SeatView) → Type 0
LooksAt None old new = new ≡ old
LooksAt (Some None) old new = new ≡ old
LooksAt (Some (Some p)) old new = (index : ℕ) × MadeCall old (PageAt p (Some index)) new

-- the page has an index after this history
abbrev pub HasIndex : Layout → List Entry → ℕ → Type 0
HasIndex layout log p = (index : ℕ) × ((after_history layout log).index p ≡ Some index)
