-- What the histories of a gathered run are.
use Rattle.std.specs.Prelude.{◌≡◌, ℕ, ◌+◌, ◌<◌, ◌≤◌, ◌==◌, ◌&&◌, Bool, true, false, if◌then◌else◌, List, [], ◌++◌, length}
use Rattle.std.specs.Prelude.{Option, Some, slice_get}
use mathlib.Core.List.{IsPrefix}
use Rattle.rules.specs.Sheets.{Layout}
use Rattle.rules.specs.Seats.{total, occurrences, whole_share}
use Rattle.gather_table.specs.Table.{slots, is_blank_slot, is_full, HasGroup}
use Rattle.gather_table.specs.History.{Entry, PageAt, IsLegal, IsComplete}
use Rattle.gather_table.specs.Laws.{completings, closings}
use Rattle.gather_table.specs.Shared.{SeatView, IsSeat, MadeCall, own_calls}
use Rattle.handover.specs.Queue.{Move, content, sheets_put, sheets_taken}
use Rattle.run_steps.specs.Delivery.{CloseWhatTheyFill}
use Rattle.run_steps.specs.Duty.{Duty, OfPage, OfSlot, worth, owed}

abbrev pub page_is : ℕ → Duty → ℕ
page_is p (OfPage q) = if q == p then 1 else 0
page_is p (OfSlot s k) = 0

abbrev pub slot_is : ℕ → ℕ → Duty → ℕ
slot_is s k (OfPage q) = 0
slot_is s k (OfSlot r j) = if (r == s) && (j == k) then 1 else 0

-- how many publishes of page p there are, and how many marks of slot k of sheet s
abbrev pub publish_count : ℕ → List Entry → ℕ
publish_count p log = total (worth (page_is p)) log

abbrev pub marks : ℕ → ℕ → List Entry → ℕ
marks s k log = total (worth (slot_is s k)) log

-- slot k of sheet s holds page p
abbrev pub Holds : Layout → (s k p : ℕ) → Type 0
Holds layout s k p = slice_get (slots layout s) k ≡ Some (Some p)

-- each slot that isn't blank has one of the pages
abbrev pub HasPages : Layout → Type 0
HasPages layout = (s k p : ℕ) → Holds layout s k p → p < layout.pages

-- every slot of group g of sheet s is blank
abbrev pub is_blank_group : Layout → (s g : ℕ) → Bool
is_blank_group layout s g = is_full layout s g (is_blank_slot (slots layout s))

-- one publish for each page, one mark for each needed slot, one closing for each group of a wide sheet that has such a
-- slot, and no others of these; every sheet is complete, and each that wasn't born complete has exactly one Completing
pub record IsGathered (layout : Layout) (log : List Entry) : Type 0 where
  pub legal : IsLegal layout log
  pub published : (p : ℕ) → p < layout.pages → publish_count p log ≡ 1
  pub no_other_page : (p : ℕ) → layout.pages ≤ p → publish_count p log ≡ 0
  pub marked : (s k p : ℕ) → Holds layout s k p → marks s k log ≡ 1
  pub no_other_slot : (s k : ℕ) → ((p : ℕ) → ¬ Holds layout s k p) → marks s k log ≡ 0
  pub closed : (s g : ℕ) → HasGroup layout s g → is_blank_group layout s g ≡ false → closings s g log ≡ 1
  pub no_other_group : (s g : ℕ) → (HasGroup layout s g → is_blank_group layout s g ≡ true) → closings s g log ≡ 0
  pub complete : (s : ℕ) → s < length layout.sheets → IsComplete layout log s
  pub completing : (s : ℕ) → s < length layout.sheets → ¬ IsComplete layout [] s → completings s log ≡ 1

-- a seat with all shares has gathered all pages, if its own calls weigh what they want done and close what they fill
abbrev pub GathersAll : Type 0
GathersAll =
    (seat : SeatView) → IsSeat seat → seat.share ≡ whole_share → HasPages seat.key
    → ((h : Duty → ℕ) → total (worth h) (own_calls seat) ≡ owed h seat.key seat.key.pages)
    → CloseWhatTheyFill (own_calls seat) → IsGathered seat.key seat.front

-- no sheet was put twice, and what was taken and what is left is what was put
pub record IsHandedOn (log : List Move) : Type 0 where
  pub once : (s : ℕ) → occurrences s (sheets_put log) ≤ 1
  pub balanced : sheets_taken log ++ content log ≡ sheets_put log

-- each complete sheet was put exactly once
abbrev pub AreAllPut : Layout → List Entry → List Move → Type 0
AreAllPut layout log moves =
    (s : ℕ) → s < length layout.sheets → IsComplete layout log s → occurrences s (sheets_put moves) ≡ 1

-- after a gathering each page of a sheet is found, at one index for good
abbrev pub GatheredAreFound : Type 0
GatheredAreFound = (seat : SeatView) (s k p : ℕ) → IsSeat seat → IsGathered seat.key seat.front
    → s < length seat.key.sheets → Holds seat.key s k p
    → (i : ℕ) × ((old new : SeatView) (found : Option ℕ) → old.key ≡ seat.key → IsPrefix seat.front old.front
    → MadeCall old (PageAt p found) new → found ≡ Some i)

-- no sheet was taken twice, and none that is left was taken
abbrev pub TakenAtMostOnce : Type 0
TakenAtMostOnce = (log : List Move) (s : ℕ) → IsHandedOn log → occurrences s (sheets_taken log) + occurrences s (content log) ≤ 1
