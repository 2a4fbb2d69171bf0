-- The room of a sheet, slot by slot.
use Rattle.std.proofs.Common.{ℕ, ◌+◌, ◌<◌, ◌≤◌, ◌≡◌, ◌∙◌, List, Some, ap, arith, length, take, sum_by, slice_get}
use Rattle.std.proofs.lemmas.List.Sums.{sum_by_more}
use Rattle.std.proofs.lemmas.Option.{get_or_from_slice_get, slice_get_within}
use Rattle.rules.specs.Parts.{pages}
use Rattle.rules.specs.Made.{MadeSlot}
use Rattle.sheet_plan.specs.Plans.{pages_on}
use Rattle.sheet_text.specs.Jobs.{JobView, AreOfPlan, slots_of}
use Rattle.sheet_text.specs.Rooms.{slot_room}
use Rattle.sheet_text.proofs.Slots.{slot_count, there}

one_more : (f : MadeSlot → ℕ) (slots : List MadeSlot) (it : MadeSlot) (k : ℕ) → slice_get slots k ≡ Some it
    → sum_by f (take (k + 1) slots) ≡ sum_by f (take k slots) + f it
one_more f slots it k at =
    sum_by_more f slots k it (slice_get_within slots k it at)
    ∙ ap (λ x. sum_by f (take k slots) + f x) (get_or_from_slice_get slots k it it at)

-- a turn of the loop over the slots
pub room_turn : (job : JobView) (s k end first before room after : ℕ) → AreOfPlan job.plan job.sheets → end ≡ length (pages_on job.plan s) → k < end
    → before ≤ first + sum_by (slot_room (pages job.units)) (take k (slots_of job s))
    → ((it : MadeSlot) → slice_get (slots_of job s) k ≡ Some it → room ≤ slot_room (pages job.units) it)
    → after ≤ before + room
    → after ≤ first + sum_by (slot_room (pages job.units)) (take (k + 1) (slots_of job s))
room_turn job s k end first before room after of end_is below so_far next sum =
    let l = slot_count job.plan job.sheets s of in
    let found = there (slots_of job s) k (omega arith) in
    let more = one_more (slot_room (pages job.units)) (slots_of job s) found.0 k found.1 in
    let slot = next found.0 found.1 in
    omega (arith, more, slot, so_far, sum)
