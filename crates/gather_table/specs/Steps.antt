-- What each step reveals.
use Rattle.std.specs.Prelude.{◌≡◌, ℕ, ◌-◌, ◌/◌, ◌%◌, ◌^◌, ◌≤◌}
use Rattle.atomic_table.specs.Table.{Me, Step}
use Rattle.rules.specs.Sheets.{Layout}
use Rattle.gather_table.specs.History.{Entry, Publish, Mark, Look, PageAt, CloseGroup, LookGroup, IsLegal}
use Rattle.gather_table.specs.Lanes.{lane, in_lane}
use Rattle.gather_table.specs.Rule.{SeatSight}
use Rattle.gather_table.specs.Table.{slots_on, group_count, group_size, publish_reply, group_reply, closing_by}
use Rattle.gather_table.specs.Words.{index_in, reply_in}
use Rattle.rules.specs.Seats.{Learned}

-- the call was made, with its reply
abbrev pub AddsCall : SeatSight → Entry → SeatSight → Type 0
AddsCall = Rattle.rules.specs.Seats.Adds IsLegal

-- a publish was made, and the word that it found gives its reply
abbrev pub publishes : Step Unit → Me Unit SeatSight → ℕ → Me Unit SeatSight → Type 0
publishes st me found new = (new.1 ≡ me.1) × (found ≤ 2 ^ 32)
    × AddsCall me.0 (Publish st.word (st.second - 1) (publish_reply (index_in found))) new.0

-- a look-up as a step
abbrev pub finds : Step Unit → Me Unit SeatSight → ℕ → Me Unit SeatSight → Type 0
finds st me found new = (new.1 ≡ me.1) × (found ≤ 2 ^ 32) × AddsCall me.0 (PageAt st.word (index_in found)) new.0

-- the bits of a sheet in the word that was found
abbrev pub lane_found : Layout → ℕ → ℕ → ℕ
lane_found layout s found = in_lane found (lane layout s).first (slots_on layout s)

-- the call that a mark was, and the one that a look was, given the word that was found
abbrev pub mark_of : Layout → ℕ → ℕ → ℕ → Entry
mark_of layout s k found = Mark s k (reply_in (lane_found layout s found) (2 ^ k) (2 ^ slots_on layout s - 1))

abbrev pub look_of : Layout → ℕ → ℕ → Entry
look_of layout s found = Look s (2 ^ slots_on layout s - 1 - lane_found layout s found)

-- a mark of a wide sheet, given the word of the group, and the closing word
abbrev pub wide_mark_of : Layout → ℕ → ℕ → ℕ → Entry
wide_mark_of layout s k found =
    Mark s k (group_reply (k / 64)
    (reply_in (in_lane found 0 (group_size layout s (k / 64))) (2 ^ (k % 64)) (2 ^ group_size layout s (k / 64) - 1)))

abbrev pub wide_look_of : Layout → ℕ → ℕ → Entry
wide_look_of layout s found = Look s (2 ^ group_count layout s - 1 - in_lane found 0 (group_count layout s))

abbrev pub close_of : Layout → ℕ → ℕ → ℕ → Entry
close_of layout s g found =
    CloseGroup s g (closing_by
    (reply_in (in_lane found 0 (group_count layout s)) (2 ^ g) (2 ^ group_count layout s - 1)))

abbrev pub look_group_of : Layout → ℕ → ℕ → ℕ → Entry
look_group_of layout s g found = LookGroup s g (2 ^ group_size layout s g - 1 - in_lane found 0 (group_size layout s g))

-- a call was made: this one, given the word that it found
abbrev pub calls : (ℕ → Entry) → Step Unit → Me Unit SeatSight → ℕ → Me Unit SeatSight → Type 0
calls entry st me found new = (new.1 ≡ me.1) × AddsCall me.0 (entry found) new.0

-- a look from which a seat learns what the rule says about it
abbrev pub learns : Step Unit → Me Unit SeatSight → ℕ → Me Unit SeatSight → Type 0
learns st me found new = (new ≡ me) × Learned me.0
