-- Splitting and joining, as steps that keep the rule.
use Rattle.std.proofs.Common.{◌≡◌, ℕ, ◌+◌, ◌<◌, List, ◌++◌, length, refl, sym, ap, subst, arith}
use mathlib.Core.Option.{none}
use Rattle.atomic_table.specs.Table.{State, Me, step, Allows, Splits, Joins, keeps}
use Rattle.rules.specs.Sheets.{Layout}
use Rattle.gather_table.specs.Counts.{KeepsCounts}
use Rattle.gather_table.specs.declared.lane.Home.{Home}
use Rattle.gather_table.specs.Steps.{learns}
use Rattle.gather_table.specs.Rule.{IsTableHistory, HasTableHistory, SeatSight, spent_seat}
use Rattle.gather_table.specs.History.{Entry}
use Rattle.gather_table.proofs.Lanes.{at_least}
use Rattle.gather_table.proofs.Pages.{unwritten}
use Rattle.rules.specs.Seats.{occurrences, keeps_back, given, absorbed, AreSeats}
use Rattle.rules.proofs.SeatShares.{unchanged}
use Rattle.rules.proofs.SeatTotals.{times-append}

-- the words stay, and so does the history
reseated : (layout : Layout) (s : State Unit SeatSight) (log : List Entry) (views : List SeatSight) → IsTableHistory layout s log → AreSeats layout log views → IsTableHistory layout (record { words = s.words; homes = s.homes; views = views }) log
reseated layout s log views k seats = record { legal = k.legal; words = k.words; seats = seats }

pub splits : (layout : Layout) (id : ℕ) (v : SeatSight) (places theirs : List ℕ) (g : ℕ) → ((x : ℕ) → occurrences x places + occurrences x theirs ≡ occurrences x v.own) → 0 < g → g < v.share
    → Splits (HasTableHistory layout) id v (keeps_back places g v) (given theirs g v)
splits layout id v places theirs g deal pos less s kept at = (kept.0, reseated layout s kept.0 _ kept.1 (Rattle.rules.proofs.SeatShares.splits layout kept.0 s.views id v places theirs g deal pos less kept.1.seats at))

pub joins : (layout : Layout) (id : ℕ) (v : SeatSight) (other : ℕ) (w : SeatSight) → 0 < v.share → Joins (HasTableHistory layout) id v other w (absorbed v w) spent_seat
joins layout id v other w pos s kept at apart there =
    (kept.0, reseated layout s kept.0 _ kept.1 (Rattle.rules.proofs.SeatShares.absorbs layout spent_seat.key kept.0 s.views id other v w pos kept.1.seats at apart there))

-- two seats that were joined are split again, each with its own places and its share
pub parts : (layout : Layout) (id : ℕ) (v w x : SeatSight) (places theirs : List ℕ) (g : ℕ) → x ≡ absorbed v w → places ≡ v.own → theirs ≡ w.own → g ≡ w.share → 0 < v.share → 0 < w.share
    → Splits (HasTableHistory layout) id x (keeps_back places g x) (given theirs g x)
parts layout id v w x places theirs g is mine others gives pos some =
    let share : x.share ≡ v.share + w.share = ap (λ (z : SeatSight). z.share) is in
    splits layout id x places theirs g
    (λ k.
    let a : occurrences k places ≡ occurrences k v.own = ap (occurrences k) mine in
    let b : occurrences k theirs ≡ occurrences k w.own = ap (occurrences k) others in
    let both : occurrences k (v.own ++ w.own) ≡ occurrences k v.own + occurrences k w.own = times-append k v.own w.own in
    let all : occurrences k x.own ≡ occurrences k (v.own ++ w.own) = ap (λ (z : SeatSight). occurrences k z.own) is in
    omega arith)
    (omega arith)
    (omega arith)

pub learns_moves : (layout : Layout) (slots id : ℕ) (me : Me Unit SeatSight) (i : ℕ) → Allows (HasTableHistory layout) slots id me i (λ n. n) (learns (step slots i 0 0 none) me)
learns_moves layout slots id me i s kept homes at lt =
    (me.0, keeps, tt, (kept.0, subst (λ (z : List ℕ × List SeatSight). IsTableHistory layout (record { words = z.0; homes = s.homes; views = z.1 }) kept.0) (λ d. (sym (unwritten s.words i) d, sym (unchanged s.views id me.0 at) d)) kept.1), (refl, Rattle.rules.proofs.SeatShares.learns layout kept.0 s.views id me.0 kept.1.seats at))

-- every table has a word
pub some_word : {layout : Layout} {words pages : ℕ} {homes : List Home} → KeepsCounts layout words pages homes → 0 < words
some_word {layout} k = let r = k.words_are in let l = at_least layout (length layout.sheets) in omega arith
