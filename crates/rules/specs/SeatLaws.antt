-- What the calls of seats leave implies these laws: where a caller's entries are in the one history, and that they
-- stay its own.
use Rattle.std.specs.Prelude.{◌≡◌, ◌⊎◌, ℕ, ◌+◌, ◌<◌, ◌≤◌, List, [], ◌∷◌, ◌++◌, length, Some, slice_get}
use mathlib.Core.Option.{some}
use mathlib.Core.List.{IsPrefix}
use lib.ListN.{get_elem?}
use Rattle.rules.specs.Seats.{Sight, AreSeats, whole_share, longer, owned, occurrences, total}
use Rattle.rules.specs.SeatRules.{StandAt, entries_at}
use Rattle.rules.specs.SeatCalls.{HistorySeat, IsSeat, Agree, Made, Makes, Split, Met, Joined, own_entries}

-- what a caller does with a seat: nothing; one call; it meets another seat; it gives a part of its share to a new
-- seat of another caller; it takes in another caller's seat; one thing after another; or it splits the seat in two,
-- does something with each part, side by side, and joins them again
pub data Course (E : Type 0) : Type 0 where
  Rests : Course E
  Calls : E → Course E
  Meets : Course E
  Gives : Course E
  TakesIn : Course E
  Then : Course E → Course E → Course E
  InTwo : Course E → Course E → Course E

-- the calls of a course are in the history at these places, from place n on and before place m. Each later call is
-- at a later place, and the calls of each of two parts are in order
abbrev pub CourseStands : {E : Type 0} → List E → (n m : ℕ) → List ℕ → Course E → Type 0
CourseStands log n m places Rests = (n ≤ m) × (places ≡ [])
CourseStands log n m places (Calls e) = (x : ℕ) × (n ≤ x) × (x < m) × (slice_get log x ≡ Some e) × (places ≡ x ∷ [])
CourseStands log n m places Meets = (n ≤ m) × (places ≡ [])
CourseStands log n m places Gives = (n ≤ m) × (places ≡ [])
CourseStands log n m places TakesIn = (n ≤ m) × (places ≡ [])
CourseStands log n m places (Then c d) = (k : ℕ) × (xs : List ℕ) × (ys : List ℕ) × CourseStands log n k xs c
    × CourseStands log k m ys d × (places ≡ xs ++ ys)
CourseStands log n m places (InTwo c d) = (xs : List ℕ) × (ys : List ℕ) × CourseStands log n m xs c
    × CourseStands log n m ys d × (places ≡ xs ++ ys)

module _ {K E : Type 0} (Legal : K → List E → Type 0) where
  -- these entries of a seat were made one after the other, while others may have made theirs. They are in one legal
  -- history, which begins with all that the caller had seen: each at a place of its own, in the order in which they
  -- were made
  pub record StandInOneHistory (old : HistorySeat K E) (es : List E) (new : HistorySeat K E) : Type 0 where
    pub legal : Legal old.key new.front
    pub begins : IsPrefix old.front new.front
    pub places : List ℕ
    pub own : new.own ≡ old.own ++ places
    pub calls : StandAt new.front (length old.front) places es
    pub others : old.share ≡ whole_share → new.front ≡ old.front ++ es
    pub same : new ≡ record old { front = new.front; own = new.own }

  abbrev pub CallsStandInOneHistory : Type 0
  CallsStandInOneHistory = (old new : HistorySeat K E) (es : List E) → IsSeat Legal old → Makes Legal old es new
      → StandInOneHistory old es new

  -- the caller followed this course, from one seat to another
  abbrev pub Goes : HistorySeat K E → Course E → HistorySeat K E → Type 0
  Goes old Rests new = old ≡ new
  Goes old (Calls e) new = Made Legal old e new
  Goes old Meets new = (other : HistorySeat K E) × (after : HistorySeat K E)
      × (Met Legal old other new after ⊎ Met Legal other old after new)
  Goes old Gives new = (given : HistorySeat K E) × Split Legal old new given
  Goes old TakesIn new = (other : HistorySeat K E)
      × (Joined Legal old other new
      ⊎ ((other.table ≡ old.table) × (other.key ≡ old.key) × Joined Legal other old new))
  Goes old (Then c d) new = (mid : HistorySeat K E) × Goes old c mid × Goes mid d new
  Goes old (InTwo c d) new =
      (one : HistorySeat K E) × (two : HistorySeat K E) × (one' : HistorySeat K E) × (two' : HistorySeat K E)
      × Split Legal old one two × Goes one c one' × Goes two d two'
      × (Joined Legal one' two' new ⊎ Joined Legal two' one' new)

  -- the calls of a course are in one legal history, which begins with all that the caller had seen. Each is at a
  -- place of its own, which it didn't have before, and in the order of the course
  pub record CourseStandsInOneHistory (old : HistorySeat K E) (course : Course E) (new : HistorySeat K E) : Type 0 where
    pub legal : Legal old.key new.front
    pub begins : IsPrefix old.front new.front
    pub places : List ℕ
    pub calls : CourseStands new.front (length old.front) (length new.front) places course
    pub own : (x : ℕ) → occurrences x old.own + occurrences x places ≤ occurrences x new.own
    pub once : (x : ℕ) → occurrences x new.own ≤ 1
    pub same : (new.table ≡ old.table) × (new.key ≡ old.key)

  abbrev pub CoursesStandInOneHistory : Type 0
  CoursesStandInOneHistory = (old new : HistorySeat K E) (course : Course E) → IsSeat Legal old → Goes old course new
      → CourseStandsInOneHistory old course new

  -- an entry is one more own entry, a joined seat has those of both, and meeting or splitting neither loses entries
  -- nor gives any away
  abbrev pub OwnEntriesAreKept : Type 0
  OwnEntriesAreKept = ((old new : HistorySeat K E) (es : List E) → Makes Legal old es new
      → own_entries new ≡ own_entries old ++ es)
      × ((a b new : HistorySeat K E) → IsSeat Legal a → IsSeat Legal b → Joined Legal a b new
      → own_entries new ≡ own_entries a ++ own_entries b)
      × ((a b a' b' : HistorySeat K E) → IsSeat Legal a → IsSeat Legal b → Met Legal a b a' b'
      → (own_entries a' ≡ own_entries a) × (own_entries b' ≡ own_entries b))
      × ((old kept given : HistorySeat K E) → Split Legal old kept given
      → (own_entries kept ≡ own_entries old) × (own_entries given ≡ []))

  -- a seat that has all shares made all entries of its front: a count over its own entries is the count over the
  -- front
  abbrev pub WholeSeatMadeAll : Type 0
  WholeSeatMadeAll = (seat : HistorySeat K E) (weight : E → ℕ) → IsSeat Legal seat → seat.share ≡ whole_share
      → total weight (own_entries seat) ≡ total weight seat.front

  -- a count over the own entries of a seat, or of two seats that agree, is at most the count over the history that
  -- they have seen
  abbrev pub OwnEntriesAreOfTheFront : Type 0
  OwnEntriesAreOfTheFront = ((seat : HistorySeat K E) (weight : E → ℕ) → IsSeat Legal seat
      → total weight (own_entries seat) ≤ total weight seat.front)
      × ((a b : HistorySeat K E) (weight : E → ℕ) → IsSeat Legal a → IsSeat Legal b → Agree a b
      → total weight (own_entries a) + total weight (own_entries b) ≤ total weight (longer a.front b.front))

  -- shares are neither made nor lost: a call and a meeting leave each seat its own, a joined seat has those of
  -- both, and a split divides one into two
  abbrev pub SharesAreKept : Type 0
  SharesAreKept = ((old new : HistorySeat K E) (es : List E) → Makes Legal old es new → new.share ≡ old.share)
      × ((a b new : HistorySeat K E) → Joined Legal a b new → new.share ≡ a.share + b.share)
      × ((a b a' b' : HistorySeat K E) → Met Legal a b a' b' → (a'.share ≡ a.share) × (b'.share ≡ b.share))
      × ((old kept given : HistorySeat K E) → Split Legal old kept given → kept.share + given.share ≡ old.share)

  -- all seats that exist at one moment, whether they ever met or not. There is one legal history, which begins with
  -- what each of them has seen. No entry of it is an own entry of two of them. A count over the own entries of all
  -- of them is at most the count over the history
  pub record StandTogether (key : K) (log : List E) (views : List (Sight K E)) : Type 0 where
    pub legal : Legal key log
    pub begins : (id : ℕ) (v : Sight K E) → get_elem? views id ≡ some v → IsPrefix v.front log
    pub apart : (x : ℕ) → total (owned x) views ≤ 1
    pub counted : (weight : E → ℕ)
        → total (λ (v : Sight K E). total weight (entries_at v.front v.own)) views ≤ total weight log

  abbrev pub SeatsStandTogether : Type 0
  SeatsStandTogether = (key : K) (log : List E) (views : List (Sight K E)) → Legal key log → AreSeats key log views
      → StandTogether key log views
