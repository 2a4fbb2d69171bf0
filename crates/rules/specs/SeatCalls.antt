-- Seats as clauses see them, and what their calls leave. K is the type of a history's subject and E that of an
-- entry; Legal says which histories are legal.
use Rattle.std.specs.Prelude.{◌≡◌, ℕ, ◌+◌, ◌-◌, ◌<◌, ◌≤◌, List, [], ◌∷◌, ◌++◌, length}
use mathlib.Core.List.{IsPrefix}
use Rattle.atomic_table.specs.Seated.{TableId}
use Rattle.rules.specs.Seats.{Sight, whole_share, longer, occurrences}
use Rattle.rules.specs.SeatRules.{entries_at, IsHeld}

-- a seat: its table, the subject of its history, the history that its caller has seen, the places in it of the
-- caller's own entries, and its share
pub record HistorySeat (K E : Type 0) : Type 0 where
  pub table : TableId
  pub key : K
  pub front : List E
  pub own : List ℕ
  pub share : ℕ

module _ {K E : Type 0} where
  -- the view of a seat of this table that knows this
  abbrev pub seat_view : TableId → Sight K E → HistorySeat K E
  seat_view table v = record { table = table; key = v.key; front = v.front; own = v.own; share = v.share }

  abbrev pub IsOf : TableId → K → HistorySeat K E → Type 0
  IsOf table key seat = (seat.table ≡ table) × (seat.key ≡ key)

  -- the first seat: it has all shares, and has seen nothing
  abbrev pub opening : TableId → K → HistorySeat K E
  opening table key = record { table = table; key = key; front = []; own = []; share = whole_share }

  -- the seat's own entries
  abbrev pub own_entries : HistorySeat K E → List E
  own_entries seat = entries_at seat.front seat.own

  -- two seats of one history: the front of each is a beginning of the longer one, and no place is an own place of
  -- both
  pub record Agree (a b : HistorySeat K E) : Type 0 where
    pub one : IsPrefix a.front (longer a.front b.front)
    pub two : IsPrefix b.front (longer a.front b.front)
    pub apart : (x : ℕ) → occurrences x a.own + occurrences x b.own ≤ 1
    pub shares : a.share + b.share ≤ whole_share

  -- one seat with the longer front, the own places of both, and both shares
  abbrev pub joined : HistorySeat K E → HistorySeat K E → HistorySeat K E
  joined a b = record {
    table = a.table;
    key = a.key;
    front = longer a.front b.front;
    own = a.own ++ b.own;
    share = a.share + b.share;
  }

module _ {K E : Type 0} (Legal : K → List E → Type 0) where
  -- what every seat keeps to: its front is legal, and its own places are places of the front, each once; with all
  -- shares they are all places of it
  abbrev pub IsSeat : HistorySeat K E → Type 0
  IsSeat seat = IsHeld (Legal seat.key) seat.front seat.own seat.share

  -- the entry e was made
  pub record Made (old : HistorySeat K E) (e : E) (new : HistorySeat K E) : Type 0 where
    -- what others did meanwhile
    pub between : List E
    -- the new front is the old one, then `between`, then e, whose place is one more own place
    pub grown : new ≡ record old {
      front = (old.front ++ between) ++ e ∷ [];
      own = old.own ++ length (old.front ++ between) ∷ [];
    }
    -- if the seat has all shares, there are no others
    pub alone : old.share ≡ whole_share → between ≡ []
    -- the old and the new seat keep to what every seat keeps to
    pub before : IsSeat old
    pub after : IsSeat new

  -- these entries were made, one after the other, and no others
  abbrev pub Makes : HistorySeat K E → List E → HistorySeat K E → Type 0
  Makes old [] new = old ≡ new
  Makes old (e ∷ es) new = (mid : HistorySeat K E) × Made old e mid × Makes mid es new

  -- a seat gave a part of its share to a new one, which has the same front and no own places
  pub record Split (old kept given : HistorySeat K E) : Type 0 where
    pub share : ℕ
    pub some_share : (0 < share) × (share < old.share)
    pub keeps : kept ≡ record old { share = old.share - share }
    pub gives : given ≡ record old { own = []; share = share }
    pub seats : IsSeat kept × IsSeat given

  -- both fronts become the longer one
  pub record Met (a b a' b' : HistorySeat K E) : Type 0 where
    pub one : a' ≡ record a { front = longer a.front b.front }
    pub two : b' ≡ record b { front = longer a.front b.front }
    pub agree : Agree a b
    pub seats : IsSeat a' × IsSeat b'

  -- two seats became one
  pub record Joined (a b new : HistorySeat K E) : Type 0 where
    pub joined : new ≡ joined a b
    pub agree : Agree a b
    pub seat : IsSeat new
