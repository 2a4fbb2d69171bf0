-- What clauses see of the shared table and of its seats. What holds of the seats of any history is in
-- rules (SeatCalls, SeatLaws).
use Rattle.std.specs.Prelude.{List}
use Rattle.atomic_table.specs.Seated.{TableId}
use Rattle.rules.specs.Sheets.{Layout}
use Rattle.rules.specs.SeatCalls.{IsOf, opening, own_entries}
use Rattle.gather_table.specs.History.{Entry, IsLegal}

-- a table and its layout
pub record TableView : Type 0 where
  pub table : TableId
  pub layout : Layout

-- a seat: its table, the layout (its key), the history that its caller has seen, the places in it of the caller's own
-- calls, and its share
abbrev pub SeatView : Type 0
SeatView = Rattle.rules.specs.SeatCalls.HistorySeat Layout Entry

abbrev pub IsSeatOf : TableView → SeatView → Type 0
IsSeatOf t seat = IsOf t.table t.layout seat

-- the seat with which a table is made: it has all shares, and has seen nothing
abbrev pub opening_seat : TableView → SeatView
opening_seat t = opening t.table t.layout

-- what every seat keeps to: its front is legal, and its own places are places of the front, each once. If it has
-- all shares, they are all places of it
abbrev pub IsSeat : SeatView → Type 0
IsSeat = Rattle.rules.specs.SeatCalls.IsSeat IsLegal

-- the seat's own calls, with their replies
abbrev pub own_calls : SeatView → List Entry
own_calls seat = own_entries seat

-- the call was made: the new front is the old one, then what others did in the meantime, then this call, whose
-- place is one more own place. If the seat has all shares, there are no others
abbrev pub MadeCall : SeatView → Entry → SeatView → Type 0
MadeCall = Rattle.rules.specs.SeatCalls.Made IsLegal

-- a seat's view after exactly these calls, one after the other
abbrev pub MakesCalls : SeatView → List Entry → SeatView → Type 0
MakesCalls = Rattle.rules.specs.SeatCalls.Makes IsLegal

-- two seats: the front of each is a beginning of the longer one, and no place is an own place of both
abbrev pub SeatsAgree : SeatView → SeatView → Type 0
SeatsAgree = Rattle.rules.specs.SeatCalls.Agree

-- after a meeting both seats have the longer front
abbrev pub Met : SeatView → SeatView → SeatView → SeatView → Type 0
Met = Rattle.rules.specs.SeatCalls.Met IsLegal

-- one seat with the longer front, the own places of both, none of which is shared, and both shares
abbrev pub SeatsJoined : SeatView → SeatView → SeatView → Type 0
SeatsJoined = Rattle.rules.specs.SeatCalls.Joined IsLegal
