-- Pages that are turned before they are placed: they are laid as pages of the papers that they have then. All here is this
-- project's own rules.
use Rattle.std.specs.Prelude.{◌≡◌, ℕ, ◌+◌, ◌*◌, ◌/◌, ℤ, pos, ◌+ℤ◌, ◌-ℤ◌, ◌*ℤ◌, ◌≤ℤ◌, nat_abs, List, map, slice_get, unwrap_or}
use Rattle.rules.specs.Papers.{Paper, Pt}
use Rattle.rules.specs.Placement.{Point, moved, turned}
use Rattle.rules.specs.Specification.{Item, Measure, Turn, Upright, Left, Half, Right}
use Rattle.rules.specs.Made.{MadeSlot, Blank, Placed, MadeSheet}
use Rattle.pagespec.specs.Items.{turn_of}
use Rattle.pagespec.specs.declared.item.Turn.{Turn as PageTurn}
use Rattle.pagespec.specs.declared.item.Turn.TheVariants as by
use Rattle.layouts.specs.Placed.{fine, stands}

-- a quarter turn more to the left
abbrev pub quarter_left : Turn → Turn
quarter_left Upright = Left
quarter_left Left = Half
quarter_left Half = Right
quarter_left Right = Upright

-- one turn, and then another
abbrev pub turn_sum : Turn → Turn → Turn
turn_sum Upright other = other
turn_sum Left other = quarter_left other
turn_sum Half other = quarter_left (quarter_left other)
turn_sum Right other = quarter_left (quarter_left (quarter_left other))

-- the paper that a page has once it is turned: by a quarter its sides are exchanged (RULES, 13.7)
abbrev pub turned_paper : Turn → Paper → Paper
turned_paper Upright paper = paper
turned_paper Left paper = record { width = paper.height; height = paper.width }
turned_paper Half paper = paper
turned_paper Right paper = record { width = paper.height; height = paper.width }

-- where the page's lower left corner is then, on a paper that is so wide and high
abbrev pub turned_corner : Turn → (width height : ℤ) → Point
turned_corner Upright width height = record { x = pos 0; y = pos 0 }
turned_corner Left width height = record { x = width; y = pos 0 }
turned_corner Half width height = record { x = width; y = height }
turned_corner Right width height = record { x = pos 0; y = height }

-- how long a side is at this scale, in 10^-5 of a point, of which none is lost
abbrev pub scaled_length : (scale side : ℤ) → ℕ
scaled_length scale side = (nat_abs scale * nat_abs side + 1_269_999_999_999_999) / 1_270_000_000_000_000

-- a measure of something that is moved by this number of 10^-5 of a point
abbrev pub shifted : ℤ → Measure → Measure
shifted by m = record { number = m.number +ℤ (pos 10_000 *ℤ by); unit = m.unit }

-- the item by which the page is placed where this one places a page of its turned paper (RULES, 13.7)
abbrev pub turned_item : Turn → (paper : Paper) → Item → Item
turned_item turn paper item =
    let by = turned item.turn (turned_corner turn (pos (scaled_length item.scale paper.width)) (pos (scaled_length item.scale paper.height))) in
    record item { turn = turn_sum turn item.turn; x = shifted by.x item.x; y = shifted by.y item.y }

-- the turn of a page of which the turns of the document's pages are listed; one that isn't in the list stays as it is
abbrev pub turn_on : List PageTurn → (page : ℕ) → Turn
turn_on turns page = turn_of (unwrap_or (slice_get turns page) by.None)

-- each page has its turn, and its own paper again, by which it is clipped
abbrev pub turned_slot : (turns : ℕ → Turn) → MadeSlot → MadeSlot
turned_slot turns Blank = Blank
turned_slot turns (Placed page item paper) = Placed page (turned_item (turns page) paper item) (turned_paper (turns page) paper)

abbrev pub turned_sheet : (turns : ℕ → Turn) → MadeSheet → MadeSheet
turned_sheet turns sheet = record { paper = sheet.paper; slots = map (turned_slot turns) sheet.slots }

-- all pages have this turn
abbrev pub all_by : Turn → (page : ℕ) → Turn
all_by turn page = turn

-- ---- laws

-- no turn changes nothing; two quarter turns are half a turn, three are one to the right, and four are none
pub record TurnsOf (slot : MadeSlot) : Type 0 where
  pub none : turned_slot (all_by Upright) slot ≡ slot
  pub two : turned_slot (all_by Left) (turned_slot (all_by Left) slot) ≡ turned_slot (all_by Half) slot
  pub three : turned_slot (all_by Left) (turned_slot (all_by Half) slot) ≡ turned_slot (all_by Right) slot
  pub four : turned_slot (all_by Left) (turned_slot (all_by Right) slot) ≡ slot

abbrev pub TurnsAddUp : Type 0
TurnsAddUp = (slot : MadeSlot) → TurnsOf slot

-- where a point of the page is on its turned paper
abbrev pub on_turned : Turn → (paper : Paper) → Point → Point
on_turned turn paper p = moved (turned_corner turn paper.width paper.height) (turned turn p)

-- by how much a side is taken as longer than it is, in 10^-9 of a grain
abbrev pub excess : (scale side : ℕ) → ℤ
excess scale side = fine (scaled_length (pos scale) (pos side)) -ℤ pos (scale * side)

-- a length is less than 10^-5 of a point
pub record IsLittle (z : ℤ) : Type 0 where
  pub some : pos 0 ≤ℤ z
  pub less : (z +ℤ pos 1) ≤ℤ fine 1

-- what is drawn is the turned page: each of its points is where a page of the turned paper has that point, but for what
-- is rounded
pub record IsDrawnTurned (turn : Turn) (page : Paper) (item : Item) (width height scale : ℕ) : Type 0 where
  pub little : IsLittle (excess scale width) × IsLittle (excess scale height)
  pub stand : (p : Point) → stands (turned_paper turn page) (turned_item turn page item) p
      ≡ moved (turned item.turn (turned_corner turn (excess scale width) (excess scale height))) (stands page item (on_turned turn page p))

abbrev pub TurnedStands : Type 0
TurnedStands = (turn : Turn) (page : Paper) (item : Item) (width height scale : ℕ)
    → page.width ≡ pos width → page.height ≡ pos height → item.scale ≡ pos scale → item.x.unit ≡ Pt → item.y.unit ≡ Pt
    → IsDrawnTurned turn page item width height scale
