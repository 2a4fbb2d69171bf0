-- Where the pages of a layout are on their sheet, and how they lie to one another. A page and a sheet each have a
-- paper. A sheet is measured here in 10^-9 of a grain: a scale, in 10^-9, times a whole number of grains is a whole
-- number of these.
use Rattle.std.specs.Prelude.{◌≡◌, ℕ, ◌*◌, ℤ, pos, ◌+ℤ◌, ◌*ℤ◌, neg_ℤ, ◌≤ℤ◌, ◌⊎◌, nat_abs}
use Rattle.rules.specs.Papers.{Paper}
use Rattle.rules.specs.Specification.{Item, Turn, Upright, Left, Half, Right}
use Rattle.rules.specs.Placement.{Point, offset, turned, moved, put}
use Rattle.layouts.specs.declared.arrangement.Turned.{Turned}
use Rattle.layouts.specs.declared.arrangement.Turned.TheVariants as sideways

abbrev pub multiplied : ℤ → Point → Point
multiplied n p = record { x = n *ℤ p.x; y = n *ℤ p.y }

-- a point in grains, in 10^-9 of a grain
abbrev pub finer : Point → Point
finer p = multiplied (pos 1_000_000_000) p

-- a length in 10^-5 of a point, in 10^-9 of a grain
abbrev pub fine : ℕ → ℤ
fine n = pos (1_270_000_000_000_000 * n)

-- where a point of the page, in grains, is on the sheet: it is scaled, then turned, then moved
abbrev pub stands : (page : Paper) → Item → Point → Point
stands page item p = moved (finer (offset page item)) (turned item.turn (multiplied item.scale p))

-- a whole point of the page is where the item puts it: a law
abbrev pub StandsWherePut : Type 0
StandsWherePut = (page : Paper) (item : Item) (p : Point)
    → stands page item (multiplied (pos 127_000_000_000) p) ≡ finer (put page item p)

-- the page has this point, in grains, and if so many 10^-5 of a point are trimmed along each of its sides, it still does
pub record IsOfPage (trim : ℕ) (page : Paper) (p : Point) : Type 0 where
  pub left : pos (1_270_000 * trim) ≤ℤ p.x
  pub right : (p.x +ℤ pos (1_270_000 * trim)) ≤ℤ page.width
  pub bottom : pos (1_270_000 * trim) ≤ℤ p.y
  pub top : (p.y +ℤ pos (1_270_000 * trim)) ≤ℤ page.height

-- a sheet: its paper, what is kept free along each of its edges, what is kept free between cells that are side by side,
-- and between those that are one above another, and what is trimmed of its pages along each of their sides, in 10^-5 of a
-- point
pub record Room : Type 0 where
  pub paper : Paper
  pub left : ℕ
  pub right : ℕ
  pub bottom : ℕ
  pub top : ℕ
  pub gutter_across : ℕ
  pub gutter_up : ℕ
  pub trim : ℕ

-- nothing is kept free
abbrev pub bare : (sheet : Paper) → Room
bare sheet =
    record { paper = sheet; left = 0; right = 0; bottom = 0; top = 0; gutter_across = 0; gutter_up = 0; trim = 0 }

-- as much is kept free along opposite edges
pub record IsEven (room : Room) : Type 0 where
  pub across : room.left ≡ room.right
  pub up : room.bottom ≡ room.top

-- the sheet has this point, in 10^-9 of a grain, at least so far from each edge
pub record LiesWithin (room : Room) (p : Point) : Type 0 where
  pub left : fine room.left ≤ℤ p.x
  pub right : (p.x +ℤ fine room.right) ≤ℤ (pos 1_000_000_000 *ℤ room.paper.width)
  pub bottom : fine room.bottom ≤ℤ p.y
  pub top : (p.y +ℤ fine room.top) ≤ℤ (pos 1_000_000_000 *ℤ room.paper.height)

-- each point of the placed page, its corners among them, lies on what the margins leave of the sheet
abbrev pub IsInside : Room → (page : Paper) → Item → Type 0
IsInside room page item = (p : Point) → IsOfPage room.trim page p
    → LiesWithin room (stands page item p)

-- how far one of two neighbours is from the other, in the directions in which points are measured
abbrev pub gaps : Room → Point
gaps room = record { x = pos room.gutter_across; y = pos room.gutter_up }

-- measured so, each point of the one page comes before each of the other, and that by the gap in that direction
abbrev pub ComesFirst : (Point → ℤ) → Room → (page : Paper) → (one : Item) → (page' : Paper) → (other : Item) → Type 0
ComesFirst by room page one page' other =
    (p q : Point) → IsOfPage room.trim page p → IsOfPage room.trim page' q
    → (by (stands page one p) +ℤ fine (nat_abs (by (gaps room)))) ≤ℤ by (stands page' other q)

abbrev pub across : Point → ℤ
across p = p.x

abbrev pub upward : Point → ℤ
upward p = p.y

-- a strip along a side of the sheet, as wide as the gap there, parts them: so they have no inner point in common
abbrev pub AreApart : Room → (page : Paper) → (one : Item) → (page' : Paper) → (other : Item) → Type 0
AreApart room page one page' other =
    (ComesFirst across room page one page' other ⊎ ComesFirst across room page' other page one)
    ⊎ (ComesFirst upward room page one page' other ⊎ ComesFirst upward room page' other page one)

-- a point of the sheet as one holds it for pages of this turn to be upright
abbrev pub held : Turn → Point → Point
held Upright p = p
held Left p = record { x = p.y; y = neg_ℤ p.x }
held Half p = record { x = neg_ℤ p.x; y = neg_ℤ p.y }
held Right p = record { x = neg_ℤ p.y; y = p.x }

-- a point as one turns the sheet further, if the text of the pages lies on its side: to the left if one turns a page to
-- the left to read it
abbrev pub read_turned : Turned → Point → Point
read_turned sideways.Upright p = p
read_turned sideways.Left p = held Right p
read_turned sideways.Right p = held Left p

-- as one reads the sheet, the one page is left of the other, or above it, by the gap
abbrev pub IsLeftOf : Room → Turned → (page : Paper) → (one : Item) → (page' : Paper) → (other : Item) → Type 0
IsLeftOf room r page one page' other = ComesFirst (λ p. across (read_turned r (held one.turn p))) room page one page' other

abbrev pub IsAbove : Room → Turned → (page : Paper) → (one : Item) → (page' : Paper) → (other : Item) → Type 0
IsAbove room r page one page' other = ComesFirst (λ p. upward (read_turned r (held one.turn p))) room page' other page one
