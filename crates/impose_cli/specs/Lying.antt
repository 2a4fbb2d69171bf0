-- Pages that a specification places beside their sheets, or beyond an edge. All here is this project's own rules.
use Rattle.std.specs.Prelude.{ℕ, ◌*◌, ℤ, pos, nat_abs, nat_le, int_le, Bool, not, ◌&&◌, ◌||◌, if◌then◌else◌, List, [], ◌∷◌, Option, Some, None, option_and_then}
use Rattle.std.specs.Int.{int_max, int_min}
use Rattle.std.specs.Option.{option_or}
use Rattle.rules.specs.Made.{MadeSheet, MadeSlot, Blank, Placed}
use Rattle.rules.specs.Papers.{Paper}
use Rattle.rules.specs.Placement.{Point, moved, offset, turned}
use Rattle.rules.specs.Specification.{Item}
use Rattle.papers.specs.Reach.{is_beyond}
use Rattle.papers.specs.declared.boxes.Edges.{Edges}
use Rattle.row_runs.specs.Turning.{scaled_length}
use Rattle.impose_messages.specs.declared.finished.Lying.{Lying}

-- ---- where a page is placed

-- a side of a page at this scale, in grains
abbrev pub scaled_side : (scale side : ℤ) → ℤ
scaled_side scale side = pos (1_270_000 * scaled_length scale side)

-- where the corner of a page goes that is farthest from its own 0 0
abbrev pub far_corner : Paper → Item → Point
far_corner paper item = moved (offset paper item)
    (turned item.turn (record { x = scaled_side item.scale paper.width; y = scaled_side item.scale paper.height }))

-- the box with these two corners
abbrev pub box_between : (one other : Point) → Edges
box_between p q = record { left = int_min p.x q.x; bottom = int_min p.y q.y; right = int_max p.x q.x; top = int_max p.y q.y }

-- no length is greater
abbrev pub is_length : ℤ → Bool
is_length g = nat_le (nat_abs g) 100_000_000_000_000_000_000_000

-- the box between a corner and another, if this one isn't too far away
abbrev pub edges_to : (one far : Point) → Option Edges
edges_to p far = if is_length far.x && is_length far.y then Some (box_between p far) else None

abbrev pub placed_edges : Paper → Item → Option Edges
placed_edges paper item = edges_to (offset paper item) (far_corner paper item)

-- ---- and how it lies there

-- nothing of it is on its sheet
abbrev pub is_beside : (sheet : Paper) → Edges → Bool
is_beside sheet e = (int_le e.right (pos 0) || int_le e.top (pos 0)) || (int_le sheet.width e.left || int_le sheet.height e.bottom)

-- it is beside its sheet, or partly beyond an edge
abbrev pub lies_so : (wholly : Bool) → (sheet : Paper) → Edges → Bool
lies_so wholly sheet e = if wholly then is_beside sheet e else is_beyond sheet e && not (is_beside sheet e)

abbrev pub lying_at : (wholly : Bool) → (sheet : Paper) → (page : ℕ) → Edges → Option Lying
lying_at wholly sheet p e = if lies_so wholly sheet e then Some (record { page = p; edges = e; sheet = sheet }) else None

abbrev pub lying : (wholly : Bool) → (sheet : Paper) → MadeSlot → Option Lying
lying wholly sheet Blank = None
lying wholly sheet (Placed p item paper) = option_and_then (lying_at wholly sheet p) (placed_edges paper item)

-- the first of some things that has one
abbrev pub first_found : {X : Type 0} (find : X → Option Lying) → List X → Option Lying
first_found find [] = None
first_found find (x ∷ xs) = option_or (find x) (first_found find xs)

-- the first page that lies so on a sheet, and on any of these
abbrev pub lying_on : (wholly : Bool) → MadeSheet → Option Lying
lying_on wholly sheet = first_found (lying wholly sheet.paper) sheet.slots

abbrev pub lying_among : (wholly : Bool) → List MadeSheet → Option Lying
lying_among wholly all = first_found (lying_on wholly) all
