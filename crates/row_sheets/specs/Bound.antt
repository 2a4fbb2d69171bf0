-- How a booklet is read: its leaves are folded, put into one another and bound. All here is this project's own rules.
use Rattle.std.specs.Prelude.{◌≡◌, ℕ, ◌+◌, ◌*◌, Bool, not, if◌then◌else◌, List, [], ◌∷◌, map, flat_map, length, slice_index_or, Option, Some, None}
use Rattle.std.specs.List.{range_with_len}
use Rattle.rules.specs.Sheets.{blocks}
use Rattle.rules.specs.Signatures.{entry_of}
use Rattle.rules.specs.Leaves.{Face, read_signature}
use Rattle.rules.specs.Made.{MadeSlot, Blank, Placed, MadeSheet}
use Rattle.rules.specs.Rows.{Row, in_signatures}
use Rattle.row_sheets.specs.Filled.{Filling, is_turned}
use Rattle.row_sheets.specs.Creep.{creeping_sheets}
use Rattle.row_sheets.specs.Standing.{is_first_before}

-- the page of a slot
abbrev pub shown_in : MadeSlot → Option ℕ
shown_in Blank = None
shown_in (Placed page item paper) = Some page

abbrev pub face : (left right : Option ℕ) → Face
face left right = record { left = left; right = right }

-- what is before the fold, which lies lower on the sheet, is on the left as one holds the side for its pages to be
-- upright; on a side that is turned by half it is on the right. Whether the first slot of a side is on the left
abbrev pub is_first_left : (right_to_left by_half : Bool) → Bool
is_first_left right_to_left by_half =
    if by_half then not (is_first_before right_to_left by_half) else is_first_before right_to_left by_half

-- a side as a face, by the pages of its two slots
abbrev pub face_in : (first_is_left : Bool) → MadeSheet → Face
face_in first_is_left side =
    let first = shown_in (slice_index_or side.slots 0 Blank) in let second = shown_in (slice_index_or side.slots 1 Blank) in
    if first_is_left then face first second else face second first

-- the faces of these sides of leaves, the first of which is side s
abbrev pub faces_from : (right_to_left turned_backs : Bool) → (s : ℕ) → List MadeSheet → List Face
faces_from right_to_left turned_backs s [] = []
faces_from right_to_left turned_backs s (side ∷ made) =
    face_in (is_first_left right_to_left (is_turned turned_backs s)) side
    ∷ faces_from right_to_left turned_backs (s + 1) made

abbrev pub faces_on : (right_to_left turned_backs : Bool) → List MadeSheet → List Face
faces_on right_to_left turned_backs made = faces_from right_to_left turned_backs 0 made

-- a booklet that is bound at the right is read as one that is bound at the left is read in a mirror
abbrev pub as_bound : (right_to_left : Bool) → Face → Face
as_bound right_to_left side = if right_to_left then face side.right side.left else side

abbrev pub read_bound : (right_to_left : Bool) → (leaves : ℕ) → List Face → (signature : ℕ) → Row
read_bound right_to_left leaves all signature = read_signature leaves (map (as_bound right_to_left) all) signature

-- a row that is put into signatures of m leaves, and on the sides of a booklet's leaves, is read in its order: leaf by leaf,
-- signature by signature, whichever way it is bound, whether backs are turned, and however far leaves creep. After its end
-- are the blanks that fill up the last signature: a law (RULES, 14.1)
abbrev pub BookletIsRead : Type 0
BookletIsRead = (f : Filling) (turned_backs : Bool) (creep m : ℕ) (row : Row) →
    (let right_to_left = f.setting.order.right_to_left in
    let made = creeping_sheets f turned_backs creep m (in_signatures (m * 4) row) in
    let signatures = blocks (m * 4) (length row) in
    flat_map (read_bound right_to_left m (faces_on right_to_left turned_backs made)) (range_with_len 0 signatures)
    ≡ map (entry_of row) (range_with_len 0 (signatures * (m * 4))))
