-- Leaves: sheets of paper that are printed on both sides, folded in the middle and put into one another. These are
-- rules of this project.
use Rattle.std.specs.Prelude.{◌≡◌, ℕ, zero, suc, ◌+◌, ◌*◌, false, List, [], ◌∷◌, ◌++◌, length, map, flat_map, Option, None}
use Rattle.std.specs.Prelude.{slice_index_or}
use Rattle.std.specs.List.{range_with_len}
use Rattle.rules.specs.Specification.{Item}
use Rattle.rules.specs.Sheets.{blocks}
use Rattle.rules.specs.Signatures.{page_in_signature, entry_of}
use Rattle.rules.specs.Rows.{Row, in_signatures, sheets_of_row}

-- one side of a leaf, held with the fold upright: the entries on its left and on its right half
pub record Face : Type 0 where
  pub left : Option ℕ
  pub right : Option ℕ

-- a row on faces, two entries on each. The last one may have a blank
abbrev pub faces : Row → List Face
faces [] = []
faces (x ∷ []) = record { left = x; right = None } ∷ []
faces (x ∷ y ∷ row) = record { left = x; right = y } ∷ faces row

-- face f; after the last one all is blank
abbrev pub face_of : List Face → (f : ℕ) → Face
face_of all f = slice_index_or all f (record { left = None; right = None })

-- a law: if a specification puts two entries on a sheet, one item on the left half and one on the right, its sheets
-- are the faces
abbrev pub SheetsAreFaces : Type 0
SheetsAreFaces = (i k : Item) (row : Row)
    → i.page ≡ 0 → i.from_end ≡ false → k.page ≡ 1 → k.from_end ≡ false
    → sheets_of_row (record { modulo = 2; groups = (i ∷ k ∷ []) ∷ [] }) row
    ≡ map (λ face. record { page = face.left; item = i } ∷ record { page = face.right; item = k } ∷ []) (faces row)

-- the leaves from the innermost to the outermost, which is leaf 0
abbrev pub outwards : (leaves : ℕ) → List ℕ
outwards zero = []
outwards (suc j) = j ∷ outwards j

-- leaf j has face 2j on its front and face 2j + 1 on its back. On the way in, the right half of the front is read,
-- and, after the leaf is turned, the left half of the back. On the way out, the right half of the back is read and
-- then the left half of the front
abbrev pub read_inwards : List Face → (leaf : ℕ) → Row
read_inwards all j = (face_of all (2 * j)).right ∷ (face_of all (2 * j + 1)).left ∷ []

abbrev pub read_outwards : List Face → (leaf : ℕ) → Row
read_outwards all j = (face_of all (2 * j + 1)).right ∷ (face_of all (2 * j)).left ∷ []

-- signature b of m leaves as it is read: inwards through all leaves, and then outwards (RULES, 11.3)
abbrev pub read_signature : (leaves : ℕ) → List Face → (b : ℕ) → Row
read_signature m all b =
    flat_map (λ j. read_inwards all (b * m + j)) (range_with_len 0 m)
    ++ flat_map (λ j. read_outwards all (b * m + j)) (outwards m)

-- a law: a row that is put into signatures of m leaves and on faces, folded, and read signature by signature, is
-- read in its order. The blanks that fill up the last signature follow it
abbrev pub RowIsRead : Type 0
RowIsRead = (m : ℕ) (row : Row) →
    (let signatures = blocks (m * 4) (length row) in
    flat_map (read_signature m (faces (in_signatures (m * 4) row))) (range_with_len 0 signatures)
    ≡ map (entry_of row) (range_with_len 0 (signatures * (m * 4))))

-- the positions of a folded signature, in the order in which it is read. Leaf j has positions 4j (left) and 4j + 1
-- (right) on its front, and 4j + 2 and 4j + 3 on its back
abbrev pub reading : (leaves : ℕ) → List ℕ
reading m =
    flat_map (λ j. (j * 4 + 1) ∷ (j * 4 + 2) ∷ []) (range_with_len 0 m)
    ++ flat_map (λ j. (j * 4 + 3) ∷ (j * 4 + 0) ∷ []) (outwards m)

-- a law: so the pages of a signature are read in order
abbrev pub ReadInOrder : Type 0
ReadInOrder = (m : ℕ) → map (page_in_signature (m * 4)) (reading m) ≡ range_with_len 0 (m * 4)
