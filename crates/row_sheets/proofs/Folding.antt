-- A booklet is read in the order of its row.
use Rattle.std.proofs.Common.{arith, ◌≡◌, ◌∙◌, ℕ, suc, zero, ◌+◌, ◌*◌, Bool, true, false, List, [], ◌∷◌, length, map, Option, Some, None, refl, sym, ap}
use Rattle.std.specs.Prelude.{flat_map}
use Rattle.std.specs.List.{range_with_len}
use Rattle.std.proofs.lemmas.List.FromFn.{fill_by_all}
use Rattle.rules.specs.Sheets.{blocks}
use Rattle.rules.specs.Signatures.{entry_of}
use Rattle.rules.specs.Leaves.{Face, face_of, faces, read_signature}
use Rattle.rules.specs.Made.{MadeSlot, MadeSheet}
use Rattle.rules.specs.Rows.{Row, all_pages, in_signatures}
use Rattle.rules.proofs.Faces.{faces_len, left_of, right_of}
use Rattle.rules.proofs.Folded.{row_is_read}
use Rattle.row_sheets.specs.Filled.{Filling, grid_entry, is_turned}
use Rattle.row_sheets.specs.Creep.{creep_on, creeping_slot, creeping_sheets}
use Rattle.row_sheets.specs.Bound.{BookletIsRead, as_bound, face, face_in, faces_from, faces_on, is_first_left, shown_in}
use Rattle.row_sheets.proofs.Filling.{sheet}

-- ---- a side

shown_is : (f : Filling) (by_half : Bool) (k creep : ℕ) (entry : Option ℕ) → shown_in (creeping_slot f by_half k creep entry) ≡ entry
shown_is f by_half k creep None = refl
shown_is f by_half k creep (Some page) = refl

-- as its booklet is bound, the first slot is on the left
as_read : (b half : Bool) (side : MadeSheet) (one other : MadeSlot) → side.slots ≡ one ∷ other ∷ []
    → as_bound b (face_in (is_first_left b half) side) ≡ face (shown_in one) (shown_in other)
as_read false false side one other e = ap (λ s. as_bound false (face_in true (sheet side.paper s))) e
as_read false true side one other e = ap (λ s. as_bound false (face_in true (sheet side.paper s))) e
as_read true false side one other e = ap (λ s. as_bound true (face_in false (sheet side.paper s))) e
as_read true true side one other e = ap (λ s. as_bound true (face_in false (sheet side.paper s))) e

both : (x x' y y' : Option ℕ) → x ≡ x' → y ≡ y' → face x y ≡ face x' y'
both x x' y y' e e' = ap (λ z. face z y) e ∙ ap (face x') e'

-- side s of a booklet
abbrev side_on : Filling → (turned_backs : Bool) → (creep leaves : ℕ) → Row → (s : ℕ) → MadeSheet
side_on f turned_backs creep leaves laid s =
    sheet f.setting.room.paper (map (λ k. creeping_slot f (is_turned turned_backs s) k (creep_on creep leaves s) (grid_entry 2 laid s k)) (range_with_len 0 2))

twice_is : (s k : ℕ) → s * 2 + k ≡ 2 * s + k
twice_is s k = omega arith

first_at : (s : ℕ) → s * 2 + 0 ≡ 2 * s
first_at s = omega arith

side_read : (f : Filling) (turned_backs : Bool) (creep leaves : ℕ) (laid : Row) (s : ℕ) (b : Bool)
    → as_bound b (face_in (is_first_left b (is_turned turned_backs s)) (side_on f turned_backs creep leaves laid s)) ≡ face_of (faces laid) s
side_read f turned_backs creep leaves laid s b =
    let half = is_turned turned_backs s in
    let c = creep_on creep leaves s in
    let one = entry_of laid (s * 2 + 0) in
    let other = entry_of laid (s * 2 + 1) in
    as_read b half (side_on f turned_backs creep leaves laid s) (creeping_slot f half 0 c one) (creeping_slot f half 1 c other) refl
    ∙ both (shown_in (creeping_slot f half 0 c one)) (face_of (faces laid) s).left (shown_in (creeping_slot f half 1 c other)) (face_of (faces laid) s).right
    (shown_is f half 0 c one ∙ (ap (entry_of laid) (first_at s) ∙ sym (left_of laid s)))
    (shown_is f half 1 c other ∙ (ap (entry_of laid) (twice_is s 1) ∙ sym (right_of laid s)))

-- ---- all sides

sides_read : (b turned_backs : Bool) (side : ℕ → MadeSheet) (g : ℕ → Face) → ((s : ℕ) → as_bound b (face_in (is_first_left b (is_turned turned_backs s)) (side s)) ≡ g s)
    → (a n : ℕ) → map (as_bound b) (faces_from b turned_backs a (map side (range_with_len a n))) ≡ map g (range_with_len a n)
sides_read b turned_backs side g each a zero = refl
sides_read b turned_backs side g each a (suc n) =
    ap (λ z. z ∷ map (as_bound b) (faces_from b turned_backs (a + 1) (map side (range_with_len (a + 1) n)))) (each a)
    ∙ ap (λ z. g a ∷ z) (sides_read b turned_backs side g each (a + 1) n)

pub faces_read : (f : Filling) (turned_backs : Bool) (creep leaves : ℕ) (laid : Row) (b : Bool)
    → map (as_bound b) (faces_on b turned_backs (creeping_sheets f turned_backs creep leaves laid)) ≡ faces laid
faces_read f turned_backs creep leaves laid b =
    sides_read b turned_backs (side_on f turned_backs creep leaves laid) (face_of (faces laid)) (λ s. side_read f turned_backs creep leaves laid s b) 0 (blocks 2 (length laid))
    ∙ sym (fill_by_all (face_of (faces laid)) (faces laid) (blocks 2 (length laid)) (record { left = None; right = None }) (faces_len laid) (λ s less. refl))

pub booklet_is_read : BookletIsRead
booklet_is_read f turned_backs creep m row =
    let b = f.setting.order.right_to_left in
    ap (λ all. flat_map (read_signature m all) (range_with_len 0 (blocks (m * 4) (length row)))) (faces_read f turned_backs creep m (in_signatures (m * 4) row) b)
    ∙ row_is_read m row

-- ---- eight pages in one signature of two leaves

abbrev eight : Filling → (turned_backs : Bool) → List MadeSheet
eight f turned_backs = creeping_sheets f turned_backs 850_393 2 (in_signatures 8 (all_pages 8))
