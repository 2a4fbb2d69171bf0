-- What is on the halves of leaves.
use Rattle.std.proofs.Common.{arith, ◌≡◌, ℕ, zero, suc, ◌+◌, ◌-◌, ◌*◌, ◌/◌, false, List, [], ◌∷◌, ◌++◌, Option, None, length, map, refl, sym, ap, ◌∙◌}
use Rattle.std.specs.Prelude.{flat_map, if◌then◌else◌}
use Rattle.std.specs.List.{range_with_len}
use Rattle.std.proofs.lemmas.List.FromFn.{fill_by_all}
use Rattle.rules.specs.Specification.{Item}
use Rattle.rules.specs.Sheets.{Slot, blocks, place}
use Rattle.rules.specs.Signatures.{entry_of}
use Rattle.rules.specs.Rows.{Row}
use Rattle.rules.specs.Leaves.{Face, SheetsAreFaces, face_of, faces}

two_more : (f : ℕ) → 2 * suc f ≡ suc (suc (2 * f))
two_more f = omega arith

two_and_one : (f : ℕ) → 2 * suc f + 1 ≡ suc (suc (2 * f + 1))
two_and_one f = omega arith

pub left_of : (row : Row) (f : ℕ) → (face_of (faces row) f).left ≡ entry_of row (2 * f)
left_of [] f = refl
left_of (x ∷ []) zero = refl
left_of (x ∷ []) (suc f) = sym (ap (entry_of (x ∷ [])) (two_more f))
left_of (x ∷ y ∷ row) zero = refl
left_of (x ∷ y ∷ row) (suc f) = left_of row f ∙ sym (ap (entry_of (x ∷ y ∷ row)) (two_more f))

pub right_of : (row : Row) (f : ℕ) → (face_of (faces row) f).right ≡ entry_of row (2 * f + 1)
right_of [] f = refl
right_of (x ∷ []) zero = refl
right_of (x ∷ []) (suc f) = sym (ap (entry_of (x ∷ [])) (two_and_one f))
right_of (x ∷ y ∷ row) zero = refl
right_of (x ∷ y ∷ row) (suc f) = right_of row f ∙ sym (ap (entry_of (x ∷ y ∷ row)) (two_and_one f))

half_more : (n k : ℕ) → n ≡ (k + 1) / 2 → suc n ≡ (suc (suc k) + 1) / 2
half_more n k e = omega (arith, e)

pub faces_len : (row : Row) → length (faces row) ≡ blocks 2 (length row)
faces_len [] = refl
faces_len (x ∷ []) = refl
faces_len (x ∷ y ∷ row) = half_more (length (faces row)) (length row) (faces_len row)

-- ---- the sheets of two items
abbrev slot : Option ℕ → Item → Slot
slot page item = record { page = page; item = item }

abbrev on_face : (i k : Item) → Face → List Slot
on_face i k face = slot face.left i ∷ slot face.right k ∷ []

-- an item that counts from the start names this place
at_place : (n b : ℕ) (item : Item) (p : ℕ) → item.page ≡ p → item.from_end ≡ false → place 2 n b item ≡ b * 2 + p
at_place n b item p e f =
    ap (λ t. if t then 2 * blocks 2 n - (b + 1) * 2 + item.page else b * 2 + item.page) f ∙ ap (λ q. b * 2 + q) e

singles : {X : Type 0} (f : ℕ → List X) (g : ℕ → X) → ((b : ℕ) → f b ≡ g b ∷ []) → (bs : List ℕ) → flat_map f bs ≡ map g bs
singles f g h [] = refl
singles f g h (b ∷ bs) = ap (λ z. z ++ flat_map f bs) (h b) ∙ ap (λ z. g b ∷ z) (singles f g h bs)

maps_join : {X Y : Type 0} (f : ℕ → X) (g : X → Y) (bs : List ℕ) → map (λ b. g (f b)) bs ≡ map g (map f bs)
maps_join f g [] = refl
maps_join f g (b ∷ bs) = ap (λ z. g (f b) ∷ z) (maps_join f g bs)

pub sheets_are_faces : SheetsAreFaces
sheets_are_faces i k row i_page i_start k_page k_start =
    let n : ℕ = length row in
    let all : List Face = faces row in
    singles (λ b. (slot (entry_of row (place 2 n b i)) i ∷ slot (entry_of row (place 2 n b k)) k ∷ []) ∷ []) (λ b. on_face i k (face_of all b))
    (λ b. ap (λ z. z ∷ []) (one b)) (range_with_len 0 (blocks 2 n))
    ∙ maps_join (face_of all) (on_face i k) (range_with_len 0 (blocks 2 n))
    ∙ ap (map (on_face i k))
    (sym (fill_by_all (face_of all) all (blocks 2 n) (record { left = None; right = None }) (faces_len row) (λ f lt. refl)))
  where
    turned : (b p : ℕ) → b * 2 + p ≡ 2 * b + p
    turned b p = omega arith

    from_0 : (b : ℕ) → 2 * b + 0 ≡ 2 * b
    from_0 b = omega arith

    one : (b : ℕ) → slot (entry_of row (place 2 (length row) b i)) i ∷ slot (entry_of row (place 2 (length row) b k)) k ∷ []
        ≡ on_face i k (face_of (faces row) b)
    one b =
        ap (λ e. slot (entry_of row e) i ∷ slot (entry_of row (place 2 (length row) b k)) k ∷ []) (at_place (length row) b i 0 i_page i_start ∙ turned b 0 ∙ from_0 b)
        ∙ ap (λ e. slot (entry_of row (2 * b)) i ∷ slot (entry_of row e) k ∷ []) (at_place (length row) b k 1 k_page k_start ∙ turned b 1)
        ∙ ap (λ x. slot x i ∷ slot (entry_of row (2 * b + 1)) k ∷ []) (sym (left_of row b))
        ∙ ap (λ x. slot (face_of (faces row) b).left i ∷ slot x k ∷ []) (sym (right_of row b))
