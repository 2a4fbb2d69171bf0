-- A text has the meaning of at most one specification.
use Rattle.std.proofs.Common.{arith, ◌≡◌, ℕ, suc, ◌+◌, List, [], ◌∷◌, ◌++◌, Bool, true, false, not, ◌||◌, ◌&&◌, refl, sym, subst, true≢false, ◌∙◌, ap, append_assoc, append-nil, inl, inr, length}
use Rattle.std.specs.Prelude.{ℤ, ◌==◌, ◌⊎◌, if◌then◌else◌, ◌<◌}
use Rattle.std.specs.Char.{is_ascii_digit}
use Rattle.rules.specs.Bytes.{opening_parenthesis, closing_parenthesis, comma}
use Rattle.rules.specs.Papers.{LengthUnit, Pt, Cm, Mm, In, Width, Height}
use Rattle.rules.specs.Specification.{Measure, Modifier, Quarters, Scaled, Moved, unit_name, IsMeasure, IsTurn, IsModifier, AreModifiers}
use Rattle.rules.proofs.OneValue.{same_tail, same_head}
use Rattle.rules.proofs.OneNumber.{ends_number, one_number}

-- a unit as it may be written
abbrev IsUnit : List ℕ → LengthUnit → Type 0
IsUnit text u = (text ≡ unit_name u) ⊎ ((text ≡ []) × (u ≡ Pt))

-- what follows a measure
abbrev EndsMeasure : List ℕ → Type 0
EndsMeasure r = (b : ℕ) × (rest : List ℕ) × (r ≡ b ∷ rest) × ((b ≡ 44) ⊎ (b ≡ 41))

-- the unit that these bytes begin with, and its length
abbrev unit_read : List ℕ → LengthUnit
unit_read [] = Pt
unit_read (b ∷ bs) = if b == 99 then Cm else (if b == 109 then Mm else (if b == 105 then In else (if b == 119 then Width else (if b == 104 then Height else Pt))))

abbrev unit_len : List ℕ → ℕ
unit_len [] = 0
unit_len (b ∷ bs) = if b == 112 then 2 else (if b == 99 then 2 else (if b == 109 then 2 else (if b == 105 then 2 else (if b == 119 then 1 else (if b == 104 then 1 else 0)))))

pub record UnitTold (text : List ℕ) (u : LengthUnit) (r : List ℕ) : Type 0 where
  pub unit : unit_read (text ++ r) ≡ u
  pub len : unit_len (text ++ r) ≡ length text
  pub ends : ends_number (text ++ r) ≡ true

unit_named : (u : LengthUnit) (r : List ℕ) → UnitTold (unit_name u) u r
unit_named Pt r = record { unit = refl; len = refl; ends = refl }
unit_named Cm r = record { unit = refl; len = refl; ends = refl }
unit_named Mm r = record { unit = refl; len = refl; ends = refl }
unit_named In r = record { unit = refl; len = refl; ends = refl }
unit_named Width r = record { unit = refl; len = refl; ends = refl }
unit_named Height r = record { unit = refl; len = refl; ends = refl }

unit_left_out : (r : List ℕ) → EndsMeasure r → UnitTold [] Pt r
unit_left_out r (b, rest, e, inl f) = record { unit = rw e (rw f refl); len = rw e (rw f refl); ends = rw e (rw f refl) }
unit_left_out r (b, rest, e, inr f) = record { unit = rw e (rw f refl); len = rw e (rw f refl); ends = rw e (rw f refl) }

unit_told : (text : List ℕ) (u : LengthUnit) (r : List ℕ) → IsUnit text u → EndsMeasure r → UnitTold text u r
unit_told text u r (inl e) f = subst (λ z. UnitTold z u r) (sym e) (unit_named u r)
unit_told text u r (inr (e, g)) f = subst (λ z. UnitTold z u r) (sym e) (subst (λ z. UnitTold [] z r) (sym g) (unit_left_out r f))

nothing_long : (n : ℕ) → 0 ≡ suc n → ⊥
nothing_long n e = omega (arith, e)

same_length : (m n : ℕ) → suc m ≡ suc n → m ≡ n
same_length m n e = omega (arith, e)

-- beginnings of the same length are the same
same_front : (xs ys p q : List ℕ) → length xs ≡ length ys → xs ++ p ≡ ys ++ q → p ≡ q
same_front [] [] p q l e = e
same_front [] (y ∷ ys) p q l e = absurd (nothing_long (length ys) l)
same_front (x ∷ xs) [] p q l e = absurd (nothing_long (length xs) (sym l))
same_front (x ∷ xs) (y ∷ ys) p q l e = same_front xs ys p q (same_length (length xs) (length ys) l) (same_tail x y _ _ e)

abbrev measure : ℤ → LengthUnit → Measure
measure number unit = record { number = number; unit = unit }

rw_measure : (v w : ℤ) (u k : LengthUnit) → v ≡ w → u ≡ k → measure v u ≡ measure w k
rw_measure v w u k e f = rw e (rw f refl)

same_measure : (a b : Measure) → a.number ≡ b.number → a.unit ≡ b.unit → a ≡ b
same_measure a b e f = rw_measure a.number b.number a.unit b.unit e f

-- a measure and what follows it are determined
one_measure : (t u r q : List ℕ) (a b : Measure) → IsMeasure t a → IsMeasure u b → EndsMeasure r → EndsMeasure q → t ++ r ≡ u ++ q → (a ≡ b) × (r ≡ q)
one_measure t u r q a b (n, s, e, num, un) (n', s', e', num', un') er eq f =
    let told = unit_told s a.unit r un er in
    let told' = unit_told s' b.unit q un' eq in
    let g = one_number n n' (s ++ r) (s' ++ q) a.number b.number num num' told.ends told'.ends
    (sym (append_assoc n s r) ∙ (ap (λ z. z ++ r) (sym e) ∙ (f ∙ (ap (λ z. z ++ q) e' ∙ append_assoc n' s' q)))) in
    (same_measure a b g.1 (sym told.unit ∙ (ap unit_read g.2 ∙ told'.unit)), same_front s s' r q (sym told.len ∙ (ap unit_len g.2 ∙ told'.len)) g.2)

-- what a modifier is, by its first byte: the quarters of a letter, 4 for a scale, 5 for an offset, 0 for no modifier
abbrev modifier_kind : ℕ → ℕ
modifier_kind b =
    if b == 76 then 1 else (if b == 108 then 1 else (if b == 85 then 2 else (if b == 117 then 2 else (if b == 82 then 3 else (if b == 114 then 3 else (if b == 64 then 4 else (if b == 40 then 5 else 0)))))))

abbrev kind_of : Modifier → ℕ
kind_of (Quarters n) = n
kind_of (Scaled v) = 4
kind_of (Moved x y) = 5

-- a byte that may follow an item
abbrev follows_item : ℕ → Bool
follows_item b = (b == 43) || (b == 44)

pub record ModifierTold (text : List ℕ) (m : Modifier) : Type 0 where
  pub first : ℕ
  pub more : List ℕ
  pub parts : text ≡ first ∷ more
  pub kind : modifier_kind first ≡ kind_of m
  pub ends : ends_number (first ∷ []) ≡ true
  pub apart : follows_item first ≡ false
  pub no_colon : (first == 58) ≡ false
  pub no_minus : (first == 45) ≡ false
  pub no_digit : is_ascii_digit first ≡ false

letter_told : (b n : ℕ) (text : List ℕ) → text ≡ b ∷ [] → modifier_kind b ≡ n → ends_number (b ∷ []) ≡ true → follows_item b ≡ false → (b == 58) ≡ false → (b == 45) ≡ false → is_ascii_digit b ≡ false → ModifierTold text (Quarters n)
letter_told b n text e k u f c m d = record { first = b; more = []; parts = e; kind = k; ends = u; apart = f; no_colon = c; no_minus = m; no_digit = d }

turn_told : (text : List ℕ) (n : ℕ) → IsTurn text n → ModifierTold text (Quarters n)
turn_told text n (inl (e, inl f)) = letter_told 76 n text f (sym e) refl refl refl refl refl
turn_told text n (inl (e, inr f)) = letter_told 108 n text f (sym e) refl refl refl refl refl
turn_told text n (inr (inl (e, inl f))) = letter_told 85 n text f (sym e) refl refl refl refl refl
turn_told text n (inr (inl (e, inr f))) = letter_told 117 n text f (sym e) refl refl refl refl refl
turn_told text n (inr (inr (e, inl f))) = letter_told 82 n text f (sym e) refl refl refl refl refl
turn_told text n (inr (inr (e, inr f))) = letter_told 114 n text f (sym e) refl refl refl refl refl

-- a turn is one letter
turn_len : (text : List ℕ) (n : ℕ) → IsTurn text n → length text ≡ 1
turn_len text n (inl (e, inl f)) = rw f refl
turn_len text n (inl (e, inr f)) = rw f refl
turn_len text n (inr (inl (e, inl f))) = rw f refl
turn_len text n (inr (inl (e, inr f))) = rw f refl
turn_len text n (inr (inr (e, inl f))) = rw f refl
turn_len text n (inr (inr (e, inr f))) = rw f refl

turn_small : (text : List ℕ) (n : ℕ) → IsTurn text n → n < 4
turn_small text n (inl (e, f)) = omega (arith, e)
turn_small text n (inr (inl (e, f))) = omega (arith, e)
turn_small text n (inr (inr (e, f))) = omega (arith, e)

moved_text : (first second : List ℕ) → List ℕ
moved_text first second = opening_parenthesis ∷ first ++ comma ∷ second ++ closing_parenthesis ∷ []

moved_parts : (first second r : List ℕ) → moved_text first second ++ r ≡ 40 ∷ (first ++ (44 ∷ (second ++ (41 ∷ r))))
unfolding moved_text
moved_parts first second r = grind (arith, append_assoc)

moved_first : (text first second : List ℕ) → text ≡ moved_text first second → text ≡ 40 ∷ (first ++ (44 ∷ (second ++ (41 ∷ []))))
moved_first text first second e = e ∙ (sym (append-nil (moved_text first second)) ∙ moved_parts first second [])

pub modifier_told : (text : List ℕ) (m : Modifier) → IsModifier text m → ModifierTold text m
unfolding moved_text
modifier_told text (Quarters n) h = turn_told text n h
modifier_told text (Scaled v) (number, e, h) = record { first = 64; more = number; parts = e; kind = refl; ends = refl; apart = refl; no_colon = refl; no_minus = refl; no_digit = refl }
modifier_told text (Moved x y) (first, second, e, h, k) = record { first = 40; more = _; parts = moved_first text first second e; kind = refl; ends = refl; apart = refl; no_colon = refl; no_minus = refl; no_digit = refl }

same_moved : (x v y w : Measure) → x ≡ v → y ≡ w → Moved x y ≡ Moved v w
same_moved x v y w e f = cc

same_modifiers : (m k : Modifier) (ms ks : List Modifier) → m ≡ k → ms ≡ ks → m ∷ ms ≡ k ∷ ks
same_modifiers m k ms ks e f = cc

-- two modifiers at the same place have the same kind
same_kind : (t u r q : List ℕ) (m k : Modifier) → IsModifier t m → IsModifier u k → t ++ r ≡ u ++ q → kind_of m ≡ kind_of k
same_kind t u r q m k h g e =
    let a = modifier_told t m h in
    let b = modifier_told u k g in
    sym a.kind ∙ (ap modifier_kind (same_head a.first b.first (a.more ++ r) (b.more ++ q) (sym (ap (λ z. z ++ r) a.parts) ∙ (e ∙ ap (λ z. z ++ q) b.parts))) ∙ b.kind)

too_small : (n k : ℕ) → n < 4 → n ≡ k + 4 → ⊥
too_small n k l e = omega (arith, l, e)

abbrev kind_is_four : ℕ → Type 0
kind_is_four b = 4 ≡ b

apart_kinds : kind_is_four 5 → ⊥
apart_kinds e = omega (arith, e)

-- a modifier and what follows it are determined, if that begins with neither a digit nor a dot
one_modifier : (t u r q : List ℕ) (m k : Modifier) → IsModifier t m → IsModifier u k → ends_number r ≡ true → ends_number q ≡ true → t ++ r ≡ u ++ q → (m ≡ k) × (r ≡ q)
unfolding moved_text
one_modifier t u r q (Quarters n) (Quarters l) h g er eq e =
    (ap Quarters (same_kind t u r q (Quarters n) (Quarters l) h g e), same_front t u r q (turn_len t n h ∙ sym (turn_len u l g)) e)
one_modifier t u r q (Quarters n) (Scaled v) h g er eq e = absurd (too_small n 0 (turn_small t n h) (same_kind t u r q (Quarters n) (Scaled v) h g e))
one_modifier t u r q (Quarters n) (Moved x y) h g er eq e = absurd (too_small n 1 (turn_small t n h) (same_kind t u r q (Quarters n) (Moved x y) h g e))
one_modifier t u r q (Scaled v) (Quarters n) h g er eq e = absurd (too_small n 0 (turn_small u n g) (sym (same_kind t u r q (Scaled v) (Quarters n) h g e)))
one_modifier t u r q (Moved x y) (Quarters n) h g er eq e = absurd (too_small n 1 (turn_small u n g) (sym (same_kind t u r q (Moved x y) (Quarters n) h g e)))
one_modifier t u r q (Scaled v) (Moved x y) h g er eq e = absurd (apart_kinds (same_kind t u r q (Scaled v) (Moved x y) h g e))
one_modifier t u r q (Moved x y) (Scaled v) h g er eq e = absurd (apart_kinds (sym (same_kind t u r q (Moved x y) (Scaled v) h g e)))
one_modifier t u r q (Scaled v) (Scaled w) (n, e, h) (n', e', h') er eq f =
    let g = one_number n n' r q v w h h' er eq (same_tail 64 64 (n ++ r) (n' ++ q) (sym (ap (λ z. z ++ r) e) ∙ (f ∙ ap (λ z. z ++ q) e'))) in
    (ap Scaled g.1, g.2)
one_modifier t u r q (Moved x y) (Moved v w) (a, b, e, h, k) (a', b', e', h', k') er eq f =
    let whole = sym (moved_parts a b r) ∙ (sym (ap (λ z. z ++ r) e) ∙ (f ∙ (ap (λ z. z ++ q) e' ∙ moved_parts a' b' q))) in
    let one = one_measure a a' (44 ∷ (b ++ (41 ∷ r))) (44 ∷ (b' ++ (41 ∷ q))) x v h h' (44, b ++ (41 ∷ r), refl, inl refl) (44, b' ++ (41 ∷ q), refl, inl refl) (same_tail 40 40 _ _ whole) in
    let two = one_measure b b' (41 ∷ r) (41 ∷ q) y w k k' (41, r, refl, inr refl) (41, q, refl, inr refl) (same_tail 44 44 _ _ one.1) in
    (same_moved x v y w one.0 two.0, same_tail 41 41 r q two.1)

-- what follows an item: nothing, or a separator
abbrev pub ends_item : List ℕ → Bool
ends_item [] = true
ends_item (b ∷ bs) = follows_item b

follower_ends : (b : ℕ) → follows_item b ≡ true → not (is_ascii_digit b) && not (b == 46) ≡ true
follower_ends b e = grind arith

item_end_ends : (r : List ℕ) → ends_item r ≡ true → ends_number r ≡ true
item_end_ends [] e = refl
item_end_ends (b ∷ r) e = follower_ends b e

-- what follows the digits of an item's number, or a modifier, begins with neither a digit nor a dot
pub modifiers_end : (t r : List ℕ) (ms : List Modifier) → AreModifiers t ms → ends_item r ≡ true → ends_number (t ++ r) ≡ true
modifiers_end t r [] e u = subst (λ z. ends_number (z ++ r) ≡ true) (sym e) (item_end_ends r u)
modifiers_end t r (m ∷ ms) (front, rest, e, h, g) u =
    let a = modifier_told front m h in
    subst (λ z. ends_number (z ++ r) ≡ true) (sym e) (subst (λ z. ends_number (z ++ rest ++ r) ≡ true) (sym a.parts) a.ends)

-- no modifier ends an item
no_modifier : (r t q : List ℕ) (m : Modifier) → ends_item r ≡ true → IsModifier t m → r ≡ t ++ q → ⊥
no_modifier r t q m u h e =
    let a = modifier_told t m h in
    true≢false (sym (subst (λ z. ends_item z ≡ true) (e ∙ ap (λ z. z ++ q) a.parts) u) ∙ a.apart)

-- the modifiers of an item and what follows it are determined
pub one_row : (t u r q : List ℕ) (ms ks : List Modifier) → AreModifiers t ms → AreModifiers u ks → ends_item r ≡ true → ends_item q ≡ true → t ++ r ≡ u ++ q → (ms ≡ ks) × (r ≡ q)
one_row t u r q [] [] a b er eq e = (refl, sym (ap (λ z. z ++ r) a) ∙ (e ∙ ap (λ z. z ++ q) b))
one_row t u r q [] (k ∷ ks) a (front, rest, b, h, g) er eq e =
    absurd (no_modifier r front (rest ++ q) k er h (sym (ap (λ z. z ++ r) a) ∙ (e ∙ (ap (λ z. z ++ q) b ∙ append_assoc front rest q))))
one_row t u r q (m ∷ ms) [] (front, rest, a, h, g) b er eq e =
    absurd (no_modifier q front (rest ++ r) m eq h (sym (ap (λ z. z ++ q) b) ∙ (sym e ∙ (ap (λ z. z ++ r) a ∙ append_assoc front rest r))))
one_row t u r q (m ∷ ms) (k ∷ ks) (front, rest, a, h, g) (front', rest', b, h', g') er eq e =
    let one = one_modifier front front' (rest ++ r) (rest' ++ q) m k h h' (modifiers_end rest r ms g er) (modifiers_end rest' q ks g' eq)
    (sym (ap (λ z. z ++ r) a ∙ append_assoc front rest r) ∙ (e ∙ (ap (λ z. z ++ q) b ∙ append_assoc front' rest' q))) in
    let more = one_row rest rest' r q ms ks g g' er eq one.1 in
    (same_modifiers m k ms ks one.0 more.0, more.1)
