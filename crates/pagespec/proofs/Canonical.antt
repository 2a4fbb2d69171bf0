-- A canonical text is read again: it has the items with the fewest modifiers.
use Rattle.std.proofs.Common.{arith, rules, ◌≡◌, ◌≢◌, ◌⊎◌, inl, inr, ℕ, suc, ◌+◌, ◌^◌, ◌<◌, List, [], ◌∷◌, ◌++◌, Bool, true, false, Option, Some, None, refl, sym, ap, subst, ◌∙◌, length, append_assoc, append-nil, cond}
use Rattle.std.specs.Prelude.{ℤ, pos, negsuc, nat_abs, int_le, nat_lt, nat_le, ◌||◌, ◌&&◌, ◌==◌, map, flat_map, position, decimal, if◌then◌else◌}
use Rattle.std.specs.List.{list_any, position_or_len}
use Rattle.std.proofs.lemmas.List.{length-map}
use Rattle.lengths.proofs.Digits.{by_test}
use Rattle.lengths.proofs.Numbers.{same_byte}
use Rattle.rules.specs.Numbers.{is_large, number_text, IsNumber}
use Rattle.rules.specs.Papers.{LengthUnit, Pt, Cm, Mm, In, Width, Height}
use Rattle.rules.specs.Specification.{Measure, Modifier, Quarters, Scaled, Moved, WrittenItem, WrittenSpec, Spec, Turn, Upright, Left, Half, Right, IsJoined, IsDigits, IsMeasure, IsModifier, AreModifiers, IsItem, AreGroups, IsSpec, minus_text, unit_name, unit_text, measure_text, turn_text, quarter_turn, quarters, scale, offset_x, offset_y, zero_points, scale_part, is_one, offset_part, is_points, is_zero_points, item_text, joined_by, settled_item, settled, canonical}
use Rattle.rules.specs.Admissible.{Fault, TooLarge, ModuloZero, PageOutOfBlock, ScaleZero, Repeated, TooManySlots, TooManyGroups, items, fault_of, else_first, only_if, at_lowest, any_too_large, has_large, is_flat, repeats, Takes, most_slots, most_groups}
use Rattle.rules.proofs.Digits.{Writes, decimal_writes}
use Rattle.rules.proofs.Printed.{number_text_is_number}
use Rattle.pagespec.specs.Items.{group_text, groups_text}
use Rattle.pagespec.specs.Groups.{IsGroup}
use Rattle.pagespec.proofs.Faults.{no_fault, neither}
use Rattle.pagespec.proofs.Settling.{same_item, map_row}
use Rattle.pagespec.proofs.NumberLengths.{small_abs}
use Rattle.pagespec.proofs.Short.{either, large_item, scale_small, offset_small, any_row, page_small, short_enough}

abbrev pub turn_modifiers : Turn → List Modifier
turn_modifiers Upright = []
turn_modifiers Left = Quarters 1 ∷ []
turn_modifiers Half = Quarters 2 ∷ []
turn_modifiers Right = Quarters 3 ∷ []

abbrev pub scale_modifiers : Bool → ℤ → List Modifier
scale_modifiers one v = if one then [] else Scaled v ∷ []

abbrev pub offset_modifiers : Bool → Measure → Measure → List Modifier
offset_modifiers none x y = if none then [] else Moved x y ∷ []

abbrev pub few : Turn → (one none : Bool) → ℤ → Measure → Measure → List Modifier
few t one none v x y = turn_modifiers t ++ (scale_modifiers one v ++ offset_modifiers none x y)

abbrev pub fewest : Turn → ℤ → Measure → Measure → List Modifier
fewest t v x y = few t (is_one v) (is_zero_points x && is_zero_points y) v x y

abbrev normal_item : WrittenItem → WrittenItem
normal_item i = record { from_end = i.from_end; page = i.page; modifiers = fewest (quarter_turn (quarters i.modifiers)) (scale i.modifiers) (offset_x i.modifiers) (offset_y i.modifiers) }

abbrev normal : WrittenSpec → WrittenSpec
normal spec = record { modulo = spec.modulo; groups = map (λ g. map normal_item g) spec.groups }

-- the grammar

pub are_append : (ms ns : List Modifier) (t u : List ℕ) → AreModifiers t ms → AreModifiers u ns → AreModifiers (t ++ u) (ms ++ ns)
are_append [] ns t u e are = subst (λ x. AreModifiers (x ++ u) ns) (sym e) are
are_append (m ∷ ms) ns t u (front, rest, e, is, more) are = (front, rest ++ u, ap (λ x. x ++ u) e ∙ append_assoc front rest u, is, are_append ms ns rest u more are)

one_modifier : (t : List ℕ) (m : Modifier) → IsModifier t m → AreModifiers t (m ∷ [])
one_modifier t m is = (t, [], sym (append-nil t), is, refl)

pub turn_written : (t : Turn) → AreModifiers (turn_text t) (turn_modifiers t)
turn_written Upright = refl
turn_written Left = one_modifier (76 ∷ []) (Quarters 1) (inl (refl, inl refl))
turn_written Half = one_modifier (85 ∷ []) (Quarters 2) (inr (inl (refl, inl refl)))
turn_written Right = one_modifier (82 ∷ []) (Quarters 3) (inr (inr (refl, inl refl)))

number_is : (v : ℤ) → is_large v ≡ false → IsNumber (number_text v) v
number_is v small = number_text_is_number v (omega (arith, small_abs v small))

pub scale_written : (v : ℤ) (b : Bool) → is_large v ≡ false → AreModifiers (if b then [] else 64 ∷ number_text v) (scale_modifiers b v)
scale_written v true small = refl
scale_written v false small = one_modifier (64 ∷ number_text v) (Scaled v) (number_text v, refl, number_is v small)

unit_is : (u : LengthUnit) → (unit_text u ≡ unit_name u) ⊎ ((unit_text u ≡ []) × (u ≡ Pt))
unit_is Pt = inr (refl, refl)
unit_is Cm = inl refl
unit_is Mm = inl refl
unit_is In = inl refl
unit_is Width = inl refl
unit_is Height = inl refl

measure_is : (m : Measure) → is_large m.number ≡ false → IsMeasure (measure_text m) m
measure_is m small = (number_text m.number, unit_text m.unit, refl, number_is m.number small, unit_is m.unit)

pub offset_written : (x y : Measure) (b : Bool) → is_large x.number ≡ false → is_large y.number ≡ false
    → AreModifiers (if b then [] else 40 ∷ measure_text x ++ 44 ∷ measure_text y ++ 41 ∷ []) (offset_modifiers b x y)
offset_written x y true small_x small_y = refl
offset_written x y false small_x small_y =
    one_modifier (40 ∷ measure_text x ++ 44 ∷ measure_text y ++ 41 ∷ []) (Moved x y) (measure_text x, measure_text y, refl, measure_is x small_x, measure_is y small_y)

pub decimal_is : (n : ℕ) → n < 10 ^ 5 → IsDigits (decimal n) n
decimal_is n low = let w : Writes n (decimal n) = decimal_writes n (omega (arith, low)) in (w.pass, no_nil (decimal n) w.some, sym w.value)
  where
    no_nil : (xs : List ℕ) → 0 < length xs → xs ≢ []
    no_nil xs some e = absurd (omega (arith, some, ap length e))

item_written : (i : WrittenItem) → large_item i ≡ false → IsItem (item_text (settled_item i)) (normal_item i)
item_written i small =
    let (page, behind) = either (nat_lt 99_999 i.page) (list_any has_large i.modifiers) small in
    let (small_x, small_y) = offset_small i.modifiers behind in
    let t = quarter_turn (quarters i.modifiers) in
    let v = scale i.modifiers in
    let x = offset_x i.modifiers in
    let y = offset_y i.modifiers in
    let none = is_zero_points x && is_zero_points y in (
      decimal i.page,
      turn_text t ++ (scale_part v ++ offset_part x y),
      five (minus_text i.from_end) (decimal i.page) (turn_text t) (scale_part v) (offset_part x y),
      decimal_is i.page (page_small i.page page),
      are_append (turn_modifiers t) (scale_modifiers (is_one v) v ++ offset_modifiers none x y) (turn_text t) (scale_part v ++ offset_part x y) (turn_written t)
          (are_append (scale_modifiers (is_one v) v) (offset_modifiers none x y) (scale_part v) (offset_part x y) (scale_written v (is_one v) (scale_small i.modifiers behind)) (offset_written x y none small_x small_y)),
    )
  where
    five : (a b c d e : List ℕ) → a ++ b ++ c ++ d ++ e ≡ a ++ b ++ (c ++ (d ++ e))
    five a b c d e = append_assoc (a ++ b ++ c) d e ∙ append_assoc (a ++ b) c (d ++ e)

joined_written : {X Y : Type 0} (c : ℕ) (R S : List ℕ → X → Type 0) (f : Y → List ℕ) (g : X → Y) (h : X → X) (large : X → Bool)
    → ((t : List ℕ) (x : X) → R t x → large x ≡ false → S (f (g x)) (h x))
    → (xs : List X) (text : List ℕ) → IsJoined c R text xs → list_any large xs ≡ false → IsJoined c S (joined_by c (map f (map g xs))) (map h xs)
joined_written c R S f g h large part [] text joined small = absurd joined
joined_written c R S f g h large part (x ∷ []) text joined small = part text x joined (either (large x) false small).0
joined_written c R S f g h large part (x ∷ y ∷ xs) text (front, rest, e, is, joined) small =
    let (here, behind) = either (large x) (list_any large (y ∷ xs)) small in
    (f (g x), joined_by c (map f (map g (y ∷ xs))), refl, part front x is here, joined_written c R S f g h large part (y ∷ xs) rest joined behind)

group_written : (text : List ℕ) (g : List WrittenItem) → IsGroup text g → list_any large_item g ≡ false → IsGroup (group_text (map settled_item g)) (map normal_item g)
group_written text g joined small = joined_written 43 IsItem IsItem item_text settled_item normal_item large_item (λ t i is low. item_written i low) g text joined small

groups_written : (text : List ℕ) (gs : List (List WrittenItem)) → AreGroups text gs → list_any large_item (flat_map (λ g. g) gs) ≡ false
    → AreGroups (groups_text (map (λ g. map settled_item g) gs)) (map (λ g. map normal_item g) gs)
groups_written text gs (inl joined) small =
    inl (joined_written 44 IsGroup IsGroup group_text (λ g. map settled_item g) (λ g. map normal_item g) (λ g. list_any large_item g) group_written gs text joined (sym (any_row large_item gs) ∙ small))
groups_written text gs (inr (i, e, bare)) small =
    let here : list_any large_item (i ∷ []) ≡ false = sym (ap (λ x. list_any large_item (flat_map (λ g. g) x)) e) ∙ small in
    subst (λ x. AreGroups (groups_text (map (λ g. map settled_item g) x)) (map (λ g. map normal_item g) x)) (sym e) (inl (item_written i (either (large_item i) false here).0))

all_groups : (t : List ℕ) (spec : WrittenSpec) → IsSpec t spec → (text : List ℕ) × AreGroups text spec.groups
all_groups t spec (inl (one, are)) = (t, are)
all_groups t spec (inr (ds, rest, e, is, are)) = (rest, are)

spec_written : (t : List ℕ) (spec : WrittenSpec) → IsSpec t spec → fault_of most_slots spec ≡ None → IsSpec (canonical (settled spec)) (normal spec)
spec_written t spec is none =
    let (modulo, small) = neither (nat_lt 99_999 spec.modulo) (list_any large_item (items spec)) (no_fault spec none) in
    let (text, are) = all_groups t spec is in
    by_modulo (spec.modulo == 1) refl (page_small spec.modulo modulo) (groups_written text spec.groups are small)
  where
    by_modulo : (b : Bool) → (spec.modulo == 1) ≡ b → spec.modulo < 10 ^ 5 → AreGroups (groups_text (map (λ g. map settled_item g) spec.groups)) (normal spec).groups
        → IsSpec ((if b then [] else decimal spec.modulo ++ 58 ∷ []) ++ groups_text (map (λ g. map settled_item g) spec.groups)) (normal spec)
    by_modulo true e low are = inl (same_byte spec.modulo 1 e, are)
    by_modulo false e low are =
        inr (decimal spec.modulo, groups_text (map (λ g. map settled_item g) spec.groups), append_assoc (decimal spec.modulo) (58 ∷ []) (groups_text (map (λ g. map settled_item g) spec.groups)), decimal_is spec.modulo low, are)

-- their results

no_turn : (one none : Bool) (v : ℤ) (x y : Measure) → quarters (scale_modifiers one v ++ offset_modifiers none x y) ≡ 0
no_turn true true v x y = refl
no_turn true false v x y = refl
no_turn false true v x y = refl
no_turn false false v x y = refl

pub turn_back : (t : Turn) (one none : Bool) (v : ℤ) (x y : Measure) → quarter_turn (quarters (few t one none v x y)) ≡ t
turn_back Upright one none v x y = ap quarter_turn (no_turn one none v x y)
turn_back Left one none v x y = ap (λ n. quarter_turn (1 + n)) (no_turn one none v x y)
turn_back Half one none v x y = ap (λ n. quarter_turn (2 + n)) (no_turn one none v x y)
turn_back Right one none v x y = ap (λ n. quarter_turn (3 + n)) (no_turn one none v x y)

-- a turn has no scale and no offset
pub past_turn : {A : Type 0} (f : List Modifier → A) → ((n : ℕ) (ms : List Modifier) → f (Quarters n ∷ ms) ≡ f ms) → (t : Turn) (ms : List Modifier) → f (turn_modifiers t ++ ms) ≡ f ms
past_turn f same Upright ms = refl
past_turn f same Left ms = same 1 ms
past_turn f same Half ms = same 2 ms
past_turn f same Right ms = same 3 ms

one_is : (v : ℤ) → is_one v ≡ true → v ≡ pos 1_000_000_000
one_is (pos n) e = ap pos (same_byte n 1_000_000_000 e)
one_is (negsuc n) e = absurd (cc (e))

pub scale_here : (one none : Bool) (v : ℤ) (x y : Measure) → is_one v ≡ one → scale (scale_modifiers one v ++ offset_modifiers none x y) ≡ v
scale_here true true v x y e = sym (one_is v e)
scale_here true false v x y e = sym (one_is v e)
scale_here false none v x y e = refl

zero_is : (n : ℤ) → (nat_abs n == 0) ≡ true → n ≡ pos 0
zero_is (pos n) e = ap pos (same_byte n 0 e)
zero_is (negsuc n) e = absurd (omega (arith, same_byte (suc n) 0 e))

points_is : (u : LengthUnit) → is_points u ≡ true → u ≡ Pt
points_is Pt e = refl
points_is Cm e = absurd (cc (e))
points_is Mm e = absurd (cc (e))
points_is In e = absurd (cc (e))
points_is Width e = absurd (cc (e))
points_is Height e = absurd (cc (e))

both : (a b : Bool) → (a && b) ≡ true → (a ≡ true) × (b ≡ true)
both true b e = (refl, e)
both false b e = absurd (cc (e))

abbrev measure : ℤ → LengthUnit → Measure
measure n u = record { number = n; unit = u }

same_measure : (n k : ℤ) (u w : LengthUnit) → n ≡ k → u ≡ w → measure n u ≡ measure k w
same_measure n k u w e f = rw e (rw f refl)

measure_zero : (m : Measure) → is_zero_points m ≡ true → m ≡ zero_points
measure_zero m e =
    let (n, u) = both (nat_abs m.number == 0) (is_points m.unit) e in
    same_measure m.number (pos 0) m.unit Pt (zero_is m.number n) (points_is m.unit u)

pub offset_x_here : (one none : Bool) (v : ℤ) (x y : Measure) → (is_zero_points x && is_zero_points y) ≡ none → offset_x (scale_modifiers one v ++ offset_modifiers none x y) ≡ x
offset_x_here true true v x y e = sym (measure_zero x (both (is_zero_points x) (is_zero_points y) e).0)
offset_x_here false true v x y e = sym (measure_zero x (both (is_zero_points x) (is_zero_points y) e).0)
offset_x_here true false v x y e = refl
offset_x_here false false v x y e = refl

pub offset_y_here : (one none : Bool) (v : ℤ) (x y : Measure) → (is_zero_points x && is_zero_points y) ≡ none → offset_y (scale_modifiers one v ++ offset_modifiers none x y) ≡ y
offset_y_here true true v x y e = sym (measure_zero y (both (is_zero_points x) (is_zero_points y) e).1)
offset_y_here false true v x y e = sym (measure_zero y (both (is_zero_points x) (is_zero_points y) e).1)
offset_y_here true false v x y e = refl
offset_y_here false false v x y e = refl

item_back : (i : WrittenItem) → settled_item (normal_item i) ≡ settled_item i
item_back i =
    let t = quarter_turn (quarters i.modifiers) in
    let v = scale i.modifiers in
    let x = offset_x i.modifiers in
    let y = offset_y i.modifiers in
    let none = is_zero_points x && is_zero_points y in
    same_item _ _ _ _ _ _ _ _ _ _ _ _ refl refl (turn_back t (is_one v) none v x y)
    (past_turn scale (λ n ms. refl) t (scale_modifiers (is_one v) v ++ offset_modifiers none x y) ∙ scale_here (is_one v) none v x y refl)
    (past_turn offset_x (λ n ms. refl) t (scale_modifiers (is_one v) v ++ offset_modifiers none x y) ∙ offset_x_here (is_one v) none v x y refl)
    (past_turn offset_y (λ n ms. refl) t (scale_modifiers (is_one v) v ++ offset_modifiers none x y) ∙ offset_y_here (is_one v) none v x y refl)

group_back : (g : List WrittenItem) → map settled_item (map normal_item g) ≡ map settled_item g
group_back [] = refl
group_back (i ∷ g) = ap (λ x. x ∷ map settled_item (map normal_item g)) (item_back i) ∙ ap (λ xs. settled_item i ∷ xs) (group_back g)

groups_back : (gs : List (List WrittenItem)) → map (λ g. map settled_item g) (map (λ g. map normal_item g) gs) ≡ map (λ g. map settled_item g) gs
groups_back [] = refl
groups_back (g ∷ gs) =
    ap (λ x. x ∷ map (λ h. map settled_item h) (map (λ h. map normal_item h) gs)) (group_back g) ∙ ap (λ xs. map settled_item g ∷ xs) (groups_back gs)

pub spec_back : (spec : WrittenSpec) → settled (normal spec) ≡ settled spec
spec_back spec = ap (λ gs. record (settled spec) { groups = gs }) (groups_back spec.groups)

-- their faults

else_none : (a b : Option Fault) → else_first a b ≡ None → (a ≡ None) × (b ≡ None)
else_none None b e = (refl, e)
else_none (Some f) b e = absurd (cc (e))

pub none_else : (a b : Option Fault) → a ≡ None → b ≡ None → else_first a b ≡ None
none_else a b e f = rw e f

pub none_if : (b : Bool) (f : Fault) → b ≡ false → only_if b f ≡ None
none_if b f e = rw e refl

place_none : (o : Option ℕ) (f : ℕ → Fault) → at_lowest o f ≡ None → o ≡ None
place_none None f e = refl
place_none (Some i) f e = absurd (cc (e))

pub none_place : (o : Option ℕ) (f : ℕ → Fault) → o ≡ None → at_lowest o f ≡ None
none_place o f e = rw e refl

stop_found : {X : Type 0} (p : X → Bool) (xs : List X) → list_any p xs ≡ true → position_or_len p xs < length xs
stop_found p [] e = absurd (cc (e))
stop_found p (x ∷ xs) e = elim (by_test (p x)) [
  | inl h ↦ rw h (omega arith)
  | inr h ↦ rw h (omega (arith, stop_found p xs (sym (ap (λ b. b || list_any p xs) h) ∙ e)))
]

stop_missed : {X : Type 0} (p : X → Bool) (xs : List X) → list_any p xs ≡ false → position_or_len p xs ≡ length xs
stop_missed p [] e = refl
stop_missed p (x ∷ xs) e =
    let (here, behind) = either (p x) (list_any p xs) e in
    rw here (omega (arith, stop_missed p xs behind))

pub none_placed : {X : Type 0} (p : X → Bool) (xs : List X) → list_any p xs ≡ false → position p xs ≡ None
none_placed p xs e = by_less _ refl
  where
    by_less : (b : Bool) → nat_lt (position_or_len p xs) (length xs) ≡ b → cond b (Some (position_or_len p xs)) None ≡ None
    by_less true h = let less : position_or_len p xs < length xs = search (rules, h) in absurd (omega (arith, less, stop_missed p xs e))
    by_less false h = refl

placed_none : {X : Type 0} (p : X → Bool) (xs : List X) → position p xs ≡ None → list_any p xs ≡ false
placed_none p xs e = by_any _ refl
  where
    by_any : (b : Bool) → list_any p xs ≡ b → list_any p xs ≡ false
    by_any true h =
        let less : nat_lt (position_or_len p xs) (length xs) ≡ true = search (rules, stop_found p xs h) in
        let found : position p xs ≡ Some (position_or_len p xs) = ap (λ b. cond b (Some (position_or_len p xs)) None) less in
        absurd (cc (e, found))
    by_any false h = h

-- if a test fails on each, it fails on each that is made from them
any_made : {X Y : Type 0} (p : X → Bool) (q : Y → Bool) (f : X → Y) → ((x : X) → p x ≡ false → q (f x) ≡ false) → (xs : List X) → list_any p xs ≡ false → list_any q (map f xs) ≡ false
any_made p q f same [] e = refl
any_made p q f same (x ∷ xs) e =
    let (here, behind) = either (p x) (list_any p xs) e in
    ap (λ b. b || list_any q (map f xs)) (same x here) ∙ any_made p q f same xs behind

items_made : (p : WrittenItem → Bool) → ((i : WrittenItem) → p i ≡ false → p (normal_item i) ≡ false) → (spec : WrittenSpec) → list_any p (items spec) ≡ false → list_any p (items (normal spec)) ≡ false
items_made p same spec e = ap (list_any p) (sym (map_row normal_item spec.groups)) ∙ any_made p p normal_item same (items spec) e

past_turn_any : (p : Modifier → Bool) → ((n : ℕ) → p (Quarters n) ≡ false) → (t : Turn) (ms : List Modifier) → list_any p (turn_modifiers t ++ ms) ≡ list_any p ms
past_turn_any p clear t ms = past_turn (list_any p) (λ n ms. ap (λ b. b || list_any p ms) (clear n)) t ms

pub any_few : (p : Modifier → Bool) → ((n : ℕ) → p (Quarters n) ≡ false) → (t : Turn) (one none : Bool) (v : ℤ) (x y : Measure) → p (Scaled v) ≡ false → p (Moved x y) ≡ false
    → list_any p (few t one none v x y) ≡ false
any_few p clear t one none v x y scaled moved = past_turn_any p clear t (scale_modifiers one v ++ offset_modifiers none x y) ∙ rest one none
  where
    rest : (one none : Bool) → list_any p (scale_modifiers one v ++ offset_modifiers none x y) ≡ false
    rest true true = refl
    rest true false = ap (λ b. b || false) moved
    rest false true = ap (λ b. b || false) scaled
    rest false false = ap (λ b. b || (p (Moved x y) || false)) scaled ∙ ap (λ b. b || false) moved

pub neither_is : (a b : Bool) → a ≡ false → b ≡ false → (a || b) ≡ false
neither_is a b e f = rw e f

large_normal : (i : WrittenItem) → large_item i ≡ false → large_item (normal_item i) ≡ false
large_normal i small =
    let (page, behind) = either (nat_lt 99_999 i.page) (list_any has_large i.modifiers) small in
    let (small_x, small_y) = offset_small i.modifiers behind in
    neither_is (nat_lt 99_999 i.page) _ page
    (any_few has_large (λ n. refl) (quarter_turn (quarters i.modifiers)) (is_one (scale i.modifiers)) (is_zero_points (offset_x i.modifiers) && is_zero_points (offset_y i.modifiers)) (scale i.modifiers) (offset_x i.modifiers) (offset_y i.modifiers)
    (scale_small i.modifiers behind) (neither_is (is_large (offset_x i.modifiers).number) (is_large (offset_y i.modifiers).number) small_x small_y))

scale_above : (ms : List Modifier) → list_any is_flat ms ≡ false → int_le (scale ms) (pos 0) ≡ false
scale_above [] e = refl
scale_above (Quarters n ∷ ms) e = scale_above ms e
scale_above (Scaled v ∷ ms) e = (either (int_le v (pos 0)) (list_any is_flat ms) e).0
scale_above (Moved x y ∷ ms) e = scale_above ms e

flat_normal : (i : WrittenItem) → list_any is_flat i.modifiers ≡ false → list_any is_flat (normal_item i).modifiers ≡ false
flat_normal i e =
    any_few is_flat (λ n. refl) (quarter_turn (quarters i.modifiers)) (is_one (scale i.modifiers)) (is_zero_points (offset_x i.modifiers) && is_zero_points (offset_y i.modifiers)) (scale i.modifiers) (offset_x i.modifiers) (offset_y i.modifiers)
    (scale_above i.modifiers e) refl

abbrev pub repeat : List Modifier → Bool
repeat ms = repeats (record { from_end = false; page = 0; modifiers = ms })

pub repeat_few : (t : Turn) (one none : Bool) (v : ℤ) (x y : Measure) → repeat (few t one none v x y) ≡ false
repeat_few t one none v x y = past_turn repeat (λ n ms. refl) t (scale_modifiers one v ++ offset_modifiers none x y) ∙ rest one none
  where
    rest : (one none : Bool) → repeat (scale_modifiers one v ++ offset_modifiers none x y) ≡ false
    rest true true = refl
    rest true false = refl
    rest false true = refl
    rest false false = refl

repeat_normal : (i : WrittenItem) → repeats i ≡ false → repeats (normal_item i) ≡ false
repeat_normal i e =
    repeat_few (quarter_turn (quarters i.modifiers)) (is_one (scale i.modifiers)) (is_zero_points (offset_x i.modifiers) && is_zero_points (offset_y i.modifiers)) (scale i.modifiers) (offset_x i.modifiers) (offset_y i.modifiers)

long_made : (g : List WrittenItem) → nat_lt most_slots (length g) ≡ false → nat_lt most_slots (length (map normal_item g)) ≡ false
long_made g e = ap (nat_lt most_slots) (length-map g normal_item) ∙ e

check_same : {X Y : Type 0} (p : X → Bool) (q : Y → Bool) (xs : List X) (ys : List Y) (f : ℕ → Fault) → (list_any p xs ≡ false → list_any q ys ≡ false) → at_lowest (position p xs) f ≡ None → at_lowest (position q ys) f ≡ None
check_same p q xs ys f same e = none_place (position q ys) f (none_placed q ys (same (placed_none p xs (place_none (position p xs) f e))))

normal_faultless : (spec : WrittenSpec) → fault_of most_slots spec ≡ None → fault_of most_slots (normal spec) ≡ None
normal_faultless spec e =
    let (large, e1) = else_none (only_if (any_too_large spec) TooLarge) _ e in
    let (zero_, e2) = else_none (only_if (spec.modulo == 0) ModuloZero) _ e1 in
    let (pages, e3) = else_none (at_lowest (position (λ i. nat_le spec.modulo i.page) (items spec)) PageOutOfBlock) _ e2 in
    let (flats, e4) = else_none (at_lowest (position (λ i. list_any is_flat i.modifiers) (items spec)) ScaleZero) _ e3 in
    let (again, e5) = else_none (at_lowest (position repeats (items spec)) Repeated) _ e4 in
    let (slots, groups) = else_none (at_lowest (position (λ g. nat_lt most_slots (length g)) spec.groups) TooManySlots) _ e5 in
    let (modulo, small) = neither (nat_lt 99_999 spec.modulo) (list_any large_item (items spec)) (no_fault spec e) in
    none_else (only_if (any_too_large (normal spec)) TooLarge) _ (none_if (any_too_large (normal spec)) TooLarge (neither_is (nat_lt 99_999 spec.modulo) _ modulo (items_made large_item large_normal spec small)))
    (none_else (only_if (spec.modulo == 0) ModuloZero) _ zero_
    (none_else (at_lowest (position (λ i. nat_le spec.modulo i.page) (items (normal spec))) PageOutOfBlock) _
    (check_same (λ i. nat_le spec.modulo i.page) (λ i. nat_le spec.modulo i.page) (items spec) (items (normal spec)) PageOutOfBlock (λ h. items_made (λ i. nat_le spec.modulo i.page) (λ i same. same) spec h) pages)
    (none_else (at_lowest (position (λ i. list_any is_flat i.modifiers) (items (normal spec))) ScaleZero) _
    (check_same (λ i. list_any is_flat i.modifiers) (λ i. list_any is_flat i.modifiers) (items spec) (items (normal spec)) ScaleZero (λ h. items_made (λ i. list_any is_flat i.modifiers) flat_normal spec h) flats)
    (none_else (at_lowest (position repeats (items (normal spec))) Repeated) _
    (check_same repeats repeats (items spec) (items (normal spec)) Repeated (λ h. items_made repeats repeat_normal spec h) again)
    (none_else (at_lowest (position (λ g. nat_lt most_slots (length g)) (normal spec).groups) TooManySlots) _
    (check_same (λ g. nat_lt most_slots (length g)) (λ g. nat_lt most_slots (length g)) spec.groups (normal spec).groups TooManySlots
    (λ h. any_made (λ g. nat_lt most_slots (length g)) (λ g. nat_lt most_slots (length g)) (λ g. map normal_item g) long_made spec.groups h) slots)
    (ap (λ n. only_if (nat_lt most_groups n) TooManyGroups) (length-map spec.groups (λ g. map normal_item g)) ∙ groups))))))

-- the canonical text of a text is taken too, with the same result
pub canonical_taken : (text : List ℕ) (spec : Spec) → Takes most_slots text spec → Takes most_slots (canonical spec) spec
canonical_taken text spec (h, written, stands, right, e) =
    subst (λ s. Takes most_slots (canonical s) s) (sym e)
    (short_enough text written stands right h, normal written, spec_written text written stands right, normal_faultless written right, sym (spec_back written))
