-- Canonical texts are ASCII.
use Rattle.std.proofs.Common.{arith, ◌≡◌, ℕ, zero, suc, ◌^◌, ◌<◌, List, [], ◌∷◌, ◌++◌, Bool, true, false, None, sym, subst, ◌∙◌}
use Rattle.std.specs.Prelude.{ℤ, ◌&&◌, ◌==◌, nat_lt, map, decimal, if◌then◌else◌}
use Rattle.std.specs.List.{AllPass, list_any}
use Rattle.std.specs.Char.{is_ascii_digit}
use Rattle.std.specs.Str.{IsAscii}
use Rattle.std.proofs.lemmas.Grind.{common_steps}
use Rattle.std.proofs.lemmas.Str.{IsAscii-append}
use Rattle.std.proofs.lemmas.Fmt.{IsAscii-decimal_wide}
use Rattle.std.proofs.lemmas.List.Elements.{All-head, All-tail}
use Rattle.rules.specs.Numbers.{is_large, number_text, IsNumber, IsSign, IsFraction}
use Rattle.rules.specs.Papers.{LengthUnit, Pt, Cm, Mm, In, Width, Height}
use Rattle.rules.specs.Specification.{Measure, WrittenItem, WrittenSpec, Spec, Turn, Upright, Left, Half, Right, minus_text, unit_text, measure_text, turn_text, quarter_turn, quarters, scale, offset_x, offset_y, scale_part, is_one, offset_part, is_zero_points, item_text, joined_by, modulo_text, settled_item, settled, canonical}
use Rattle.rules.specs.Admissible.{IsAdmissible, fault_of, has_large, items, most_slots}
use Rattle.rules.proofs.Digits.{IsDigit}
use Rattle.rules.proofs.Printed.{number_text_is_number}
use Rattle.pagespec.specs.Items.{group_text, groups_text}
use Rattle.pagespec.proofs.Faults.{no_fault, neither}
use Rattle.pagespec.proofs.NumberLengths.{small_abs}
use Rattle.pagespec.proofs.Short.{either, large_item, scale_small, offset_small, any_row, page_small}

ascii_nil : IsAscii []
ascii_nil i = omega arith

ascii_one : (b : ℕ) → b < 128 → IsAscii (b ∷ [])
ascii_one b h zero = h
ascii_one b h (suc i) = omega arith

ascii_cons : (b : ℕ) (bs : List ℕ) → b < 128 → IsAscii bs → IsAscii (b ∷ bs)
ascii_cons b bs h g = IsAscii-append (b ∷ []) bs (ascii_one b h) g

digit_below : (d : ℕ) → is_ascii_digit d ≡ true → d < 128
digit_below d h = grind (arith, common_steps)

ascii_digits : (ds : List ℕ) → AllPass is_ascii_digit ds → IsAscii ds
ascii_digits [] pass = ascii_nil
ascii_digits (d ∷ ds) pass = ascii_cons d ds (digit_below d (All-head IsDigit d ds pass)) (ascii_digits ds (All-tail IsDigit d ds pass))

ascii_sign : (sign : List ℕ) (negative : Bool) → IsSign sign negative → IsAscii sign
ascii_sign [] negative is = ascii_nil
ascii_sign (b ∷ rest) true is = ascii_cons b rest (omega (arith, is.1)) (subst IsAscii (sym is.0) ascii_nil)
ascii_sign (b ∷ rest) false is = ascii_cons b rest (omega (arith, is.1)) (subst IsAscii (sym is.0) ascii_nil)

ascii_fraction : (fraction decimals : List ℕ) → IsFraction fraction decimals → AllPass is_ascii_digit decimals → IsAscii fraction
ascii_fraction [] decimals is pass = ascii_nil
ascii_fraction (b ∷ rest) decimals is pass = ascii_cons b rest (omega (arith, is.0)) (subst IsAscii (sym is.1) (ascii_digits decimals pass))

ascii_number_text : (text : List ℕ) (v : ℤ) → IsNumber text v → IsAscii text
ascii_number_text text v (negative, sign, whole, fraction, decimals, e, s, w, f, d, n, value) =
    subst IsAscii (sym e) (IsAscii-append (sign ++ whole) fraction (IsAscii-append sign whole (ascii_sign sign negative s) (ascii_digits whole w)) (ascii_fraction fraction decimals f d))

ascii_number : (v : ℤ) → is_large v ≡ false → IsAscii (number_text v)
ascii_number v small = ascii_number_text (number_text v) v (number_text_is_number v (omega (arith, small_abs v small)))

ascii_unit : (u : LengthUnit) → IsAscii (unit_text u)
ascii_unit Pt = ascii_nil
ascii_unit Cm = ascii_cons 99 (109 ∷ []) (omega arith) (ascii_one 109 (omega arith))
ascii_unit Mm = ascii_cons 109 (109 ∷ []) (omega arith) (ascii_one 109 (omega arith))
ascii_unit In = ascii_cons 105 (110 ∷ []) (omega arith) (ascii_one 110 (omega arith))
ascii_unit Width = ascii_one 119 (omega arith)
ascii_unit Height = ascii_one 104 (omega arith)

ascii_measure : (m : Measure) → is_large m.number ≡ false → IsAscii (measure_text m)
ascii_measure m small = IsAscii-append (number_text m.number) (unit_text m.unit) (ascii_number m.number small) (ascii_unit m.unit)

ascii_unless : (b : Bool) (xs : List ℕ) → IsAscii xs → IsAscii (if b then [] else xs)
ascii_unless true xs h = ascii_nil
ascii_unless false xs h = h

ascii_scale : (v : ℤ) → is_large v ≡ false → IsAscii (scale_part v)
ascii_scale v small = ascii_unless (is_one v) (64 ∷ number_text v) (ascii_cons 64 (number_text v) (omega arith) (ascii_number v small))

ascii_offset : (x y : Measure) → is_large x.number ≡ false → is_large y.number ≡ false → IsAscii (offset_part x y)
ascii_offset x y small_x small_y =
    ascii_unless (is_zero_points x && is_zero_points y) (40 ∷ measure_text x ++ 44 ∷ measure_text y ++ 41 ∷ [])
    (IsAscii-append (40 ∷ measure_text x ++ 44 ∷ measure_text y) (41 ∷ [])
    (IsAscii-append (40 ∷ measure_text x) (44 ∷ measure_text y) (ascii_cons 40 (measure_text x) (omega arith) (ascii_measure x small_x)) (ascii_cons 44 (measure_text y) (omega arith) (ascii_measure y small_y)))
    (ascii_one 41 (omega arith)))

ascii_minus : (b : Bool) → IsAscii (minus_text b)
ascii_minus true = ascii_one 45 (omega arith)
ascii_minus false = ascii_nil

ascii_turn : (t : Turn) → IsAscii (turn_text t)
ascii_turn Upright = ascii_nil
ascii_turn Left = ascii_one 76 (omega arith)
ascii_turn Half = ascii_one 85 (omega arith)
ascii_turn Right = ascii_one 82 (omega arith)

ascii_item : (i : WrittenItem) → large_item i ≡ false → IsAscii (item_text (settled_item i))
ascii_item i small =
    let (page, behind) = either (nat_lt 99_999 i.page) (list_any has_large i.modifiers) small in
    let (small_x, small_y) = offset_small i.modifiers behind in
    let low : i.page < 10 ^ 5 = page_small i.page page in
    five (minus_text i.from_end) (decimal i.page) (turn_text (quarter_turn (quarters i.modifiers))) (scale_part (scale i.modifiers)) (offset_part (offset_x i.modifiers) (offset_y i.modifiers))
    (ascii_minus i.from_end) (IsAscii-decimal_wide i.page (omega (arith, low))) (ascii_turn (quarter_turn (quarters i.modifiers))) (ascii_scale (scale i.modifiers) (scale_small i.modifiers behind))
    (ascii_offset (offset_x i.modifiers) (offset_y i.modifiers) small_x small_y)
  where
    five : (a b c d e : List ℕ) → IsAscii a → IsAscii b → IsAscii c → IsAscii d → IsAscii e → IsAscii (a ++ b ++ c ++ d ++ e)
    five a b c d e ha hb hc hd he = IsAscii-append (a ++ b ++ c ++ d) e (IsAscii-append (a ++ b ++ c) d (IsAscii-append (a ++ b) c (IsAscii-append a b ha hb) hc) hd) he

ascii_joined : {X Y : Type 0} (c : ℕ) (f : Y → List ℕ) (g : X → Y) (large : X → Bool) → c < 128 → ((x : X) → large x ≡ false → IsAscii (f (g x))) → (xs : List X) → list_any large xs ≡ false
    → IsAscii (joined_by c (map f (map g xs)))
ascii_joined c f g large low each [] small = ascii_nil
ascii_joined c f g large low each (x ∷ []) small = each x (either (large x) false small).0
ascii_joined c f g large low each (x ∷ y ∷ xs) small =
    let (here, behind) = either (large x) (list_any large (y ∷ xs)) small in
    IsAscii-append (f (g x)) (c ∷ joined_by c (map f (map g (y ∷ xs)))) (each x here) (ascii_cons c _ low (ascii_joined c f g large low each (y ∷ xs) behind))

ascii_group : (g : List WrittenItem) → list_any large_item g ≡ false → IsAscii (group_text (map settled_item g))
ascii_group g small = ascii_joined 43 item_text settled_item large_item (omega arith) ascii_item g small

ascii_modulo : (m : ℕ) → m < 10 ^ 5 → IsAscii (modulo_text m)
ascii_modulo m low = ascii_unless (m == 1) (decimal m ++ 58 ∷ []) (IsAscii-append (decimal m) (58 ∷ []) (IsAscii-decimal_wide m (omega (arith, low))) (ascii_one 58 (omega arith)))

settled_ascii : (spec : WrittenSpec) → fault_of most_slots spec ≡ None → IsAscii (canonical (settled spec))
settled_ascii spec none =
    let (modulo, small) = neither (nat_lt 99_999 spec.modulo) (list_any large_item (items spec)) (no_fault spec none) in
    IsAscii-append (modulo_text spec.modulo) (groups_text (settled spec).groups) (ascii_modulo spec.modulo (page_small spec.modulo modulo))
    (ascii_joined 44 group_text (λ g. map settled_item g) (λ g. list_any large_item g) (omega arith) ascii_group spec.groups (sym (any_row large_item spec.groups) ∙ small))

-- the canonical text of an admissible specification is ASCII
pub canonical_ascii : (spec : Spec) → IsAdmissible most_slots spec → IsAscii (canonical spec)
canonical_ascii spec a =
    let (short, written, stands, faultless, settles) = a.taken in
    subst (λ s. IsAscii (canonical s)) (sym settles) (settled_ascii written faultless)
