-- What is read from a printed matrix.
use Rattle.std.proofs.Common.{arith, ◌≡◌, ◌≢◌, ℕ, ◌*◌, ◌^◌, ◌/◌, ◌<◌, ◌≤◌, List, [], ◌∷◌, ◌++◌, refl, sym, ap, subst, ◌∙◌, length, append-nil}
use Rattle.std.specs.Prelude.{ℤ, pos, negsuc, nat_abs, ◌*ℤ◌, codes}
use Rattle.std.proofs.lemmas.Int.{ints}
use Rattle.std.proofs.lemmas.List.{append_cancel_left, append_cancel_right}
use Rattle.rules.specs.Bytes.{space}
use Rattle.rules.specs.Numbers.{IsNumber, is_negative, sign_text, fraction_text, signed, decimals_value, printed, points_text, rounded}
use Rattle.rules.specs.Specification.{IsJoined}
use Rattle.rules.proofs.Printed.{fraction_is, sign_is, printed_is_number, printed_is_printed}
use Rattle.rules.proofs.OneNumber.{one_number}
use Rattle.placement.specs.Printed.{nearest, PrintedIsRow, OneRow}

-- at most five decimals, in 10^-9
in_nine : (ds : List ℕ) → length ds ≤ 5 → decimals_value 9 ds ≡ decimals_value 5 ds * 10_000
in_nine [] h = refl
in_nine (a ∷ []) h = omega arith
in_nine (a ∷ b ∷ []) h = omega arith
in_nine (a ∷ b ∷ c ∷ []) h = omega arith
in_nine (a ∷ b ∷ c ∷ d ∷ []) h = omega arith
in_nine (a ∷ b ∷ c ∷ d ∷ e ∷ []) h = omega arith
in_nine (a ∷ b ∷ c ∷ d ∷ e ∷ f ∷ ds) h = absurd (omega arith)

not_nil : (xs ys : List ℕ) → 0 < length xs → xs ++ ys ≢ []
not_nil [] ys h e = omega arith
not_nil (x ∷ xs) ys h e = cc (e)

times_signed : (v : ℤ) (n : ℕ) → n ≡ nat_abs v * 10_000 → v *ℤ pos 10_000 ≡ signed (is_negative v) n
times_signed (pos k) n e = omega (arith, ints)
times_signed (negsuc k) n e = omega (arith, ints)

-- what is printed with five decimals is a number text
printed_five : (v : ℤ) → nat_abs v / 10 ^ 5 < 10 ^ 64 → IsNumber (printed 5 v) (v *ℤ pos 10_000)
printed_five v h =
    let p = printed_is_printed 5 v (omega arith) h in (
      is_negative v,
      sign_text v,
      p.whole,
      fraction_text p.decimals,
      p.decimals,
      p.parts,
      sign_is v,
      p.whole_digits,
      fraction_is p.decimals,
      p.decimal_digits,
      not_nil p.whole p.decimals p.some_digit,
      times_signed v _ (omega (arith, p.value, in_nine p.decimals p.few_decimals)),
    )

small : (g : ℤ) → nat_abs g ≤ 10 ^ 23 → nat_abs (rounded g 1_270_000) / 10 ^ 5 < 10 ^ 64
small (pos n) h = omega (arith, ints)
small (negsuc n) h = omega (arith, ints)

points_are : (g : ℤ) → nat_abs g ≤ 10 ^ 23 → IsNumber (points_text g) (nearest g)
points_are g h = printed_five (rounded g 1_270_000) (small g h)

scale_is : (v : ℤ) → nat_abs v ≤ 99_999_999_999_999 → IsNumber (printed 9 v) v
scale_is v h = printed_is_number v (omega arith)

pub printed_row : PrintedIsRow
printed_row m fits = (
  _,
  refl,
  (
    _,
    _,
    refl,
    scale_is m.a fits.a,
    (
      _,
      _,
      refl,
      scale_is m.b fits.b,
      (
        _,
        _,
        refl,
        scale_is m.c fits.c,
        (
          _,
          _,
          refl,
          scale_is m.d fits.d,
          (_, _, refl, points_are m.tx fits.tx, points_are m.ty fits.ty),
        ),
      ),
    ),
  ),
)

same_tail : (b c : ℕ) (xs ys : List ℕ) → b ∷ xs ≡ c ∷ ys → xs ≡ ys
same_tail b c xs ys e = cc

-- numbers with a space between them are read in at most one way
one_joined : (text : List ℕ) (vs ws : List ℤ) → IsJoined space IsNumber text vs → IsJoined space IsNumber text ws → vs ≡ ws
one_joined text [] ws h k = absurd h
one_joined text (v ∷ vs) [] h k = absurd k
one_joined text (v ∷ []) (w ∷ []) h k = let (same, value, rest) = one_number text text [] [] v w h k refl refl refl in ap (λ x. x ∷ []) value
one_joined text (v ∷ []) (w ∷ w' ∷ ws) h (front, rest, parts, first, more) =
    let (same, value, none) = one_number text front [] (space ∷ rest) v w h first refl refl (append-nil text ∙ parts) in cc
one_joined text (v ∷ v' ∷ vs) (w ∷ []) (front, rest, parts, first, more) k =
    let (same, value, none) = one_number text front [] (space ∷ rest) w v k first refl refl (append-nil text ∙ parts) in cc
one_joined text (v ∷ v' ∷ vs) (w ∷ w' ∷ ws) (front, rest, parts, first, more) (front', rest', parts', first', more') =
    let (same, value, added) = one_number front front' (space ∷ rest) (space ∷ rest') v w first first' refl refl (sym parts ∙ parts') in
    let tail : rest' ≡ rest = sym (same_tail _ _ rest rest' added) in
    let others = one_joined rest (v' ∷ vs) (w' ∷ ws) more (subst (λ t. IsJoined space IsNumber t (w' ∷ ws)) tail more') in
    cc

pub one_row : OneRow
one_row text numbers others (inner, parts, row) (inner', parts', row') =
    let same : inner' ≡ inner = append_cancel_left (codes "[") inner' inner (append_cancel_right _ _ (codes "]") (sym parts' ∙ parts)) in
    one_joined inner numbers others row (subst (λ t. IsJoined space IsNumber t others) same row')
