-- A count of operands isn't 0 where there are some.
use Rattle.std.specs.Prelude.{Some, None, codes, decimal, pos, int_lt, if◌then◌else◌}
use Rattle.std.specs.Char.{is_ascii_digit}
use Rattle.std.proofs.lemmas.List.Sums.{list_all-from_AllPass}
use Rattle.std.proofs.Common.{◌≡◌, ℕ, ◌^◌, ◌<◌, ◌==◌, refl, ap, ◌∙◌, Bool, true, false, ◌||◌, List, [], ◌∷◌, arith}
use Rattle.std.proofs.lemmas.List.Elements.{All-head}
use Rattle.rules.specs.Bytes.{minus_sign, plus_sign}
use Rattle.rules.specs.Numbers.{number_of, signed}
use Rattle.rules.proofs.Digits.{Writes, decimal_writes, digit_range}
use Rattle.std.proofs.lemmas.Bool.{ne_eqb, lt-ltb}
use Rattle.pictures.specs.Objects.{NotEqual}
use Rattle.pictures.specs.Calculations.{whole_of, digits_value, compared, compared_on}

whole_digits : (n : ℕ) (ds : List ℕ) → Writes n ds → whole_of ds ≡ Some (pos n)
whole_digits n [] w = absurd (omega (arith, w.some))
whole_digits n (d ∷ ds) w =
    let r = digit_range d (All-head (λ x. is_ascii_digit x ≡ true) d ds w.pass) in
    ap (λ b. if b then digits_value true ds else if d == plus_sign then digits_value false ds else digits_value false (d ∷ ds)) (ne_eqb d minus_sign (λ e. omega (arith, e, r.0)))
    ∙ ap (λ b. if b then digits_value false ds else digits_value false (d ∷ ds)) (ne_eqb d plus_sign (λ e. omega (arith, e, r.0)))
    ∙ ap (λ b. if b then Some (signed false (number_of (d ∷ ds))) else None) (list_all-from_AllPass is_ascii_digit (d ∷ ds) w.pass)
    ∙ ap (λ m. Some (pos m)) w.value

either : (a b : Bool) → b ≡ true → Some (a || b) ≡ Some true
either true b e = refl
either false b e = ap Some e

not_zero : (n : ℕ) → 0 < n → compared_on NotEqual (Some (pos n)) (Some (pos 0)) ≡ Some true
not_zero n h = either (int_lt (pos n) (pos 0)) (int_lt (pos 0) (pos n)) (lt-ltb 0 n h)

pub counted : (n : ℕ) → 0 < n → n < 10 ^ 64 → compared NotEqual (decimal n) (codes "0") ≡ Some true
counted n h small =
    ap (λ x. compared_on NotEqual x (Some (pos 0))) (whole_digits n (decimal n) (decimal_writes n small)) ∙ not_zero n h
