-- Rows of decimal digits: the number that they write, and the decimal of a number.
use Rattle.std.proofs.Common.{arith, ◌≡◌, ◌≢◌, ℕ, suc, ◌+◌, ◌-◌, ◌*◌, ◌/◌, ◌%◌, ◌^◌, ◌<◌, ◌≤◌, List, [], ◌∷◌, ◌++◌, true, refl, sym, ap, ◌∙◌, length, take, get_or}
use Rattle.std.specs.Prelude.{decimal, fold}
use Rattle.std.specs.List.{AllPass}
use Rattle.std.specs.Char.{is_ascii_digit}
use Rattle.std.proofs.lemmas.Grind.{common_steps}
use Rattle.std.proofs.lemmas.Fmt.{decimal_by_steps_wide, decimal_step_wide, decimal_digit}
use Rattle.std.proofs.lemmas.List.{append_assoc, append-nil, length-append}
use Rattle.std.proofs.lemmas.List.Sums.{fold-append}
use Rattle.std.proofs.lemmas.List.Elements.{All-nil, All-cons, All-append, All-head, All-tail}
use Rattle.std.proofs.Math.Nat.{pow-succ', mul-le-mul_right}
use Rattle.rules.specs.Numbers.{number_of}

abbrev pub IsDigit : ℕ → Type 0
IsDigit b = is_ascii_digit b ≡ true

pub is_digit : (n : ℕ) → n < 10 → is_ascii_digit (48 + n) ≡ true
is_digit n h = grind (arith, common_steps)

pub digit_range : (d : ℕ) → is_ascii_digit d ≡ true → (48 ≤ d) × (d < 58)
digit_range d h = (grind (arith, common_steps), grind (arith, common_steps))

-- one more digit of a number
abbrev pub with_digit : ℕ → ℕ → ℕ
with_digit n d = n * 10 + (d - 48)

pub number_of-last : (ds : List ℕ) (d : ℕ) → number_of (ds ++ d ∷ []) ≡ number_of ds * 10 + (d - 48)
number_of-last ds d = fold-append (λ n d. n * 10 + (d - 48)) 0 ds (d ∷ [])

grows : (n : ℕ) (ds : List ℕ) → n ≤ fold with_digit n ds
grows n [] = omega arith
grows n (d ∷ ds) = omega (arith, grows (with_digit n d) ds)

-- the value of digits that follow those of a number
pub number_behind : (ds : List ℕ) (n : ℕ) → fold with_digit n ds ≡ n * 10 ^ length ds + number_of ds
number_behind [] n = omega arith
number_behind (d ∷ ds) n =
    let p : 10 ^ suc (length ds) ≡ 10 * 10 ^ length ds = pow-succ' 10 (length ds) in
    let q : n * 10 ^ suc (length ds) ≡ n * (10 * 10 ^ length ds) = ap (λ x. n * x) p in
    number_behind ds (n * 10 + (d - 48)) ∙ products n (d - 48) (10 ^ length ds) (number_of ds) _ _ q (number_behind ds (0 + (d - 48)))
  where
    products : (a x t v q w : ℕ) → q ≡ a * (10 * t) → w ≡ (0 + x) * t + v → (a * 10 + x) * t + v ≡ q + w
    products a x t v q w e f = omega (arith, e, f)

-- this many digits write a number below that power of ten
pub number_below : (ds : List ℕ) → AllPass is_ascii_digit ds → number_of ds < 10 ^ length ds
number_below [] pass = omega arith
number_below (d ∷ ds) pass =
    let (low, high) = digit_range d (All-head IsDigit d ds pass) in
    let most : (0 * 10 + (d - 48)) * 10 ^ length ds ≤ 9 * 10 ^ length ds = mul-le-mul_right (10 ^ length ds) (omega arith) in
    omega (arith, pow-succ' 10 (length ds), number_behind ds (0 * 10 + (d - 48)), most, number_below ds (All-tail IsDigit d ds pass))

-- a row of digits that writes this number
pub record Writes (n : ℕ) (ds : List ℕ) : Type 0 where
  pub pass : AllPass is_ascii_digit ds
  pub value : number_of ds ≡ n
  pub some : 0 < length ds
  pub no_lead : 0 < n → 48 < get_or ds 0 0

one_digit : (n : ℕ) → n < 10 → Writes n ((48 + n) ∷ [])
one_digit n h = record {
  pass = All-cons IsDigit (48 + n) [] (is_digit n h) (All-nil IsDigit);
  value = omega arith;
  some = omega arith;
  no_lead = λ some. omega arith;
}

first_stays : (ds : List ℕ) (d : ℕ) → 0 < length ds → get_or (ds ++ d ∷ []) 0 0 ≡ get_or ds 0 0
first_stays [] d h = absurd (omega arith)
first_stays (x ∷ ds) d h = refl

more_digits : (n : ℕ) (ds : List ℕ) → 10 ≤ n → Writes (n / 10) ds → Writes n (ds ++ ((48 + n % 10) ∷ []))
more_digits n ds h w = record {
  pass = All-append IsDigit ds ((48 + n % 10) ∷ []) w.pass (All-cons IsDigit (48 + n % 10) [] (is_digit (n % 10) (omega arith)) (All-nil IsDigit));
  value = number_of-last ds (48 + n % 10) ∙ omega (arith, w.value);
  some = omega (arith, length-append ds ((48 + n % 10) ∷ []));
  no_lead = λ some. omega (arith, w.no_lead (omega arith), first_stays ds (48 + n % 10) w.some);
}

-- a decimal is read as its number
pub decimal_writes : (n : ℕ) → n < 10 ^ 64 → Writes n (decimal n)
decimal_writes n h = decimal_by_steps_wide Writes one_digit more_digits n h

-- the digits after those of a number above zero are the ones with which its decimal continues
pub decimal_goes_on : (n : ℕ) (ds : List ℕ) → 0 < n → AllPass is_ascii_digit ds → fold with_digit n ds < 10 ^ 64 → decimal (fold with_digit n ds) ≡ decimal n ++ ds
decimal_goes_on n [] some pass small = sym (append-nil (decimal n))
decimal_goes_on n (d ∷ ds) some pass small =
    let m : ℕ = n * 10 + (d - 48) in
    let (low, high) = digit_range d (All-head IsDigit d ds pass) in
    let front : m / 10 ≡ n = omega arith in
    let last : 48 + m % 10 ≡ d = omega arith in
    decimal_goes_on m ds (omega arith) (All-tail IsDigit d ds pass) small
    ∙ ap (λ x. x ++ ds) (decimal_step_wide m (omega arith) (omega (arith, grows m ds)) ∙ (ap (λ x. decimal x ++ ((48 + m % 10) ∷ [])) front ∙ ap (λ x. decimal n ++ (x ∷ [])) last))
    ∙ append_assoc (decimal n) (d ∷ []) ds

-- digits without a leading zero, or a lone zero, are the decimal of their number
pub decimal_of : (ds : List ℕ) → AllPass is_ascii_digit ds → 0 < length ds → (1 < length ds → take 1 ds ≢ 48 ∷ []) → number_of ds < 10 ^ 64 → decimal (number_of ds) ≡ ds
decimal_of [] pass some lead small = absurd (omega arith)
decimal_of (d ∷ []) pass some lead small =
    let (low, high) = digit_range d (All-head IsDigit d [] pass) in
    decimal_digit (0 * 10 + (d - 48)) (omega arith) ∙ ap (λ x. x ∷ []) (omega arith)
decimal_of (d ∷ c ∷ ds) pass some lead small =
    let (low, high) = digit_range d (All-head IsDigit d (c ∷ ds) pass) in
    let not_zero : d ≢ 48 = λ e. lead (omega arith) (ap (λ x. x ∷ []) e) in
    let first : 48 + (0 * 10 + (d - 48)) ≡ d = omega arith in
    decimal_goes_on (0 * 10 + (d - 48)) (c ∷ ds) (omega arith) (All-tail IsDigit d (c ∷ ds) pass) small
    ∙ ap (λ x. x ++ (c ∷ ds)) (decimal_digit (0 * 10 + (d - 48)) (omega arith) ∙ ap (λ x. x ∷ []) first)
