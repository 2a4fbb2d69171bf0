-- What comes before and after a byte of a text.
use Rattle.std.proofs.Common.{rules, ◌≡◌, ◌∙◌, ℕ, ◌<◌, Bor, Bool, true, false, List, Option, Some, None, ap₂, refl, sym, length}
use Rattle.std.specs.Prelude.{◌==◌, nat_lt, if◌then◌else◌, option_map, MatchOption}
use Rattle.std.specs.List.{after_first, before_first, position_or_len}
use Rattle.impose_words.specs.Edges.{cut_at}

abbrev there : ℕ → List ℕ → Option (List ℕ × List ℕ)
there c bs = Some (before_first (λ b. b == c) bs, after_first (λ b. b == c) bs)

first_one : {X : Type 0} (b : Bool) (x y : X) → b ≡ true → (if b then x else y) ≡ x
first_one true x y e = refl
first_one false x y e = cc

second_one : {X : Type 0} (b : Bool) (x y : X) → b ≡ false → (if b then x else y) ≡ y
second_one true x y e = cc
second_one false x y e = refl

is_less : (a b : ℕ) → a < b → nat_lt a b ≡ true
is_less a b h = search (rules, h)

is_not_less : (a b : ℕ) → a ≡ b → nat_lt a b ≡ false
is_not_less a b h = search (rules, h)

pub cut_is : (c : ℕ) (bs : List ℕ) (r : Option (Bor (List ℕ) × Bor (List ℕ)))
    → MatchOption r (position_or_len (λ b. b == c) bs ≡ length bs)
    (λ x. (position_or_len (λ b. b == c) bs < length bs) × (x.0.now ≡ before_first (λ b. b == c) bs) × (x.1.now ≡ after_first (λ b. b == c) bs))
    → option_map (λ x. (x.0.now, x.1.now)) r ≡ cut_at c bs
cut_is c bs None h =
    sym (second_one (nat_lt (position_or_len (λ b. b == c) bs) (length bs)) (there c bs) None (is_not_less (position_or_len (λ b. b == c) bs) (length bs) h))
cut_is c bs (Some x) h =
    ap₂ (λ a b. Some (a, b)) h.1 h.2
    ∙ sym (first_one (nat_lt (position_or_len (λ b. b == c) bs) (length bs)) (there c bs) None (is_less (position_or_len (λ b. b == c) bs) (length bs) h.0))
