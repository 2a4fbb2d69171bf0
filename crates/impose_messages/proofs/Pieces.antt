-- Texts that are put after others, piece by piece.
use Rattle.std.proofs.Common.{◌≡◌, ◌∙◌, ◌++◌, ℕ, List, ap, append_assoc}
use Rattle.std.specs.Prelude.{OnOk, Result, Ok, Err, if◌then◌else◌}
use Rattle.std.specs.Result.{is_ok}

pub two : (o a b l t : List ℕ) → l ≡ o ++ a → t ≡ l ++ b → t ≡ o ++ (a ++ b)
two o a b l t before is = is ∙ ap (λ (x : List ℕ). x ++ b) before ∙ append_assoc o a b

pub three : (o a b c l m t : List ℕ) → l ≡ o ++ a → m ≡ l ++ b → t ≡ m ++ c → t ≡ o ++ (a ++ (b ++ c))
three o a b c l m t before next last = two o a (b ++ c) l t before (two l b c m t next last)

pub four : (o a b c d l m n t : List ℕ) → l ≡ o ++ a → m ≡ l ++ b → n ≡ m ++ c → t ≡ n ++ d → t ≡ o ++ (a ++ (b ++ (c ++ d)))
four o a b c d l m n t before one two_more last = two o a (b ++ (c ++ d)) l t before (three l b c d m n t one two_more last)

pub five : (o a b c d e l m n p t : List ℕ) → l ≡ o ++ a → m ≡ l ++ b → n ≡ m ++ c → p ≡ n ++ d → t ≡ p ++ e
    → t ≡ o ++ (a ++ (b ++ (c ++ (d ++ e))))
five o a b c d e l m n p t before one two_more three_more last = two o a (b ++ (c ++ (d ++ e))) l t before (four l b c d e m n p t one two_more three_more last)

pub six : (o a b c d e f l m n p q t : List ℕ) → l ≡ o ++ a → m ≡ l ++ b → n ≡ m ++ c → p ≡ n ++ d → q ≡ p ++ e → t ≡ q ++ f
    → t ≡ o ++ (a ++ (b ++ (c ++ (d ++ (e ++ f)))))
six o a b c d e f l m n p q t before one two_more three_more four_more last =
    two o a (b ++ (c ++ (d ++ (e ++ f)))) l t before (five l b c d e f m n p q t one two_more three_more four_more last)

pub seven : (o a b c d e f g l m n p q r t : List ℕ) → l ≡ o ++ a → m ≡ l ++ b → n ≡ m ++ c → p ≡ n ++ d → q ≡ p ++ e → r ≡ q ++ f → t ≡ r ++ g
    → t ≡ o ++ (a ++ (b ++ (c ++ (d ++ (e ++ (f ++ g))))))
seven o a b c d e f g l m n p q r t before one two_more three_more four_more five_more last =
    two o a (b ++ (c ++ (d ++ (e ++ (f ++ g))))) l t before (six l b c d e f g m n p q r t one two_more three_more four_more five_more last)

-- what is appended, if it can be
pub if_ok : {T E : Type 0} (r : Result T E) (now more old : List ℕ) → now ≡ (if is_ok r then more else old) → OnOk r (now ≡ more)
if_ok (Ok x) now more old e = e
if_ok (Err x) now more old e = tt
