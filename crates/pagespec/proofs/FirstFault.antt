-- The first fault in a row of checks.
use Rattle.std.proofs.Common.{◌≡◌, Option, Some, None, refl, ap, ◌∙◌}
use Rattle.std.specs.Option.{option_or}

or_same : {X : Type 0} {a a' b b' : Option X} → a ≡ a' → b ≡ b' → option_or a b ≡ option_or a' b'
or_same {X} {a} {a'} {b} {b'} e f = ap (λ x. option_or x b) e ∙ ap (option_or a') f

from_the_left : {X : Type 0} (a b c d e f g : Option X) → option_or (option_or (option_or (option_or (option_or (option_or a b) c) d) e) f) g
    ≡ option_or a (option_or b (option_or c (option_or d (option_or e (option_or f g)))))
from_the_left (Some x) b c d e f g = refl
from_the_left None (Some x) c d e f g = refl
from_the_left None None (Some x) d e f g = refl
from_the_left None None None (Some x) e f g = refl
from_the_left None None None None (Some x) f g = refl
from_the_left None None None None None f g = refl

-- the code looks at two at a time, the definition at the first and the rest
pub in_order : {X : Type 0} {a b c d e f g a' b' c' d' e' f' g' two three four five six all : Option X} → two ≡ option_or a b → three ≡ option_or two c → four ≡ option_or three d
    → five ≡ option_or four e → six ≡ option_or five f → all ≡ option_or six g → a ≡ a' → b ≡ b' → c ≡ c' → d ≡ d' → e ≡ e' → f ≡ f' → g ≡ g'
    → all ≡ option_or a' (option_or b' (option_or c' (option_or d' (option_or e' (option_or f' g')))))
in_order {X} {a} {b} {c} {d} {e} {f} {g} i2 i3 i4 i5 i6 i7 ea eb ec ed ee ef eg =
    i7 ∙ (ap (λ x. option_or x g) (i6 ∙ ap (λ x. option_or x f) (i5 ∙ ap (λ x. option_or x e) (i4 ∙ ap (λ x. option_or x d) (i3 ∙ ap (λ x. option_or x c) i2))))
    ∙ (from_the_left a b c d e f g ∙ or_same ea (or_same eb (or_same ec (or_same ed (or_same ee (or_same ef eg)))))))
