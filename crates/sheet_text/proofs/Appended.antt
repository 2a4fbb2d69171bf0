-- Texts that are put after others, piece by piece: a line, the lines that report a paper, and those of a sheet's numbers.
use Rattle.std.proofs.Common.{ℕ, zero, suc, ◌+◌, ◌≡◌, ◌∙◌, ap, ap₂, sym, arith, [], ◌∷◌, ◌++◌, List, Some, take, append_assoc, append-nil}
use Rattle.std.specs.Prelude.{ℤ, codes, flat_map, slice_get}
use Rattle.std.proofs.lemmas.Grind.{flat_map-append}
use Rattle.std.proofs.lemmas.Option.{none-some, same_Some}
use Rattle.rules.specs.Bytes.{line}
use Rattle.rules.specs.Numbers.{points_text}
use Rattle.rules.specs.Dress.{lines_text}
use Rattle.sheet_text.specs.PageNumbers.{number_point_text}

-- three pieces after a text
pub three : (o a p b l m text : List ℕ) → l ≡ o ++ a → m ≡ l ++ p → text ≡ m ++ b → text ≡ o ++ (a ++ (p ++ b))
three o a p b l m text one two more =
    more
    ∙ ap (λ (t : List ℕ). t ++ b) (two ∙ ap (λ (t : List ℕ). t ++ p) one)
    ∙ append_assoc (o ++ a) p b
    ∙ append_assoc o a (p ++ b)

-- a line of three pieces after a text, the last of which has the line end
pub line_of_three : (o a p b l m text : List ℕ) → l ≡ o ++ a → m ≡ l ++ p → text ≡ m ++ (b ++ 10 ∷ []) → text ≡ o ++ line (a ++ (p ++ b))
line_of_three o a p b l m text one two more =
    three o a p (b ++ 10 ∷ []) l m text one two more
    ∙ ap (λ (t : List ℕ). o ++ t) (sym (append_assoc a (p ++ b) (10 ∷ []) ∙ ap (λ (t : List ℕ). a ++ t) (append_assoc p b (10 ∷ []))))

-- four texts after a text
pub four : (o a b c d l m n text : List ℕ) → l ≡ o ++ a → m ≡ l ++ b → n ≡ m ++ c → text ≡ n ++ d → text ≡ o ++ (a ++ (b ++ (c ++ (d ++ []))))
four o a b c d l m n text one two next last =
    last
    ∙ ap (λ (t : List ℕ). t ++ d) (three o a b c l m n one two next)
    ∙ append_assoc o (a ++ (b ++ c)) d
    ∙ ap (λ (t : List ℕ). o ++ t) (append_assoc a (b ++ c) d ∙ ap (λ (t : List ℕ). a ++ t) (append_assoc b c d ∙ ap (λ (t : List ℕ). b ++ (c ++ t)) (sym (append-nil d))))

-- a line of four pieces after a text
pub line_of : (o a b c d l m n q text : List ℕ) → l ≡ o ++ a → m ≡ l ++ b → n ≡ m ++ c → q ≡ n ++ d → text ≡ q ++ 10 ∷ [] → text ≡ o ++ lines_text ((a ++ (b ++ (c ++ d))) ∷ [])
line_of o a b c d l m n q text one two next four last =
    let row = a ++ (b ++ (c ++ d)) in
    last
    ∙ ap (λ (t : List ℕ). t ++ 10 ∷ []) (four ∙ ap (λ (t : List ℕ). t ++ d) (three o a b c l m n one two next) ∙ append_assoc o (a ++ (b ++ c)) d ∙ ap (λ (t : List ℕ). o ++ t) (append_assoc a (b ++ c) d ∙ ap (λ (t : List ℕ). a ++ t) (append_assoc b c d)))
    ∙ append_assoc o row (10 ∷ [])
    ∙ ap (λ (t : List ℕ). o ++ t) (sym (append-nil (line row)))

-- a point after a text, and what follows it
pub point_and : (x y x' y' : ℤ) (o b l m n text : List ℕ) → x ≡ x' → y ≡ y' → l ≡ o ++ points_text x → m ≡ l ++ codes " " → n ≡ m ++ points_text y → text ≡ n ++ b
    → text ≡ o ++ (number_point_text x' y' ++ b)
point_and x y x' y' o b l m n text is_x is_y one two more last =
    last
    ∙ ap (λ (t : List ℕ). t ++ b) (three o (points_text x) (codes " ") (points_text y) l m n one two more)
    ∙ append_assoc o (number_point_text x y) b
    ∙ ap₂ (λ (v w : ℤ). o ++ (number_point_text v w ++ b)) is_x is_y

flat : {X : Type 0} (f : X → List (List ℕ)) (i : ℕ) (xs : List X) (x : X) → slice_get xs i ≡ Some x
    → flat_map f (take i xs) ++ f x ≡ flat_map f (take (suc i) xs)
flat f i [] x at = absurd (none-some x at)
flat f zero (y ∷ xs) x at = ap f (sym (same_Some y x at)) ∙ sym (append-nil (f y))
flat f (suc i) (y ∷ xs) x at = append_assoc (f y) (flat_map f (take i xs)) (f x) ∙ ap (λ t. f y ++ t) (flat f i xs x at)

-- the lines of one slot more
pub slot_more : {X : Type 0} (f : X → List (List ℕ)) (front old new : List ℕ) (i : ℕ) (xs : List X) (x : X) → slice_get xs i ≡ Some x
    → old ≡ front ++ lines_text (flat_map f (take i xs)) → new ≡ old ++ lines_text (f x) → new ≡ front ++ lines_text (flat_map f (take (i + 1) xs))
slot_more f front old new i xs x at before step =
    let next : suc i ≡ i + 1 = omega arith in
    step ∙ ap (λ t. t ++ lines_text (f x)) before ∙ append_assoc front (lines_text (flat_map f (take i xs))) (lines_text (f x))
    ∙ ap (λ t. front ++ t) (sym (flat_map-append line (flat_map f (take i xs)) (f x)) ∙ ap lines_text (flat f i xs x at ∙ ap (λ n. flat_map f (take n xs)) next))
