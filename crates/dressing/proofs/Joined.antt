-- A line in pieces.
use Rattle.std.proofs.Common.{◌≡◌, ◌∙◌, ◌++◌, ℕ, List, ap, append_assoc}

-- five pieces, of which each was put after the others
pub joined : (a p b q c l m n o line : List ℕ) → l ≡ a → m ≡ l ++ p → n ≡ m ++ b → o ≡ n ++ q → line ≡ o ++ c → line ≡ a ++ (p ++ (b ++ (q ++ c)))
joined a p b q c l m n o line one two three four five =
    five
    ∙ ap (λ (t : List ℕ). t ++ c) (four ∙ ap (λ (t : List ℕ). t ++ q) (three ∙ ap (λ (t : List ℕ). t ++ b) (two ∙ ap (λ (t : List ℕ). t ++ p) one)))
    ∙ append_assoc ((a ++ p) ++ b) q c
    ∙ append_assoc (a ++ p) b (q ++ c)
    ∙ append_assoc a p (b ++ (q ++ c))
