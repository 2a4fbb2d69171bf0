-- A text that is appended to another.
use Rattle.std.proofs.Common.{ℕ, List, ◌++◌, ◌≡◌, ap, ◌∙◌, append_assoc}

pub joined : (o a b one two : List ℕ) → one ≡ o ++ a → two ≡ one ++ b → two ≡ o ++ (a ++ b)
joined o a b one two first second = second ∙ ap (λ t. t ++ b) first ∙ append_assoc o a b

-- the one text behind the other makes the third: a record, so that the next step finds them
pub record Makes (o a text : List ℕ) : Type 0 where
  pub is : text ≡ o ++ a

pub first : (o a : List ℕ) {text : List ℕ} → text ≡ o ++ a → Makes o a text
first o a e = record { is = e }

pub more : {o a one two : List ℕ} (b : List ℕ) → Makes o a one → two ≡ one ++ b → Makes o (a ++ b) two
more {o} {a} {one} {two} b so_far e = record { is = joined o a b one two so_far.is e }
