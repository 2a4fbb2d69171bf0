-- Words at the front of a text.
use Rattle.std.proofs.Common.{arith, ◌≡◌, ◌<◌, ℕ, zero, suc, List, [], ◌∷◌, Bool, true, false, refl, sym, ap, drop, length}
use Rattle.std.specs.Prelude.{map, ◌&&◌, ◌==◌, if◌then◌else◌, Option, Some, None}
use Rattle.std.specs.Str.{bytes_eq}
use Rattle.rules.specs.Papers.{small}
use Rattle.lengths.specs.Reading.{is_empty}
use Rattle.paper_names.specs.Names.{after_word}

-- nothing follows a word
abbrev pub is_all : Option (List ℕ) → Bool
is_all None = false
is_all (Some rest) = is_empty rest

and_case : (b : Bool) (rest : Option (List ℕ)) (same : Bool) → same ≡ is_all rest → (b && same) ≡ is_all (if b then rest else None)
and_case true rest same e = e
and_case false rest same e = refl

pub word_is : (word text : List ℕ) → bytes_eq (map small text) word ≡ is_all (after_word word text)
word_is [] [] = refl
word_is [] (b ∷ text) = refl
word_is (w ∷ ws) [] = refl
word_is (w ∷ ws) (b ∷ text) = and_case (small b == w) (after_word ws text) (bytes_eq (map small text) ws) (word_is ws text)

-- a word goes on where a text ends
pub no_more : (word : List ℕ) (i : ℕ) (text : List ℕ) → i < length word → text ≡ [] → None ≡ after_word (drop i word) text
no_more [] i text h e = absurd (omega arith)
no_more (w ∷ ws) zero text h e = sym (ap (after_word (w ∷ ws)) e)
no_more (w ∷ ws) (suc i) text h e = no_more ws i text (omega arith) e
