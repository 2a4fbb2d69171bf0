-- The characters of a string, read one after the other.
use Rattle.std.proofs.Common.{◌≡◌, ℕ, zero, suc, List, [], ◌∷◌, ◌++◌, drop, refl, ap, sym, ◌∙◌, append_assoc}
use Rattle.dsc.specs.Strings.{character, character_len, characters, characters_after}

-- after so many bytes the rest of the text is read as any other
passed : (n : ℕ) (text : List ℕ) → characters_after n text ≡ characters (drop n text)
passed zero text = refl
passed (suc n) [] = refl
passed (suc n) (b ∷ rest) = passed n rest

pub one_more : (found new rest others behind whole : List ℕ) (first value n : ℕ) → rest ≡ first ∷ others → new ≡ found ++ value ∷ []
    → value ≡ character first others → n ≡ character_len first others → behind ≡ drop n others → found ++ characters rest ≡ whole
    → new ++ characters behind ≡ whole
one_more found new rest others behind whole first value n shape more is len left so_far =
    ap (λ t. t ++ characters behind) more
    ∙ append_assoc found (value ∷ []) (characters behind)
    ∙ ap (λ v. found ++ v ∷ characters behind) is
    ∙ ap (λ t. found ++ character first others ∷ characters t) (left ∙ ap (λ k. drop k others) len)
    ∙ ap (λ t. found ++ character first others ∷ t) (sym (passed (character_len first others) others))
    ∙ ap (λ t. found ++ characters t) (sym shape)
    ∙ so_far
