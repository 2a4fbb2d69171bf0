-- Rows of tokens that a test finds the same are the same.
use Rattle.std.proofs.lemmas.Slice.Eq.{bytes_eq-Decides}
use Rattle.std.proofs.Common.{◌≡◌, refl, ap, ap₂, sym, true, List, [], ◌∷◌, true≢false}
use Rattle.pictures.specs.Objects.{Token, Number, Name, Literal, Bound, Opens, Closes}
use Rattle.pictures.proofs.Tests.{first, second}
use Rattle.pictures.specs.Shelter.{is_same_token, are_same_tokens}

same_token : (t u : Token) → is_same_token t u ≡ true → t ≡ u
same_token (Number a) (Number b) e = ap Number ((bytes_eq-Decides a b).0 e)
same_token (Name a) (Name b) e = ap Name ((bytes_eq-Decides a b).0 e)
same_token (Literal a) (Literal b) e = ap Literal ((bytes_eq-Decides a b).0 e)
same_token (Bound a) (Bound b) e = ap Bound ((bytes_eq-Decides a b).0 e)
same_token Opens Opens e = refl
same_token Closes Closes e = refl
same_token t u e = absurd (true≢false (sym e))

pub same_tokens : (ts us : List Token) → are_same_tokens ts us ≡ true → ts ≡ us
same_tokens [] [] e = refl
same_tokens (t ∷ ts) (u ∷ us) e =
    ap₂ (λ x xs. x ∷ xs) (same_token t u (first (is_same_token t u) (are_same_tokens ts us) e))
    (same_tokens ts us (second (is_same_token t u) (are_same_tokens ts us) e))
same_tokens ts us e = absurd (true≢false (sym e))
