-- The key of a content that has this key.
use Rattle.std.specs.Str.{bytes_eq}
use Rattle.std.proofs.Common.{◌||◌, Bool, true, false, ◌≡◌, ℕ, List, [], ◌∷◌, refl, ap, ◌∙◌}
use Rattle.std.proofs.lemmas.Slice.Eq.{bytes_eq-Decides}
use Rattle.rules.specs.Units.{key, has_key}
use Rattle.dsc.proofs.Cases.{by_test}
use Rattle.imposed_again.proofs.LinesMeet.{clash}

or_none : (a : Bool) → (a || false) ≡ true → a ≡ true
or_none true e = refl
or_none false e = e

-- the key of a content, where it has this key
pub key_is : (name content : List ℕ) → has_key (name ∷ []) content ≡ true → key content ≡ name
key_is name content h = (bytes_eq-Decides (key content) name).0 (or_none (bytes_eq (key content) name) h)

-- where a test of the key fails
pub not_key : (name content : List ℕ) (p : List ℕ → Bool) → p (key content) ≡ true → p name ≡ false → has_key (name ∷ []) content ≡ false
not_key name content p h n = by_test (has_key (name ∷ []) content)
    (λ is. clash (p (key content)) h (ap p (key_is name content is) ∙ n))
    (λ isnt. isnt)
