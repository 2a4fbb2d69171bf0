-- Names that no dictionary on the stack has mean the operators.
use Rattle.std.specs.Prelude.{bytes_eq}
use Rattle.std.proofs.lemmas.Slice.Eq.{bytes_eq-Decides}
use Rattle.std.proofs.Common.{◌≡◌, ℕ, refl, sym, subst, Bool, true, not, ◌&&◌, ◌||◌, ◌∙◌, List, [], ◌∷◌, ◌++◌, true≢false}
use Rattle.pictures.specs.Dictionaries.{DictionaryEntry, meaning, system, dictionary_entry, has}
use Rattle.pictures.specs.Sheets.{among}
use Rattle.pictures.specs.Unaware.{absent}
use Rattle.pictures.proofs.Tests.{by_test, first, second}
use Rattle.pictures.proofs.Own.{absent_means}
use Rattle.pictures.proofs.Opening.{name_other}
use Rattle.pictures.proofs.Names.{not_true}
use Rattle.pictures.specs.Shelter.{all_absent}

pub is_absent : (names : List (List ℕ)) (ds : List ℕ) (es : List DictionaryEntry) → all_absent names ds es ≡ true
    → (name : List ℕ) → among name names ≡ true → absent ds es name ≡ true
is_absent [] ds es a name h = absurd (true≢false (sym h))
is_absent (other ∷ others) ds es a name h = by_test (bytes_eq name other)
    (λ same. subst (λ z. absent ds es z ≡ true) (sym ((bytes_eq-Decides name other).0 same)) (first (absent ds es other) (all_absent others ds es) a))
    (λ differ. is_absent others ds es (second (absent ds es other) (all_absent others ds es) a) name (subst (λ b. (b || among name others) ≡ true) differ h))

pub known : (names : List (List ℕ)) (ds : List ℕ) (es : List DictionaryEntry) → all_absent names ds es ≡ true
    → (name : List ℕ) → among name names ≡ true → meaning ds es name ≡ system name
known names ds es a name h = absent_means ds es name (is_absent names ds es a name h)

-- and in the dictionaries below the topmost one
pub known_below : (names : List (List ℕ)) (d : ℕ) (ds : List ℕ) (es : List DictionaryEntry) → all_absent names (d ∷ ds) es ≡ true
    → (name : List ℕ) → among name names ≡ true → meaning ds es name ≡ system name
known_below names d ds es a name h =
    absent_means ds es name (second (not (has (dictionary_entry d name es))) (absent ds es name) (is_absent names (d ∷ ds) es a name h))

-- entries for other names say nothing
abbrev pub keys_differ : List DictionaryEntry → List ℕ → Bool
keys_differ [] name = true
keys_differ (e ∷ es) name = not (bytes_eq e.key name) && keys_differ es name

pub through : (ds : List ℕ) (more es : List DictionaryEntry) (name : List ℕ) → keys_differ more name ≡ true → meaning ds (more ++ es) name ≡ meaning ds es name
through ds [] es name h = refl
through ds (e ∷ more) es name h =
    name_other ds e (more ++ es) name (not_true (bytes_eq e.key name) (first (not (bytes_eq e.key name)) (keys_differ more name) h))
    ∙ through ds more es name (second (not (bytes_eq e.key name)) (keys_differ more name) h)
