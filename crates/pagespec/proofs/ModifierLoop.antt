-- A loop over modifiers.
use Rattle.std.proofs.Common.{◌≡◌, ℕ, zero, suc, List, [], ◌∷◌, ◌++◌, Some, None, refl, sym, ap, ◌∙◌, append_assoc, length}
use Rattle.std.proofs.lemmas.List.{append-nil}
use Rattle.rules.specs.Specification.{Modifier}
use Rattle.pagespec.specs.Reading.{modifier_at, modifiers_at, with_modifier}
use Rattle.pagespec.specs.Views.{StandsFor, ModifierRead}
use Rattle.pagespec.specs.Parsed.{Summarizes, ModifiersRead}
use Rattle.pagespec.specs.declared.parsed.Modifiers.{Modifiers}
use Rattle.pagespec.specs.declared.scan.Modifier.{Modifier as Part}

-- modifiers that were read before, and those after them
abbrev pub with_front : List Modifier → List Modifier × List ℕ → List Modifier × List ℕ
with_front front more = (front ++ more.0, more.1)

-- these modifiers were read so far, and reading the rest continues them
abbrev pub ReadsOn : (fuel : ℕ) (bytes rest : List ℕ) → Modifiers → Type 0
ReadsOn k bytes rest s = (front : List Modifier) × (with_front front (modifiers_at k rest) ≡ modifiers_at (length bytes) bytes) × Summarizes front s

pub step_some : (k : ℕ) (t : List ℕ) (m : Modifier) (rest : List ℕ) → modifier_at t ≡ Some (m, rest) → modifiers_at (suc k) t ≡ with_modifier m (modifiers_at k rest)
unfolding modifiers_at
step_some k t m rest e = rw e refl

pub step_none : (k : ℕ) (t : List ℕ) → modifier_at t ≡ None → modifiers_at k t ≡ ([], t)
unfolding modifiers_at
step_none zero t e = refl
step_none (suc k) t e = rw e refl

pub reads_more : (k n : ℕ) (bytes rest behind : List ℕ) (s s' : Modifiers) (part : Part) → n ≡ suc k → ReadsOn n bytes rest s → ModifierRead rest part behind
    → ((ms : List Modifier) (m : Modifier) → Summarizes ms s → StandsFor part m → Summarizes (ms ++ m ∷ []) s') → ReadsOn k bytes behind s'
reads_more k n bytes rest behind s s' part is (front, e, shows) (m, found, stands) more = (
  front ++ m ∷ [],
  ap (λ xs. (xs, (modifiers_at k behind).1)) (append_assoc front (m ∷ []) (modifiers_at k behind).0)
      ∙ (sym (ap (with_front front) (ap (λ j. modifiers_at j rest) is ∙ step_some k rest m behind found)) ∙ e),
  more front m shows stands,
)

pub reads_all : (k : ℕ) (bytes rest : List ℕ) (s : Modifiers) → ReadsOn k bytes rest s → modifiers_at k rest ≡ ([], rest) → ModifiersRead bytes s rest
reads_all k bytes rest s (front, e, shows) none =
    (front, sym e ∙ (ap (with_front front) none ∙ ap (λ xs. (xs, rest)) (append-nil front)), shows)

pub no_fuel : (t : List ℕ) → modifiers_at 0 t ≡ ([], t)
unfolding modifiers_at
no_fuel t = refl
