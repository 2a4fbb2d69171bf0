-- Units by their names, worked out.
use Rattle.std.proofs.Common.{◌≡◌, refl, map, [], ◌∷◌, Some, None}
use Rattle.std.specs.Prelude.{codes}
use Rattle.rules.specs.Papers.{Pt, Cm, Mm, In}
use Rattle.lengths.specs.Lengths.{unit_named}

units : map unit_named ([] ∷ codes "pt" ∷ codes "cm" ∷ codes "mm" ∷ codes "in" ∷ []) ≡ Some Pt ∷ Some Pt ∷ Some Cm ∷ Some Mm ∷ Some In ∷ []
units = refl

no_units : map unit_named (codes "p" ∷ codes "ptx" ∷ codes "PT" ∷ codes " pt" ∷ codes "inch" ∷ []) ≡ None ∷ None ∷ None ∷ None ∷ None ∷ []
no_units = refl
