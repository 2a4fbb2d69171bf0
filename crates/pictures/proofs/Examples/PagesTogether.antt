-- Pages that depend on one another: what one page sets is undone before the next one.
use Rattle.std.proofs.Common.{◌≡◌, ℕ, List, [], ◌∷◌, ◌++◌, refl, Some, None, map}
use Rattle.std.specs.Prelude.{codes, Ok, option_map}
use Rattle.std.specs.Fmt.{digits}
use Rattle.rules.specs.Units.{◌>>=◌}
use Rattle.pictures.specs.Machine.{Painting}
use Rattle.pictures.proofs.Examples.Premises.{half, own, own_sheets, imposed, sheets_by, not_placed}

-- the operators that paint
abbrev names_of : List (List Painting) → List (List (List ℕ))
names_of sheets = map (λ sheet. map (λ p. p.call.name) sheet) sheets

abbrev triangle : List ℕ
triangle = codes "0 0 moveto 9 0 lineto 9 9 lineto paint"

-- the second page uses a procedure that the first one defines: the machine stops there
abbrev pub defines_and_uses : List (List ℕ)
defines_and_uses = (codes "/paint {fill} def " ++ triangle) ∷ triangle ∷ []

uses_it : own [] defines_and_uses ≡ Some ((not_placed ∷ []) ∷ (not_placed ∷ []) ∷ [])
uses_it = refl

has_none : imposed [] defines_and_uses ≡ Ok None
unfolding digits
has_none = refl

-- the prolog defines it too: the second page is painted otherwise
painted_alike : option_map names_of (own_sheets (codes "/paint {stroke} def") defines_and_uses)
    ≡ Some ((codes "fill" ∷ []) ∷ (codes "fill" ∷ []) ∷ [])
painted_alike = refl

painted_otherwise :
    (sheets_by half (codes "/paint {stroke} def") defines_and_uses >>= λ sheets. Ok (option_map names_of sheets))
    ≡ Ok (Some ((codes "stroke" ∷ []) ∷ (codes "fill" ∷ []) ∷ []))
unfolding digits
painted_otherwise = refl
