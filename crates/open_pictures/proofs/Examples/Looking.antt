-- A further operator that looks at where the page is: it isn't placeless, and the sheet's picture is another one than the page's
-- own, placed. It answers the number of matrices that are concatenated, as `0 0 transform` of the Reference answers where the page is.
use Rattle.std.proofs.Common.{◌≡◌, ℕ, Bool, List, [], ◌∷◌, refl, Some, None, false, ap, length, true≢false, map}
use Rattle.std.specs.Prelude.{codes, Option, Ok, bytes_eq, if◌then◌else◌, decimal, option_map}
use Rattle.std.specs.Fmt.{digits}
use Rattle.rules.specs.Units.{◌>>=◌}
use Rattle.rules.specs.Run.{document_of}
use Rattle.rules.specs.Output.{output}
use Rattle.pictures.specs.Objects.{Token, Number, Plain, Name, Object}
use Rattle.pictures.specs.Machine.{State, Painting, push}
use Rattle.pictures.specs.Placing.{Around}
use Rattle.pictures.specs.Scanner.{tokens}
use Rattle.pictures.specs.Documents.{started}
use Rattle.pictures.proofs.Examples.TwoUp.{call, number, end_by}
use Rattle.pictures.proofs.Examples.Premises.{document_with, half, frame}
use Rattle.open_pictures.specs.Machine.{Further, open_step}
use Rattle.open_pictures.specs.Blindness.{IsPlaceless}

abbrev answered : List Token → State → Option State
answered (Name name ∷ ts) s =
    if bytes_eq name (codes "transform") then Some (push (Plain (Number (decimal (length s.graphics.chain)))) (record s { left = ts })) else None
answered ts s = None

abbrev x : Further
x s = answered s.left s

abbrev place : Around
place = record {
  place = record { chain = call (codes "scale") (number (codes "2") ∷ number (codes "2") ∷ []) ∷ []; clip = [] };
  left = [];
  saves = [];
  painted = [];
  sheets = [];
}

abbrev start : State
start = started (tokens (codes "transform"))

abbrev operands_of : Option State → List Object
operands_of None = []
operands_of (Some s) = s.work.operands

abbrev digit_of : List Object → ℕ
digit_of (Plain (Number (d ∷ ds)) ∷ os) = d
digit_of os = 0

not_placeless : IsPlaceless x → ⊥
unfolding digits
not_placeless p = true≢false (ap is_nought (p place start (push (number (codes "0")) (record start { left = [] })) refl refl).1)
  where
    is_nought : Option State → Bool
    is_nought s = bytes_eq (digit_of (operands_of s) ∷ []) (codes "1")

-- a line that is as high as that

abbrev line : List ℕ
line = codes "0 0 moveto 9 transform lineto stroke"

-- of each painting on each sheet the operands of its path's elements, the latest first
abbrev points : List (List Painting) → List (List (List (List Object)))
points sheets = map (λ sheet. map (λ p. map (λ y. y.call.operands) p.graphics.path) sheet) sheets

abbrev sheets_of : List ℕ → Option (List (List (List (List Object))))
sheets_of text = option_map (λ s. points s.sheets) (end_by (open_step x false) 2000 (started (tokens text)))

abbrev line_to : List ℕ → List (List Object)
line_to y = (number y ∷ number (codes "9") ∷ []) ∷ (number (codes "0") ∷ number (codes "0") ∷ []) ∷ []

-- by itself
own : sheets_of (document_with [] (line ∷ [])) ≡ Some ((line_to (codes "0") ∷ []) ∷ [])
unfolding digits
own = refl

-- on its sheet it is another line, and not that one placed
on_its_sheet : (document_of (document_with [] (line ∷ [])) >>= λ us. Ok (sheets_of (output frame None half us)))
    ≡ Ok (Some ((line_to (codes "1") ∷ []) ∷ []))
unfolding digits
on_its_sheet = refl
