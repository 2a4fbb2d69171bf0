-- A document of two pages, two on a sheet, from its bytes to the picture.
use Rattle.std.proofs.Common.{◌≡◌, ℕ, zero, suc, List, [], ◌∷◌, refl, Some, None, false, flat_map}
use Rattle.std.specs.Prelude.{codes, Result, Ok, pos, Option, option_map}
use Rattle.std.specs.Fmt.{digits}
use Rattle.rules.specs.Bytes.{line}
use Rattle.rules.specs.Papers.{Pt, points}
use Rattle.rules.specs.Specification.{Scaled, Moved, Spec, settled}
use Rattle.rules.specs.Units.{◌>>=◌}
use Rattle.rules.specs.Run.{document_of, DocumentFault}
use Rattle.rules.specs.Output.{Frame, output}
use Rattle.rules.proofs.Examples.Written.{item, measure, written}
use Rattle.pictures.specs.Objects.{Token, Number, Text, Literal, Plain, Object, Array, Font, Call}
use Rattle.pictures.specs.Machine.{State, Segment, Clip, Painting, step}
use Rattle.pictures.specs.Scanner.{tokens}
use Rattle.pictures.specs.Documents.{started}

abbrev pub lines : List (List ℕ) → List ℕ
lines texts = flat_map line texts

-- Runs by steps of any machine.

abbrev stepped : (State → State) → State → Option State → State
stepped f s None = s
stepped f s (Some t) = f t

-- as far as it gets, for at most this many steps
abbrev pub far : (State → Option State) → ℕ → State → State
far f zero s = s
far f (suc n) s = stepped (λ t. far f n t) s (f s)

abbrev counted : (State → ℕ) → Option State → ℕ
counted f None = 0
counted f (Some t) = suc (f t)

-- in so many steps
abbrev pub count : (State → Option State) → ℕ → State → ℕ
count f zero s = 0
count f (suc n) s = counted (λ t. count f n t) (f s)

abbrev if_done : List Token → State → Option State
if_done [] s = Some s
if_done (t ∷ ts) s = None

abbrev finished : State → Option State
finished s = if_done s.left s

-- until nothing is left
abbrev pub end_by : (State → Option State) → ℕ → State → Option State
end_by f n s = finished (far f n s)

abbrev pub to_the_end : ℕ → State → Option State
to_the_end n s = end_by (step false) n s

abbrev pub sheets_of : List ℕ → Option (List (List Painting))
sheets_of text = option_map (λ s. s.sheets) (to_the_end 2000 (started (tokens text)))

abbrev pub document : List ℕ
document = lines (
    codes "%!PS-Adobe-3.0"
    ∷ codes "%%Pages: 2"
    ∷ codes "%%EndComments"
    ∷ codes "/m {moveto} bind def"
    ∷ codes "%%Page: 1 1"
    ∷ codes "gsave .5 setgray 10 20 m 0 5 rlineto stroke grestore"
    ∷ codes "showpage"
    ∷ codes "%%Page: 2 2"
    ∷ codes "/Times-Roman findfont 12 scalefont setfont"
    ∷ codes "save 2 3 translate 72 72 m (Two) show restore"
    ∷ codes "showpage"
    ∷ codes "%%Trailer"
    ∷ codes "%%EOF"
    ∷ [])

abbrev pub two_up : Spec
two_up = settled (written 2 (
    (item false 0 (Scaled (pos 500_000_000) ∷ [])
    ∷ item false 1 (Scaled (pos 500_000_000) ∷ Moved (measure (pos 100_000_000_000) Pt) (measure (pos 0) Pt) ∷ [])
    ∷ []) ∷ []))

abbrev pub frame : Frame
frame = record { paper = points 200 300; border = None }

abbrev pub imposed : Result (List ℕ) DocumentFault
imposed = document_of document >>= λ us. Ok (output frame None two_up us)

-- the picture, by hand

abbrev pub call : List ℕ → List Object → Call
call name operands = record { name = name; operands = operands }

abbrev pub number : List ℕ → Object
number text = Plain (Number text)

-- what is left on the operand stack, the topmost first
abbrev pub left_by : List ℕ → Option (List Object)
left_by text = option_map (λ s. s.work.operands) (to_the_end 1000 (started (tokens text)))

abbrev pub only : Object → Option (List Object)
only o = Some (o ∷ [])

abbrev pub segment : List Call → List ℕ → List Object → Segment
segment chain name operands = record { call = call name operands; chain = chain; settings = [] }

abbrev half_at : List ℕ → Call
half_at x = call (codes "concat") (Array (
    Number (codes "0.5") ∷ Number (codes "0") ∷ Number (codes "0") ∷ Number (codes "0.5") ∷ Number x
    ∷ Number (codes "0") ∷ []) ∷ [])

abbrev paper_at : List ℕ → Clip
paper_at x = record {
  name = codes "clip";
  path =
      segment (half_at x ∷ []) (codes "closepath") []
      ∷ segment (half_at x ∷ []) (codes "lineto") (number (codes "300") ∷ number (codes "0") ∷ [])
      ∷ segment (half_at x ∷ []) (codes "lineto") (number (codes "300") ∷ number (codes "200") ∷ [])
      ∷ segment (half_at x ∷ []) (codes "lineto") (number (codes "0") ∷ number (codes "200") ∷ [])
      ∷ segment (half_at x ∷ []) (codes "moveto") (number (codes "0") ∷ number (codes "0") ∷ []) ∷ [];
}

abbrev pub first_line : Painting
first_line = record {
  call = call (codes "stroke") [];
  graphics = record {
    chain = half_at (codes "0") ∷ [];
    path =
        segment (half_at (codes "0") ∷ []) (codes "rlineto") (number (codes "5") ∷ number (codes "0") ∷ [])
        ∷ segment (half_at (codes "0") ∷ []) (codes "moveto") (number (codes "20") ∷ number (codes "10") ∷ []) ∷ [];
    clip = paper_at (codes "0") ∷ [];
    settings = call (codes "setgray") (number (codes ".5") ∷ []) ∷ [];
  };
}

abbrev shift : Call
shift = call (codes "translate") (number (codes "3") ∷ number (codes "2") ∷ [])

abbrev pub second_text : Painting
second_text = record {
  call = call (codes "show") (Plain (Text (codes "Two")) ∷ []);
  graphics = record {
    chain = shift ∷ half_at (codes "100") ∷ [];
    path =
        segment (shift ∷ half_at (codes "100") ∷ []) (codes "moveto")
        (number (codes "72") ∷ number (codes "72") ∷ []) ∷ [];
    clip = paper_at (codes "100") ∷ [];
    settings = call (codes "setfont") (Font (Number (codes "12") ∷ Literal (codes "Times-Roman") ∷ []) ∷ []) ∷ [];
  };
}

-- one sheet, with the line of the first page and the text of the second, the latest first
two_pages_on_a_sheet : (imposed >>= λ text. Ok (sheets_of text)) ≡ Ok (Some ((second_text ∷ first_line ∷ []) ∷ []))
unfolding digits
two_pages_on_a_sheet = refl
