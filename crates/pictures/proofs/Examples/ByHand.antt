-- Pictures written by hand, in the order in which they are painted: each call as in PostScript, `10 20 moveto`. And
-- the runs with which they are compared.
use Rattle.std.proofs.Common.{ℕ, ◌*◌, List, [], ◌∷◌, map, reverse, Some, None, ◌==◌}
use Rattle.std.specs.Prelude.{codes, Result, Ok, pos, Option, option_map, if◌then◌else◌}
use Rattle.rules.specs.Bytes.{space}
use Rattle.rules.specs.Papers.{Pt, points}
use Rattle.rules.specs.Specification.{Modifier, Moved, Spec}
use Rattle.rules.specs.Units.{◌>>=◌}
use Rattle.rules.specs.Run.{document_of, DocumentFault}
use Rattle.rules.specs.Output.{Frame, framed, output}
use Rattle.rules.proofs.Examples.Written.{measure}
use Rattle.pictures.specs.Objects.{Number, Plain, Array, Call}
use Rattle.pictures.specs.Machine.{Segment, Clip, Painting}
use Rattle.pictures.specs.Scanner.{tokens}
use Rattle.pictures.specs.Documents.{started}
use Rattle.pictures.proofs.Examples.TwoUp.{call, to_the_end}

-- the words of a text, with one space between them
abbrev onto_first : ℕ → List (List ℕ) → List (List ℕ)
onto_first b [] = (b ∷ []) ∷ []
onto_first b (word ∷ words) = (b ∷ word) ∷ words

abbrev pub words : List ℕ → List (List ℕ)
words [] = [] ∷ []
words (b ∷ bs) = if b == space then [] ∷ words bs else onto_first b (words bs)

abbrev called : List (List ℕ) → Call
called [] = call [] []
called (name ∷ operands) = call name (map (λ text. Plain (Number text)) operands)

-- numbers and an operator
abbrev pub says : List ℕ → Call
says text = called (reverse (words text))

-- six numbers and `concat`
abbrev pub matrix : List ℕ → Call
matrix text = call (codes "concat") (Array (map Number (words text)) ∷ [])

-- the segments of a path, all drawn under these matrices
abbrev pub path : List Call → List (List ℕ) → List Segment
path chain texts = reverse (map (λ text. record { call = says text; chain = chain; settings = [] }) texts)

-- a paper of 200 by 300 points, without a border and with one of one point
abbrev pub paper : Frame
paper = record { paper = points 200 300; border = None }

abbrev pub bordered : Frame
bordered = framed (points 200 300) (Some (pos 127_000_000_000))

-- around that paper
abbrev pub edge : List Call → List Segment
edge chain = path chain (
    codes "0 0 moveto" ∷ codes "200 0 lineto" ∷ codes "200 300 lineto" ∷ codes "0 300 lineto" ∷ codes "closepath" ∷ [])

abbrev pub clip_to : List Segment → Clip
clip_to segments = record { name = codes "clip"; path = segments }

-- an offset in whole points
abbrev pub by : (x y : ℕ) → Modifier
by x y = Moved (measure (pos (x * 1_000_000_000)) Pt) (measure (pos (y * 1_000_000_000)) Pt)

-- the sheets as they are printed, each with its paintings as they are painted
abbrev pub in_order : List (List Painting) → List (List Painting)
in_order sheets = reverse (map reverse sheets)

-- what these bytes print
abbrev pub printed_of : List ℕ → Option (List (List Painting))
printed_of text = option_map (λ s. in_order s.sheets) (to_the_end 10_000 (started (tokens text)))

-- what a document's output prints
abbrev pub prints : List ℕ → (sides : Option ℕ) → Spec → Frame → Result (Option (List (List Painting))) DocumentFault
prints document sides spec frame = document_of document >>= λ us. Ok (printed_of (output frame sides spec us))
