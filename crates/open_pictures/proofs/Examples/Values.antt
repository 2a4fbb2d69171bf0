-- Operators on values at work: arrays in arrays, what is shared, strings that change; and where the machine still stops.
use Rattle.std.proofs.Common.{◌≡◌, ℕ, List, [], ◌∷◌, refl, Some, None, false, true}
use Rattle.std.specs.Prelude.{codes, Option, option_map}
use Rattle.std.specs.Fmt.{digits}
use Rattle.pictures.specs.Objects.{Number, Literal, Object, Plain, Truth, Array, Hexadecimal, Font}
use Rattle.pictures.specs.Machine.{Painting}
use Rattle.pictures.specs.Scanner.{tokens}
use Rattle.pictures.proofs.Examples.TwoUp.{number, end_by}
use Rattle.open_pictures.specs.Machine.{open_step}
use Rattle.open_pictures.specs.Documents.{begun_machine, plain_work}
use Rattle.open_pictures.specs.Values.{values}

-- what a text leaves on the operand stack, the topmost first
abbrev pub left_by : List ℕ → Option (List Object)
left_by text = option_map (λ s. s.work.operands) (end_by (open_step values false) 1000 (begun_machine plain_work (tokens text)))

-- what it paints, with which operands, the latest first
abbrev painted_by : List ℕ → Option (List (List Object))
painted_by text = option_map (λ s. calls s.painted) (end_by (open_step values false) 1000 (begun_machine plain_work (tokens text)))
  where
    calls : List Painting → List (List Object)
    calls [] = []
    calls (p ∷ ps) = p.call.operands ∷ calls ps

-- what is made of tokens alone is the machine's own array
as_before : left_by (codes "[1 2]") ≡ Some (Array (Number (codes "1") ∷ Number (codes "2") ∷ []) ∷ [])
as_before = refl

-- an array in an array
within : left_by (codes "[[1 2] [3]] dup length exch 1 get 0 get") ≡ Some (number (codes "3") ∷ number (codes "2") ∷ [])
unfolding digits
within = refl

-- each element in its order
each : left_by (codes "0 [[1 2] [3 4]] {{add} forall} forall") ≡ Some (number (codes "10") ∷ [])
unfolding digits
each = refl

loaded : left_by (codes "[[1] 2] aload length exch pop exch 0 get") ≡ Some (number (codes "1") ∷ number (codes "2") ∷ [])
unfolding digits
loaded = refl

-- What is put into an array is in it, whichever copy of the reference is used, also where it is an element.

shared : left_by (codes "3 array dup 1 7 put 1 get") ≡ Some (number (codes "7") ∷ [])
unfolding digits
shared = refl

shared_within : left_by (codes "/a 2 array def /b [a a] def a 0 5 put b 1 get 0 get") ≡ Some (number (codes "5") ∷ [])
unfolding digits
shared_within = refl

shared_interval : left_by (codes "/a 4 array def a 1 2 getinterval 0 8 put a 1 get") ≡ Some (number (codes "8") ∷ [])
unfolding digits
shared_interval = refl

filled : left_by (codes "1 2 3 3 array astore dup 1 [8 9] putinterval aload pop") ≡ Some (number (codes "9") ∷ number (codes "8") ∷ number (codes "1") ∷ [])
unfolding digits
filled = refl

-- `restore` takes back what was put
taken_back : left_by (codes "/a 1 array def a 0 1 put save a 0 2 put restore a 0 get") ≡ Some (number (codes "1") ∷ [])
unfolding digits
taken_back = refl

-- strings that change: what is shown is what the string has then
numbered : painted_by (codes "/s 5 string def 12 s cvs show 7 s cvs show") ≡ Some ((Plain (Hexadecimal (codes "37")) ∷ []) ∷ (Plain (Hexadecimal (codes "3132")) ∷ []) ∷ [])
unfolding digits
numbered = refl

characters : left_by (codes "(a\\050) dup length exch 1 get") ≡ Some (number (codes "40") ∷ number (codes "2") ∷ [])
unfolding digits
characters = refl

-- comparing: numbers with decimals, strings by their characters, arrays by what they are
decimals : left_by (codes "0.50 .5 eq 66.35 0.00 ne 1.5 2 lt") ≡ Some (Truth true ∷ Truth true ∷ Truth true ∷ [])
unfolding digits
decimals = refl

strings : left_by (codes "12 5 string cvs dup (12) eq exch (1) eq (a) /a eq") ≡ Some (Truth true ∷ Truth false ∷ Truth true ∷ [])
unfolding digits
strings = refl

references : left_by (codes "1 array dup dup eq exch 1 array eq") ≡ Some (Truth false ∷ Truth true ∷ [])
unfolding digits
references = refl

-- the machine's own arrays and strings aren't shared, so nothing can be put into them
not_shared : left_by (codes "[1 2] dup 0 9 put") ≡ None
unfolding digits
not_shared = refl

not_shared_string : left_by (codes "(ab) dup 0 65 put") ≡ None
unfolding digits
not_shared_string = refl

outside : left_by (codes "2 array 2 1 put") ≡ None
unfolding digits
outside = refl

-- names that the sheet's text puts can't be stored
not_stored : left_by (codes "/showpage 1 store") ≡ None
unfolding digits
not_stored = refl

stored : left_by (codes "/x 1 def 1 dict begin /x 2 store end x") ≡ Some (number (codes "2") ∷ [])
unfolding digits
stored = refl

-- an executable array: it has the elements of then, and nothing is put into the array any more
executable : left_by (codes "[{1} /pop cvx] dup cvx /p exch def 7 p exch 0 get exec") ≡ Some (number (codes "1") ∷ number (codes "7") ∷ [])
unfolding digits
executable = refl

frozen : left_by (codes "[{1} 2] dup cvx pop 0 3 put") ≡ None
unfolding digits
frozen = refl

-- a font copied and given another encoding
encoded : left_by (codes "/X /Times-Roman findfont dup length dict begin {1 index /FID ne {def} {pop pop} ifelse} forall /Encoding ISOLatin1Encoding def currentdict end definefont")
    ≡ Some (Font (Literal (codes "X") ∷ []) ∷ [])
unfolding digits
encoded = refl

-- names that interpreters have
asked : left_by (codes "/setpacking where {pop currentpacking true setpacking} if systemdict /languagelevel 2 copy known {get exec} {pop pop 1} ifelse")
    ≡ Some (number (codes "3") ∷ Truth false ∷ [])
unfolding digits
asked = refl

defined : left_by (codes "/null 1 def /null where {pop null} if") ≡ Some (number (codes "1") ∷ [])
unfolding digits
defined = refl

-- a width is a term
width : left_by (codes "/Times-Roman findfont 12 scalefont setfont (ab) stringwidth pop") ≡ Some (number (codes "/Times-Roman 12 <6162> stringwidth pop") ∷ [])
unfolding digits
width = refl
