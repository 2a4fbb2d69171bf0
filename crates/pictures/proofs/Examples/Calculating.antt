-- Numbers that are calculated and compared, loops, arrays, names that are looked up, images.
use Rattle.std.proofs.Common.{◌≡◌, ℕ, List, [], ◌∷◌, refl, Some, None, true, false, map, reverse}
use Rattle.std.specs.Prelude.{codes, Ok, Option, option_map}
use Rattle.std.specs.Fmt.{digits}
use Rattle.pictures.specs.Objects.{Number, Text, Hexadecimal, Plain, Truth, SystemDictionary, Object, Array, Call}
use Rattle.pictures.specs.Machine.{Painting}
use Rattle.pictures.specs.Scanner.{tokens}
use Rattle.pictures.specs.Documents.{started}
use Rattle.pictures.proofs.Examples.TwoUp.{call, number, left_by, only, to_the_end}
use Rattle.pictures.proofs.Examples.ByHand.{says}
use Rattle.pictures.proofs.Examples.Premises.{imposed, placed}

abbrev texts : List ℕ → Object
texts text = Plain (Text text)

-- of each painting in order, the segments of its path
abbrev paths_of : List Painting → List (List Call)
paths_of ps = reverse (map (λ p. reverse (map (λ x. x.call) p.graphics.path)) ps)

abbrev paths_by : List ℕ → Option (List (List Call))
paths_by text = option_map (λ s. paths_of s.painted) (to_the_end 1000 (started (tokens text)))

-- whole numbers

sum : left_by (codes "595 12 add") ≡ only (number (codes "607"))
unfolding digits
sum = refl

below_zero : left_by (codes "12 595 sub") ≡ only (number (codes "-583"))
unfolding digits
below_zero = refl

product : left_by (codes "-3 +4 mul neg") ≡ only (number (codes "12"))
unfolding digits
product = refl

-- other numbers stay terms

not_whole : left_by (codes "0.1 .2 add 2 mul") ≡ only (number (codes "0.1 .2 add 2 mul"))
not_whole = refl

half_a_page : left_by (codes "595 2 div neg") ≡ only (number (codes "595 2 div neg"))
half_a_page = refl

drawn_with_it : paths_by (codes "595 2 div 10 moveto 5 5 add 0 rlineto stroke")
    ≡ Some ((
    call (codes "moveto") (number (codes "10") ∷ number (codes "595 2 div") ∷ [])
    ∷ says (codes "10 0 rlineto") ∷ []) ∷ [])
unfolding digits
drawn_with_it = refl

-- comparing

compared : left_by (codes "3 4 lt 4 3 le 5 5 ge 007 7 eq /a /b ne")
    ≡ Some (Truth true ∷ Truth true ∷ Truth true ∷ Truth false ∷ Truth true ∷ [])
compared = refl

not_compared : left_by (codes "0.5 1 lt") ≡ None
not_compared = refl

either_of_two : left_by (codes "2 1 gt 1 1 ne or {(yes)} {(no)} ifelse") ≡ only (Plain (Text (codes "yes")))
either_of_two = refl

-- loops

up_and_down : left_by (codes "10 10 30 {} for 3 -2 0 {} for 1 1 0 {} for")
    ≡ Some (map number (codes "1" ∷ codes "3" ∷ codes "30" ∷ codes "20" ∷ codes "10" ∷ []))
unfolding digits
up_and_down = refl

no_step : left_by (codes "1 0 2 {} for") ≡ None
no_step = refl

three_lines : paths_by (codes "0 10 20 {0 moveto 0 30 rlineto stroke} for")
    ≡ Some (
    (says (codes "0 0 moveto") ∷ says (codes "0 30 rlineto") ∷ [])
    ∷ (says (codes "10 0 moveto") ∷ says (codes "0 30 rlineto") ∷ [])
    ∷ (says (codes "20 0 moveto") ∷ says (codes "0 30 rlineto") ∷ []) ∷ [])
unfolding digits
three_lines = refl

three_lines_placed : imposed [] (codes "0 10 20 {0 moveto 0 30 rlineto stroke} for" ∷ [])
    ≡ Ok (Some ((placed ∷ placed ∷ placed ∷ []) ∷ []))
unfolding digits
three_lines_placed = refl

-- arrays

each_element : left_by (codes "0 [1 2 3] {add} forall") ≡ only (number (codes "6"))
unfolding digits
each_element = refl

one_element : left_by (codes "[7 8 9] 1 get") ≡ only (number (codes "8"))
one_element = refl

none_there : left_by (codes "[7 8 9] 3 get") ≡ None
none_there = refl

how_many : left_by (codes "[7 8 9] length") ≡ only (number (codes "3"))
unfolding digits
how_many = refl

-- and of a procedure, in which an inner one is one element
how_many_there : left_by (codes "{1 {2 {3} 4} if} length {} length") ≡ Some (map number (codes "0" ∷ codes "3" ∷ []))
unfolding digits
how_many_there = refl

all_of_them : left_by (codes "[7 8] aload pop") ≡ Some (map number (codes "8" ∷ codes "7" ∷ []))
all_of_them = refl

-- dictionaries

from_pairs : left_by (codes "<</a 1/b[2]>> begin b a") ≡ Some (number (codes "1") ∷ Array (Number (codes "2") ∷ []) ∷ [])
from_pairs = refl

the_first_counts : left_by (codes "<< /a 1 /a 2 >> /a get") ≡ only (number (codes "1"))
the_first_counts = refl

no_pair : left_by (codes "<< /a >>") ≡ None
no_pair = refl

-- operands: the examples of the Reference

rolled_down : left_by (codes "(a)(b)(c) 3 -1 roll") ≡ Some (map texts (codes "a" ∷ codes "c" ∷ codes "b" ∷ []))
rolled_down = refl

rolled_up : left_by (codes "(a)(b)(c) 3 1 roll") ≡ Some (map texts (codes "b" ∷ codes "a" ∷ codes "c" ∷ []))
rolled_up = refl

rolled_none : left_by (codes "(a)(b)(c) 3 0 roll") ≡ Some (map texts (codes "c" ∷ codes "b" ∷ codes "a" ∷ []))
rolled_none = refl

copied : left_by (codes "(a)(b)(c) 2 copy") ≡ Some (map texts (codes "c" ∷ codes "b" ∷ codes "c" ∷ codes "b" ∷ codes "a" ∷ []))
copied = refl

too_few : left_by (codes "(a)(b) 3 copy") ≡ None
too_few = refl

-- names that are looked up

found : left_by (codes "/x 5 def /x where {/x get} if") ≡ only (number (codes "5"))
found = refl

not_found : left_by (codes "/y where {pop} if") ≡ Some []
not_found = refl

-- `where` finds an operator in systemdict
of_the_system : left_by (codes "/moveto where") ≡ Some (Truth true ∷ SystemDictionary ∷ [])
of_the_system = refl

-- it doesn't answer that there is none, if an interpreter has one
of_another_system : left_by (codes "/languagelevel where {pop} if") ≡ None
of_another_system = refl

-- a page by itself may not look up showpage like this: the sheet's text has put it in userdict
asks_where : imposed [] (codes "/showpage where {pop} if 0 0 moveto 9 9 lineto stroke" ∷ []) ≡ Ok (Some ((placed ∷ []) ∷ []))
unfolding digits
asks_where = refl

-- images, opaque as they are

abbrev calls_by : List ℕ → Option (List Call)
calls_by text = option_map (λ s. map (λ p. p.call) s.painted) (to_the_end 1000 (started (tokens text)))

abbrev eight : Object
eight = Array (map Number (codes "8" ∷ codes "0" ∷ codes "0" ∷ codes "-8" ∷ codes "0" ∷ codes "8" ∷ []))

gray_image : calls_by (codes "8 8 1 [8 0 0 -8 0 8] <00FF00ff> image")
    ≡ Some (call (codes "image") (
    Plain (Hexadecimal (codes "00FF00ff")) ∷ eight ∷ number (codes "1") ∷ number (codes "8") ∷ number (codes "8") ∷ []) ∷ [])
gray_image = refl

mask : calls_by (codes "8 8 true [8 0 0 -8 0 8] <00FF00ff> imagemask")
    ≡ Some (call (codes "imagemask") (
    Plain (Hexadecimal (codes "00FF00ff")) ∷ eight ∷ Truth true ∷ number (codes "8") ∷ number (codes "8") ∷ []) ∷ [])
mask = refl

image_placed : imposed [] (codes "9 9 scale 8 8 true [8 0 0 -8 0 8] <00FF00ff> imagemask" ∷ [])
    ≡ Ok (Some (((codes "scale" ∷ codes "concat" ∷ [], codes "clip" ∷ []) ∷ []) ∷ []))
unfolding digits
image_placed = refl
