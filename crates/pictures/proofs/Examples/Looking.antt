-- Operators that look up systemdict, make executable, keep a transformation or run through a path.
use Rattle.std.proofs.Common.{◌≡◌, ℕ, List, [], ◌∷◌, refl, Some, None, true, false}
use Rattle.std.specs.Prelude.{codes, Option, option_map}
use Rattle.std.specs.Fmt.{digits}
use Rattle.pictures.specs.Objects.{Truth, Call}
use Rattle.pictures.specs.Machine.{Segment}
use Rattle.pictures.specs.Scanner.{tokens}
use Rattle.pictures.specs.Documents.{started}
use Rattle.pictures.proofs.Examples.TwoUp.{to_the_end, call, number, left_by, only}

abbrev chain_by : List ℕ → Option (List Call)
chain_by text = option_map (λ s. s.graphics.chain) (to_the_end 1000 (started (tokens text)))

abbrev path_by : List ℕ → Option (List Segment)
path_by text = option_map (λ s. s.graphics.path) (to_the_end 1000 (started (tokens text)))

abbrev scaled : List ℕ → Call
scaled n = call (codes "scale") (number n ∷ number n ∷ [])

counted : left_by (codes "(a) (b) count 3 1 roll pop pop") ≡ only (number (codes "2"))
unfolding digits
counted = refl

none_counted : left_by (codes "count") ≡ only (number (codes "0"))
unfolding digits
none_counted = refl

-- objects of two sorts differ, and so do two dictionaries

sorts_differ : left_by (codes "1 /a eq") ≡ only (Truth false)
sorts_differ = refl

dictionaries_differ : left_by (codes "1 dict userdict ne") ≡ only (Truth true)
dictionaries_differ = refl

same_dictionary : left_by (codes "systemdict systemdict eq") ≡ only (Truth true)
same_dictionary = refl

-- this machine doesn't compare a name with a string, nor two procedures
not_told : left_by (codes "/a (a) eq") ≡ None
not_told = refl

not_told_either : left_by (codes "{} {} eq") ≡ None
not_told_either = refl

-- systemdict can't be written, and has the operators whatever their names mean

read_only : left_by (codes "systemdict wcheck userdict wcheck") ≡ Some (Truth true ∷ Truth false ∷ [])
read_only = refl

-- read-only for everyone who has the dictionary, until an older state is restored
made_read_only : left_by (codes "/d 1 dict def d d readonly pop wcheck") ≡ only (Truth false)
made_read_only = refl

writable_again : left_by (codes "/d 1 dict def save d readonly pop restore d wcheck") ≡ only (Truth true)
writable_again = refl

real_one : left_by (codes "/pop {} def 1 2 systemdict /pop get exec") ≡ only (number (codes "1"))
real_one = refl

known_there : left_by (codes "systemdict /pop known systemdict /mine known") ≡ Some (Truth false ∷ Truth true ∷ [])
known_there = refl

not_written : left_by (codes "systemdict /pop {} put") ≡ None
not_written = refl

-- a name made executable is looked up when it is run, and `forall` only pushes it: this machine stops there

run_by_name : left_by (codes "/x {1} def /x cvx exec") ≡ only (number (codes "1"))
run_by_name = refl

run_by_another : left_by (codes "/x {1} def /y /x cvx def y") ≡ only (number (codes "1"))
run_by_another = refl

made_a_procedure : left_by (codes "[1 /pop cvx] cvx 2 exch exec") ≡ only (number (codes "2"))
made_a_procedure = refl

not_pushed : left_by (codes "[/pop cvx] {} forall") ≡ None
not_pushed = refl

-- a matrix is filled in place: it changes wherever it is kept

set_again : chain_by (codes "2 2 scale matrix currentmatrix 3 3 scale setmatrix") ≡ Some (scaled (codes "2") ∷ [])
set_again = refl

filled_in_place : chain_by (codes "/m matrix def /n m currentmatrix def 2 2 scale m currentmatrix pop 3 3 scale n setmatrix") ≡ Some (scaled (codes "2") ∷ [])
filled_in_place = refl

-- restore undoes it
filled_before_save : chain_by (codes "/m matrix def m currentmatrix pop save 2 2 scale m currentmatrix pop restore 3 3 scale m setmatrix") ≡ Some []
filled_before_save = refl

not_filled : chain_by (codes "matrix setmatrix") ≡ None
not_filled = refl

-- each matrix holds its own
of_two : chain_by (codes "matrix currentmatrix 2 2 scale matrix currentmatrix pop setmatrix") ≡ Some []
of_two = refl

-- `copy` fills one with what another holds; any other operand is a count
copied : chain_by (codes "matrix currentmatrix 2 2 scale matrix copy setmatrix") ≡ Some []
copied = refl

copied_over : chain_by (codes "/m matrix def matrix currentmatrix 2 2 scale m currentmatrix copy pop m setmatrix") ≡ Some []
copied_over = refl

not_copied : chain_by (codes "matrix matrix copy setmatrix") ≡ None
not_copied = refl

copied_operands : left_by (codes "(a) (b) 2 copy pop pop pop") ≡ left_by (codes "(a)")
unfolding digits
copied_operands = refl

by_default : chain_by (codes "2 2 scale matrix defaultmatrix setmatrix") ≡ Some []
by_default = refl

initial_matrix : chain_by (codes "2 2 scale initmatrix") ≡ Some []
initial_matrix = refl

-- the path's elements, as procedures that draw it again

abbrev traced : List ℕ
traced = codes "{/moveto cvx} {/lineto cvx} {/curveto cvx} {/closepath cvx} pathforall"

made_again : path_by (codes "2 2 scale 1 2 moveto 3 4 lineto closepath [{/moveto cvx} {/lineto cvx} {/curveto cvx} {/closepath cvx} pathforall] cvx newpath exec")
    ≡ path_by (codes "2 2 scale 1 2 moveto 3 4 lineto closepath")
made_again = refl

in_their_order : left_by (codes "1 2 moveto 3 4 lineto {(m)} {(l)} {(c)} {(z)} pathforall pop") ≡ left_by (codes "1 2 (m) 3 4")
in_their_order = refl

-- another transformation gives other numbers
not_the_same : left_by (codes "1 2 moveto 2 2 scale {} {} {} {} pathforall") ≡ None
not_the_same = refl

moved_twice : left_by (codes "1 2 moveto 3 4 moveto {} {} {} {} pathforall") ≡ None
moved_twice = refl

-- what was pushed after the last save is gone, and the save stays

all_popped : chain_by (codes "2 2 scale save gsave 3 3 scale gsave 4 4 scale grestoreall grestoreall pop") ≡ Some (scaled (codes "2") ∷ [])
all_popped = refl

no_save : chain_by (codes "gsave 2 2 scale grestoreall") ≡ None
no_save = refl

-- the page as it is so far

erased : option_map (λ s. s.painted) (to_the_end 1000 (started (tokens (codes "0 0 9 9 rectfill erasepage")))) ≡ Some []
erased = refl

device_set : chain_by (codes "2 2 scale 1 dict dup /PageSize [200 300] put setpagedevice") ≡ Some []
device_set = refl
