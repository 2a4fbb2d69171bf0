-- The box that a document has in its trailer (DSC 3.0, General Header Comments: a value may be there).
use Rattle.std.specs.Prelude.{ℕ, Bool, true, false, ◌&&◌, if◌then◌else◌, List, [], ◌∷◌, codes, Option, Some, None}
use Rattle.rules.specs.Units.{fields, is_comment}
use Rattle.rules.specs.Parts.{NestedUnit, is_outermost_line, trailer}
use Rattle.dsc.specs.declared.boxes.Section.{Section}
use Rattle.dsc.specs.declared.boxes.Section.TheVariants.{Preamble, Pages, Trailer}

-- the first of two, if there is one, or else the second
abbrev pub first_there : {A : Type 0} → Option A → Option A → Option A
first_there (Some x) other = Some x
first_there None other = other

-- the fields of a box that an outermost line has
abbrev pub box_in : NestedUnit → Option (List (List ℕ))
box_in u =
    if is_outermost_line u && is_comment (codes "%%BoundingBox") u.unit.content then Some (fields u.unit.content) else None

abbrev pub box_among : List NestedUnit → Option (List (List ℕ))
box_among [] = None
box_among (u ∷ us) = first_there (box_in u) (box_among us)

-- those of the first box of the trailer
abbrev pub trailer_box : List NestedUnit → Option (List (List ℕ))
trailer_box us = box_among (trailer us)

-- One pass over the units.

-- the part that a unit is in, if the one before it is in this one
abbrev pub part_after : Section → (page ends : Bool) → Section
part_after Preamble true ends = Pages
part_after Preamble false ends = Preamble
part_after Pages page true = Trailer
part_after Pages page false = Pages
part_after Trailer page ends = Trailer

-- what is found up to a unit of this part
abbrev pub found_after : Section → Option (List (List ℕ)) → NestedUnit → Option (List (List ℕ))
found_after Trailer found u = first_there found (box_in u)
found_after Pages found u = found
found_after Preamble found u = found
