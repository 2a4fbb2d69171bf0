-- The comments of a header, a line at a time.
use Rattle.std.specs.Prelude.{if◌then◌else◌, Option, Some, None, map, filter, nat_eq, codes, option_map}
use Rattle.std.specs.List.{starts_with}
use Rattle.std.proofs.Common.{Bool, true, false, true≢false, ◌≡◌, ℕ, zero, suc, ◌<◌, List, [], ◌∷◌, length, drop, refl, sym, ap, arith, ◌∙◌}
use Rattle.rules.specs.Parts.{NestedUnit, is_outermost_line, trailer}
use Rattle.rules.specs.Units.{content_of, is_comment, line_len}
use Rattle.dsc.specs.Fields.{fields_in}
use Rattle.dsc.proofs.Cases.{by_test}
use Rattle.dsc.proofs.LineByLine.{by_line}
use Rattle.dsc.specs.TrailerBoxes.{box_among, trailer_box}
use Rattle.papers.specs.Media.{comment_fields, comment_value, comment_values, contents, contents_of, continued, trailer_lines, value_of}

no_lines : (k : ℕ) → contents_of k [] ≡ contents_of 0 []
no_lines zero = refl
no_lines (suc k) = refl

pub contents_step : (b : ℕ) (bs : List ℕ) → contents (b ∷ bs) ≡ content_of (b ∷ bs) ∷ contents (drop (line_len (b ∷ bs)) (b ∷ bs))
contents_step b bs = by_line contents_of (λ b bs rest. content_of (b ∷ bs) ∷ rest) no_lines (λ k b bs. refl) b bs

abbrev choose : (name content : List ℕ) → List (List ℕ) → Bool → List (List ℕ)
choose name content rest test = if test then value_of content ∷ continued rest else comment_values name rest

pub found_here : (name text : List ℕ) → 0 < length text → is_comment name (content_of text) ≡ true
    → comment_values name (contents text) ≡ value_of (content_of text) ∷ continued (contents (drop (line_len text) text))
found_here name [] l is = absurd (omega (arith, l))
found_here name (b ∷ bs) l is =
    ap (comment_values name) (contents_step b bs) ∙ ap (choose name (content_of (b ∷ bs)) (contents (drop (line_len (b ∷ bs)) (b ∷ bs)))) is

pub found_behind : (name text : List ℕ) → 0 < length text → is_comment name (content_of text) ≡ false
    → comment_values name (contents text) ≡ comment_values name (contents (drop (line_len text) text))
found_behind name [] l is = absurd (omega (arith, l))
found_behind name (b ∷ bs) l is =
    ap (comment_values name) (contents_step b bs) ∙ ap (choose name (content_of (b ∷ bs)) (contents (drop (line_len (b ∷ bs)) (b ∷ bs)))) is

abbrev go_on : (content : List ℕ) → List (List ℕ) → Bool → List (List ℕ)
go_on content rest test = if test then drop 3 content ∷ continued rest else []

pub continues : (text : List ℕ) → starts_with nat_eq (content_of text) (codes "%%+") ≡ true
    → continued (contents text) ≡ drop 3 (content_of text) ∷ continued (contents (drop (line_len text) text))
continues [] is = absurd (true≢false (sym is))
continues (b ∷ bs) is = ap continued (contents_step b bs) ∙ ap (go_on (content_of (b ∷ bs)) (contents (drop (line_len (b ∷ bs)) (b ∷ bs)))) is

-- the first line of a comment is the comment itself
abbrev first_of : List (List ℕ) → Option (List ℕ)
first_of [] = None
first_of (value ∷ more) = Some value

first_is : (name : List ℕ) (lines : List (List ℕ)) → comment_value name lines ≡ first_of (comment_values name lines)
first_is name [] = refl
first_is name (content ∷ rest) = by_test (is_comment name content) (λ is. rw is refl) (λ isnt. rw isnt (first_is name rest))

pub none_said : (name : List ℕ) (lines : List (List ℕ)) → comment_values name lines ≡ [] → comment_value name lines ≡ None
none_said name lines e = first_is name lines ∙ ap first_of e

pub first_said : (name : List ℕ) (lines : List (List ℕ)) (value : List ℕ) (more : List (List ℕ))
    → comment_values name lines ≡ value ∷ more → comment_value name lines ≡ Some value
first_said name lines value more e = first_is name lines ∙ ap first_of e

pub none_told : (name : List ℕ) (lines : List (List ℕ)) → comment_values name lines ≡ [] → comment_fields name lines ≡ None
none_told name lines e = ap (option_map fields_in) (none_said name lines e)

pub first_told : (name : List ℕ) (lines : List (List ℕ)) (value : List ℕ) (more : List (List ℕ))
    → comment_values name lines ≡ value ∷ more → comment_fields name lines ≡ Some (fields_in value)
first_told name lines value more e = ap (option_map fields_in) (first_said name lines value more e)

-- the box of the trailer is that of its lines
box_in_lines : (us : List NestedUnit) → box_among us ≡ comment_fields (codes "%%BoundingBox") (map (λ u. u.unit.content) (filter is_outermost_line us))
box_in_lines [] = refl
box_in_lines (u ∷ us) = by_test (is_outermost_line u)
    (λ out. rw out (by_test (is_comment (codes "%%BoundingBox") u.unit.content)
    (λ is. rw is refl)
    (λ isnt. rw isnt (box_in_lines us))))
    (λ within. rw within (box_in_lines us))

pub trailer_box_is : (us : List NestedUnit) → trailer_box us ≡ comment_fields (codes "%%BoundingBox") (trailer_lines us)
trailer_box_is us = box_in_lines (trailer us)
