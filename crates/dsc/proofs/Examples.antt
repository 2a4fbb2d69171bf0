-- Which lines belong to the header comments, which have a box, and when parts serve for another text, worked out.
use Rattle.std.proofs.Common.{◌≡◌, ◌<◌, ℕ, zero, suc, true, false, List, [], ◌∷◌, ap, arith, refl, Result}
use Rattle.std.specs.Prelude.{codes, None, Some, Ok, Err, slice_index_or}
use Rattle.rules.specs.Parts.{NestedUnit, page_run, split_pages}
use Rattle.rules.specs.Run.{DocumentFault}
use Rattle.dsc.specs.Units.{units_of}
use Rattle.dsc.specs.Marks.{starts_of}
use Rattle.dsc.specs.BodyStarts.{IsBodyStart}
use Rattle.dsc.specs.Documents.{HasItsParts}
use Rattle.dsc.specs.Serving.{ArePartsOf, Serve}
use Rattle.dsc.specs.declared.parts.Parts.{Parts}
use Rattle.dsc.specs.Header.{stays, is_last}
use Rattle.dsc.specs.TrailerBoxes.{box_in, box_among}
use Rattle.dsc.proofs.Serving.{served}

-- Which lines continue the header comments.

comment : stays (codes "%%Title: a") ≡ true
comment = refl

continued : stays (codes "%%+ b") ≡ true
continued = refl

adobe : stays (codes "%!PS-Adobe-3.0") ≡ true
adobe = refl

-- a comment that isn't DSC's: the second byte isn't printable, or there is none
blank_behind : stays (codes "% a") ≡ false
blank_behind = refl

alone : stays (codes "%") ≡ false
alone = refl

text : stays (codes "/a 1 def") ≡ false
text = refl

prolog : stays (codes "%%BeginProlog") ≡ false
prolog = refl

page : stays (codes "%%Page: 1 1") ≡ false
page = refl

-- `%%Page` without a colon, and `%%Pages:`, are no page lines
no_colon : stays (codes "%%Page 1") ≡ true
no_colon = refl

count_of_pages : stays (codes "%%Pages: 4") ≡ true
count_of_pages = refl

trailer : stays (codes "%%Trailer") ≡ false
trailer = refl

end_of_file : stays (codes "%%EOF") ≡ false
end_of_file = refl

-- a key that is longer than these is a different key
longer_key : stays (codes "%%EOFs") ≡ true
longer_key = refl

longer_trailer_key : stays (codes "%%TrailerX") ≡ true
longer_trailer_key = refl

-- each key that begins so ends them, whatever follows
data_block : stays (codes "%%BeginData: 1") ≡ false
data_block = refl

begin_alone : stays (codes "%%Begin") ≡ false
begin_alone = refl

shorter_than_begin : stays (codes "%%Begi") ≡ true
shorter_than_begin = refl

-- the printable characters, at both ends
first_that_prints : stays (37 ∷ 33 ∷ []) ≡ true
first_that_prints = refl

before_first_that_prints : stays (37 ∷ 32 ∷ []) ≡ false
before_first_that_prints = refl

last_that_prints : stays (37 ∷ 126 ∷ []) ≡ true
last_that_prints = refl

behind_last_that_prints : stays (37 ∷ 127 ∷ []) ≡ false
behind_last_that_prints = refl

-- Which line is the last of them.

end_comments : is_last (codes "%%EndComments") ≡ true
end_comments = refl

blank_behind_end_comments : is_last (codes "%%EndComments ") ≡ true
blank_behind_end_comments = refl

longer_end_comments : is_last (codes "%%EndCommentsX") ≡ false
longer_end_comments = refl

shorter_end_comments : is_last (codes "%%EndComment") ≡ false
shorter_end_comments = refl

-- the prolog may end after them, not with them
end_of_prolog : is_last (codes "%%EndProlog") ≡ false
end_of_prolog = refl

-- Which box a line has.

-- a line with this content, at this depth of embedded documents
abbrev a_line : (depth : ℕ) (content : List ℕ) → NestedUnit
a_line depth content = record { depth = depth; unit = record { content = content; bytes = []; is_block = false } }

box : box_in (a_line 0 (codes "%%BoundingBox: 0 0 612 792")) ≡ Some (codes "0" ∷ codes "0" ∷ codes "612" ∷ codes "792" ∷ [])
box = refl

finer_box : box_in (a_line 0 (codes "%%HiResBoundingBox: 0 0 611.5 791.5")) ≡ None
finer_box = refl

box_of_an_embedded_document : box_in (a_line 1 (codes "%%BoundingBox: 0 0 612 792")) ≡ None
box_of_an_embedded_document = refl

-- of two boxes the first one counts
first_box : box_among (a_line 0 (codes "showpage") ∷ a_line 0 (codes "%%BoundingBox: 1") ∷ a_line 0 (codes "%%BoundingBox: 2") ∷ []) ≡ Some (codes "1" ∷ [])
first_box = refl

-- When the parts of a document serve for another text.

-- a document of one page, and the same with one more line before the page
abbrev one_page : List ℕ
one_page = codes "%!\n%%Page: 1 1\nx\n"

abbrev with_a_line : List ℕ
with_a_line = codes "%!\n%g\n%%Page: 1 1\nx\n"

its_parts : HasItsParts one_page (3 ∷ []) (15 ∷ []) 17
its_parts = record {
  accepted = refl;
  is_cut = refl;
  starts_are = refl;
  some = omega arith;
  few = omega arith;
  stop_is = refl;
  bodies_are = record {
    count = refl;
    each = body;
  };
}
  where
    body : (p : ℕ) → p < 1 → IsBodyStart (slice_index_or (starts_of (units_of one_page)) p 0) (slice_index_or (15 ∷ []) p 0) (slice_index_or (split_pages (page_run (units_of one_page))) p [])
    body zero below = λ some. (omega arith, omega arith, refl, refl)
    body (suc p) below = absurd (omega (arith, below))

serves : (p : Parts) → ArePartsOf one_page p → Serve p with_a_line
serves p are = record { of = one_page; are = are; longer = omega arith; accepted = λ few. refl; same = λ few. refl }

-- where the page, its body and the end are then
moved : HasItsParts with_a_line (6 ∷ []) (18 ∷ []) 20
moved = served one_page with_a_line (3 ∷ []) (15 ∷ []) 17 3 its_parts refl refl refl

-- they serve for no text without a page
without_a_page : (p : Parts) → Serve p (codes "%!\n") → ⊥
without_a_page p s = let e : 0 ≡ 1 = ap taken (s.accepted (omega arith)) in absurd (omega (arith, e))
  where
    taken : Result (List NestedUnit) DocumentFault → ℕ
    taken (Ok us) = 1
    taken (Err f) = 0
