-- The paper that a document is made for, by its comments (DSC 3.0, %%DocumentMedia and %%BoundingBox, and
-- (atend); DSC 2.1, %%DocumentPaperSizes), or by its setup (PostScript Language Reference, page device parameter PageSize;
-- DSC 2.1, %%BeginPaperSize; DSC 3.0, %%BeginFeature, with keywords of PostScript Printer Descriptions 4.3).
use Rattle.std.specs.Prelude.{ℕ, zero, suc, ◌+◌, ◌*◌, ℤ, pos, ◌+ℤ◌, ◌-ℤ◌, nat_abs, nat_le, int_lt, Bool, false, not, ◌&&◌, ◌||◌, if◌then◌else◌, option_map, option_and_then, unwrap_or}
use Rattle.std.specs.Prelude.{List, [], ◌∷◌, length, take, drop, map, filter, codes, Option, Some, None, nat_eq, ◌-◌, ◌==◌, slice_index, slice_range}
use Rattle.std.specs.Ordering.{int_eq}
use Rattle.std.specs.List.{prefix_len, starts_with}
use Rattle.std.specs.Str.{bytes_eq}
use Rattle.rules.specs.Papers.{Paper, Pt, grains, is_paper}
use Rattle.rules.specs.Numbers.{is_large}
use Rattle.rules.specs.Units.{content_of, key, line_len, is_blank, is_comment}
use Rattle.rules.specs.Parts.{NestedUnit, is_outermost_line, trailer}
use Rattle.dsc.specs.Fields.{fields_in}
use Rattle.dsc.specs.Header.{header_len}
use Rattle.dsc.specs.Units.{units_of}
use Rattle.lengths.specs.Lengths.{a4}
use Rattle.lengths.specs.Reading.{is_empty, number_at}
use Rattle.paper_names.specs.Names.{paper_named, turned}
use Rattle.dsc.specs.Strings.{characters, closing, open_parenthesis, string_len}
use Rattle.papers.specs.declared.media.Comment.{Comment}
use Rattle.papers.specs.declared.boxes.Edges.{Edges}
use Rattle.papers.specs.declared.media.Comment.TheVariants.{DocumentMedia, DocumentPaperSizes, BoundingBox, Setup}

-- ---- fields

-- all of the field is a number, which is in points
abbrev pub points_at : Option (ℤ × List ℕ) → Option ℤ
points_at None = None
points_at (Some (number, rest)) = if is_large number then None
    else (if is_empty rest then Some (grains a4 number Pt) else None)

abbrev pub points_of : List ℕ → Option ℤ
points_of field = points_at (number_at field)

-- shorter than one point
abbrev pub is_short : ℤ → Bool
is_short side = int_lt side (pos 127_000_000_000)

-- the paper with these sides, if they may be a paper's, and none is shorter than a point
abbrev pub paper_or_error : (width height : ℤ) → Option Paper
paper_or_error width height = if is_short width || is_short height then None
    else (if is_paper width height then Some (record { width = width; height = height }) else None)

abbrev pub paper_meant : (width height : Option ℤ) → Option Paper
paper_meant width height = option_and_then (λ w. option_and_then (λ h. paper_or_error w h) height) width

-- a field in parentheses
abbrev pub is_enclosed : List ℕ → Bool
is_enclosed field =
    nat_le 2 (length field) && (slice_index field 0 == open_parenthesis && slice_index field (length field - 1) == closing)

-- the name in a field: what is between its parentheses, if it has them
abbrev pub name_in : (field : List ℕ) → List ℕ
name_in field = if is_enclosed field then slice_range field 1 (length field - 1) else field

-- the length of what stands before the first blank
abbrev pub plain_len : List ℕ → ℕ
plain_len text = prefix_len (λ b. not (is_blank b)) text

-- the length of the name that a text begins with, to a blank; that of a string to the first blank after its end
abbrev pub len_with_string : (string : Option ℕ) → List ℕ → ℕ
len_with_string None text = plain_len text
len_with_string (Some n) text = n + plain_len (drop n text)

abbrev pub name_len : List ℕ → ℕ
name_len text = len_with_string (string_len text) text

-- the name that a text begins with, as it is written, and what follows it
abbrev pub split_name : (text : List ℕ) → Option (List ℕ × List ℕ)
split_name [] = None
split_name (b ∷ rest) = let n = name_len (b ∷ rest) in Some (take n (b ∷ rest), drop n (b ∷ rest))

-- the name at the front of a value, after blanks, as it is written, and the text after it
abbrev pub name_and_rest : (value : List ℕ) → Option (List ℕ × List ℕ)
name_and_rest value = split_name (drop (prefix_len is_blank value) value)

-- the name that is written so: the characters of a string in parentheses
abbrev pub name_meant : (written : List ℕ) → List ℕ
name_meant written = if is_enclosed written then characters (name_in written) else written

-- ---- comments

-- the contents of so many lines at most
abbrev pub contents_of : ℕ → List ℕ → List (List ℕ)
contents_of zero text = []
contents_of (suc most) [] = []
contents_of (suc most) (b ∷ rest) = content_of (b ∷ rest) ∷ contents_of most (drop (line_len (b ∷ rest)) (b ∷ rest))

-- the contents of the lines; a line has a byte, so there are no more lines than bytes
abbrev pub contents : List ℕ → List (List ℕ)
contents text = contents_of (length text) text

-- what follows the colon of a comment
abbrev pub value_of : (content : List ℕ) → List ℕ
value_of content = drop (length (key content) + 1) content

-- that of the first comment with this name, if there is one
abbrev pub comment_value : (name : List ℕ) → List (List ℕ) → Option (List ℕ)
comment_value name [] = None
comment_value name (content ∷ rest) = if is_comment name content then Some (value_of content)
    else comment_value name rest

-- its fields
abbrev pub comment_fields : (name : List ℕ) → List (List ℕ) → Option (List (List ℕ))
comment_fields name lines = option_map fields_in (comment_value name lines)

-- what follows the %%+ of each line at the front that continues a comment
abbrev pub continued : List (List ℕ) → List (List ℕ)
continued [] = []
continued (content ∷ rest) =
    if starts_with nat_eq content (codes "%%+") then drop 3 content ∷ continued rest else []

-- what follows the colon of the first comment with this name, and of each line that continues it
abbrev pub comment_values : (name : List ℕ) → List (List ℕ) → List (List ℕ)
comment_values name [] = []
comment_values name (content ∷ rest) = if is_comment name content then value_of content ∷ continued rest
    else comment_values name rest

-- the paper of a medium after its name: width, height, and more
abbrev pub sides_paper : List (List ℕ) → Option Paper
sides_paper (width ∷ height ∷ more) = paper_meant (points_of width) (points_of height)
sides_paper other = None

-- the paper of a medium: its name, its width, its height, and more (RULES, 12.2)
abbrev pub media_paper : (value : List ℕ) → Option Paper
media_paper value = option_and_then (λ p. sides_paper (fields_in p.1)) (name_and_rest value)

abbrev pub is_zero : Option ℤ → Bool
is_zero None = false
is_zero (Some length) = int_eq length (pos 0)

-- the paper of a box that begins at 0 0: left, bottom, right, top, and more
abbrev pub box_paper : List (List ℕ) → Option Paper
box_paper (left ∷ bottom ∷ right ∷ top ∷ more) =
    if is_zero (points_of left)
    then (if is_zero (points_of bottom) then paper_meant (points_of right) (points_of top) else None) else None
box_paper other = None

-- by so much, 15 points, programs' sizes of one paper may differ
abbrev pub box_nearness : ℕ
box_nearness = 15 * 127_000_000_000

abbrev pub are_near : (a b : ℤ) → Bool
are_near a b = nat_le (nat_abs (a -ℤ b)) box_nearness

-- the edges of a box
abbrev pub edges : (left bottom right top : Option ℤ) → Option Edges
edges left bottom right top =
    option_and_then (λ l. option_and_then (λ b. option_and_then (λ r. option_and_then
    (λ t. Some (record { left = l; bottom = b; right = r; top = t })) top) right) bottom) left

abbrev pub edges_of : List (List ℕ) → Option Edges
edges_of (left ∷ bottom ∷ right ∷ top ∷ more) = edges (points_of left) (points_of bottom) (points_of right) (points_of top)
edges_of other = None

-- an edge lies past the end of a side by more than 15 points
abbrev pub is_past : (side edge : ℤ) → Bool
is_past side edge = int_lt (side +ℤ pos box_nearness) edge

-- 100,000 points or longer, as no number of a box is
abbrev pub is_long : ℤ → Bool
is_long side = not (int_lt side (pos 12_700_000_000_000_000))

-- the paper with these sides, if none is so long
abbrev pub shorter_paper : (width height : ℤ) → Option Paper
shorter_paper width height = if is_long width || is_long height then None else paper_or_error width height

-- a box reaches over a paper to the right or above
abbrev pub reaches_over : Paper → Edges → Bool
reaches_over paper box = is_past paper.width box.right || is_past paper.height box.top

-- the paper of a box that reaches over this one, if it begins nowhere left of it or below it: it leaves as much room to
-- the right of the box as to the left, and above as below
abbrev pub paper_round : Edges → Option Paper
paper_round box = shorter_paper (box.left +ℤ box.right) (box.bottom +ℤ box.top)

abbrev pub paper_beyond : Paper → Edges → Option Paper
paper_beyond paper box = if int_lt box.left (pos 0) || int_lt box.bottom (pos 0) then None
    else (if reaches_over paper box then paper_round box else None)

abbrev pub wider_paper : Paper → List (List ℕ) → Option Paper
wider_paper paper box = option_and_then (paper_beyond paper) (edges_of box)

-- the first of two, if there is one, and else the second
abbrev pub else_take : Option Paper → Option Paper → Option Paper
else_take (Some paper) other = Some paper
else_take None other = other

-- the paper of a box, where this one would be taken without it
abbrev pub paper_of_box : Paper → List (List ℕ) → Option Paper
paper_of_box paper box = else_take (box_paper box) (wider_paper paper box)

abbrev pub header : List ℕ → List (List ℕ)
header text = contents (take (header_len text) text)

-- the lines of a document's trailer
abbrev pub trailer_lines : List NestedUnit → List (List ℕ)
trailer_lines us = map (λ u. u.unit.content) (filter is_outermost_line (trailer us))

-- the value says that a comment in the header is in the trailer
abbrev pub is_at_end : List (List ℕ) → Bool
is_at_end [] = false
is_at_end (field ∷ more) = bytes_eq field (codes "(atend)")

-- the box of a document, which may be in its trailer
abbrev pub box_or_last : (trailer : List (List ℕ)) → List (List ℕ) → Option (List (List ℕ))
box_or_last trailer box = if is_at_end box then comment_fields (codes "%%BoundingBox") trailer else Some box

abbrev pub box_of : (lines trailer : List (List ℕ)) → Option (List (List ℕ))
box_of lines trailer = option_and_then (box_or_last trailer) (comment_fields (codes "%%BoundingBox") lines)

-- the paper of the first field that is the name of one
abbrev pub paper_of_first_name : List (List ℕ) → Option Paper
paper_of_first_name [] = None
paper_of_first_name (field ∷ more) = else_take (paper_named (name_in field)) (paper_of_first_name more)

-- that of the first in these values
abbrev pub paper_of_first_name_in : List (List ℕ) → Option Paper
paper_of_first_name_in [] = None
paper_of_first_name_in (names ∷ more) = else_take (paper_of_first_name (fields_in names)) (paper_of_first_name_in more)

-- a paper lies as a box does: on its side, if the box has the paper's sides exchanged
abbrev pub lying_as : (box : Option Paper) → Paper → Paper
lying_as None paper = paper
lying_as (Some box) paper =
    if are_near box.width paper.height && are_near box.height paper.width then turned paper else paper

-- the document's own paper where this one is usual, and which comment gives it: the first of these that does
abbrev pub or_box : (usual : Paper) → (box : Option (List (List ℕ))) → Option Paper → Option (Paper × Comment)
or_box usual box (Some paper) = Some (lying_as (option_and_then box_paper box) paper, DocumentPaperSizes)
or_box usual box None = option_map (λ paper. (paper, BoundingBox)) (option_and_then (paper_of_box usual) box)

abbrev pub or_named : (usual : Paper) → (lines trailer : List (List ℕ)) → Option Paper → Option (Paper × Comment)
or_named usual lines trailer (Some paper) = Some (paper, DocumentMedia)
or_named usual lines trailer None =
    or_box usual (box_of lines trailer) (paper_of_first_name_in (comment_values (codes "%%DocumentPaperSizes") lines))

abbrev pub given_by_comments : (usual : Paper) → List ℕ → Option (Paper × Comment)
given_by_comments usual text = or_named usual (header text) (trailer_lines (units_of text))
    (option_and_then media_paper (comment_value (codes "%%DocumentMedia") (header text)))

-- ---- a paper that the setup asks for

-- what follows the first /PageSize of a line
abbrev pub after_key : List ℕ → Option (List ℕ)
after_key [] = None
after_key (b ∷ rest) = if starts_with nat_eq (b ∷ rest) (codes "/PageSize") then Some (drop 9 (b ∷ rest)) else after_key rest

-- the length of what is before the first closing bracket
abbrev pub open_len : List ℕ → ℕ
open_len text = prefix_len (λ b. not (b == 93)) text

-- what is in the brackets that a text begins with
abbrev pub in_brackets : List ℕ → Option (List ℕ)
in_brackets [] = None
in_brackets (b ∷ rest) = if b == 91 then Some (take (open_len rest) rest) else None

-- the paper whose sides are two numbers, and nothing else
abbrev pub two_sides : List (List ℕ) → Option Paper
two_sides (width ∷ height ∷ []) = paper_meant (points_of width) (points_of height)
two_sides other = None

-- the paper that a line asks for: two numbers in brackets after the first /PageSize
abbrev pub size_after : List ℕ → Option Paper
size_after text = option_and_then (λ inside. two_sides (fields_in inside)) (in_brackets (drop (prefix_len is_blank text) text))

abbrev pub size_asked : (content : List ℕ) → Option Paper
size_asked content = option_and_then size_after (after_key content)

-- the keywords of features that are papers
abbrev pub is_size_keyword : List ℕ → Bool
is_size_keyword keyword =
    bytes_eq keyword (codes "*PageSize") || (bytes_eq keyword (codes "*PaperSize") || bytes_eq keyword (codes "*PageRegion"))

-- the paper of a feature: its keyword, and the first name after it that is known
abbrev pub feature_paper : List (List ℕ) → Option Paper
feature_paper [] = None
feature_paper (keyword ∷ options) = if is_size_keyword keyword then paper_of_first_name options else None

-- the paper that a line names before it is set up
abbrev pub size_named : (content : List ℕ) → Option Paper
size_named content =
    if is_comment (codes "%%BeginPaperSize") content then paper_of_first_name (fields_in (value_of content))
    else (if is_comment (codes "%%BeginFeature") content then feature_paper (fields_in (value_of content)) else None)

-- that of a line, which asks for it or names it (RULES, 12.2)
abbrev pub size_of_line : (content : List ℕ) → Option Paper
size_of_line content = else_take (size_asked content) (size_named content)

-- that of the first line before the first page that has one
abbrev pub set_size : List (List ℕ) → Option Paper
set_size [] = None
set_size (content ∷ rest) =
    if is_comment (codes "%%Page") content then None else else_take (size_of_line content) (set_size rest)

-- the paper that is taken of a document without comments: the one that its setup asks for, or else this one
abbrev pub usual_in : (home : Paper) → (text : List ℕ) → Paper
usual_in home text = unwrap_or (set_size (contents text)) home

-- what comments say, or else the setup
abbrev pub or_setup : (set : Option Paper) → Option (Paper × Comment) → Option (Paper × Comment)
or_setup set (Some found) = Some found
or_setup set None = option_map (λ paper. (paper, Setup)) set

abbrev pub document_paper : (home : Paper) → List ℕ → Option (Paper × Comment)
document_paper home text = or_setup (set_size (contents text)) (given_by_comments (usual_in home text) text)
