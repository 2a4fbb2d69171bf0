-- How many pages a document says that it has (DSC 3.0, %%Pages): in its header, or at its end if the header says so by (atend). The
-- end is looked for line by line, so that it is found in a document that was left open too.
use Rattle.std.specs.Prelude.{ℕ, zero, suc, Bool, true, ◌&&◌, ◌^◌, ◌+◌, ◌-◌, ◌==◌, min, List, [], ◌∷◌, drop, slice_index, if◌then◌else◌, Option, Some, None, codes, option_and_then}
use Rattle.std.specs.List.{list_all}
use Rattle.std.specs.Str.{bytes_eq}
use Rattle.std.specs.Char.{is_ascii_digit}
use Rattle.rules.specs.Numbers.{number_of}
use Rattle.rules.specs.Units.{is_end, content_of, fields, has_key, is_comment, key}
use Rattle.dsc.specs.TrailerBoxes.{first_there}
use Rattle.papers.specs.Media.{comment_fields, contents, header}

-- the number that a field makes, or the greatest one, if all of it are digits
abbrev pub value_of_digits : (field : List ℕ) → Option ℕ
value_of_digits field = if list_all is_ascii_digit field then Some (min (number_of field) (2 ^ 64 - 1)) else None

abbrev pub first_field : Option (List (List ℕ)) → Option (List ℕ)
first_field None = None
first_field (Some []) = None
first_field (Some (field ∷ more)) = Some field

-- the first field of the first `%%Pages:` among these lines
abbrev pub pages_field : List (List ℕ) → Option (List ℕ)
pages_field lines = first_field (comment_fields (codes "%%Pages") lines)

abbrev pub is_trailer_line : (line : List ℕ) → Bool
is_trailer_line line = bytes_eq (key line) (codes "%%Trailer")

-- a line begins at this byte, which is no line feed
abbrev pub begins_line : ℕ → List ℕ → Bool
begins_line zero text = true
begins_line (suc k) text = is_end (slice_index text k)

-- a line that begins the trailer begins at this byte
abbrev pub trailer_at : ℕ → List ℕ → Bool
trailer_at at text = begins_line at text && is_trailer_line (content_of (drop at text))

-- the lines after the last `%%Trailer`, or these if there is none
abbrev pub lines_after_trailer : (all : List (List ℕ)) → List (List ℕ) → List (List ℕ)
lines_after_trailer all [] = all
lines_after_trailer all (line ∷ more) =
    if is_trailer_line line then lines_after_trailer more more else lines_after_trailer all more

-- the lines at the end of a document
abbrev pub last_lines : (text : List ℕ) → List (List ℕ)
last_lines text = lines_after_trailer (contents text) (contents text)

-- how many embedded documents are open after a line
abbrev pub depth_after_line : ℕ → (line : List ℕ) → ℕ
depth_after_line depth line =
    if has_key (codes "%%BeginDocument" ∷ []) line then depth + 1
    else (if has_key (codes "%%EndDocument" ∷ []) line then depth - 1 else depth)

-- the fields of a line that is a `%%Pages:` and in no embedded document
abbrev pub pages_at : (depth : ℕ) → (line : List ℕ) → Option (List (List ℕ))
pages_at depth line = if is_comment (codes "%%Pages") line && (depth == 0) then Some (fields line) else None

-- those of the first such line, where so many embedded documents are open before the lines
abbrev pub pages_outside : (depth : ℕ) → List (List ℕ) → Option (List (List ℕ))
pages_outside depth [] = None
pages_outside depth (line ∷ more) = first_there (pages_at depth line) (pages_outside (depth_after_line depth line) more)

-- what a field of the header says of the number of pages, where these lines are at the end
abbrev pub count_by : (field : List ℕ) → (end : List (List ℕ)) → Option ℕ
count_by field end =
    if bytes_eq field (codes "(atend)") then option_and_then value_of_digits (first_field (pages_outside 0 end)) else value_of_digits field

-- RULES, 17
abbrev pub declared_page_count : (text : List ℕ) → Option ℕ
declared_page_count text = option_and_then (λ field. count_by field (last_lines text)) (pages_field (header text))
