-- Papers as people write them: by a name, or by a width and a height with an x between them. All here is this project's
-- own rules; names that end in a size are those of PWG 5101.1, which CUPS has.
use Rattle.std.specs.Prelude.{ℕ, ℤ, Bool, ◌==◌, not, ◌&&◌, ◌||◌, if◌then◌else◌, option_map, option_and_then, unwrap_or}
use Rattle.std.specs.Prelude.{List, [], ◌∷◌, take, drop, codes, Option, Some, None, Result, Ok, Err}
use Rattle.std.specs.List.{prefix_len}
use Rattle.rules.specs.Numbers.{is_large}
use Rattle.rules.specs.Papers.{LengthUnit, Pt, Cm, Mm, In, Paper, grains, is_paper}
use Rattle.rules.specs.Units.{is_blank}
use Rattle.lengths.specs.Lengths.{a4}
use Rattle.lengths.specs.Reading.{is_empty, number_at}
use Rattle.paper_names.specs.Names.{is_word, turned, upright_named, upright_part}
use Rattle.paper_names.specs.declared.error.PaperError.{PaperError}
use Rattle.paper_names.specs.declared.error.PaperError.TheVariants.{Unknown, NoUnit, NoSuchSize}

-- ---- a side: a number, and the unit after it, if there is one

-- an inch has three names
abbrev pub is_inch : List ℕ → Bool
is_inch text = is_word (codes "in") text || (is_word (codes "inch") text || is_word (codes "\"") text)

abbrev pub unit_of : List ℕ → Option LengthUnit
unit_of text =
    if is_word (codes "pt") text then Some Pt
    else (if is_word (codes "cm") text then Some Cm
    else (if is_word (codes "mm") text then Some Mm
    else (if is_inch text then Some In else None)))

abbrev pub with_unit : ℤ → (rest : List ℕ) → Option (ℤ × Option LengthUnit)
with_unit number rest = if is_word [] rest then Some (number, None)
    else option_map (λ unit. (number, Some unit)) (unit_of rest)

abbrev pub side_at : Option (ℤ × List ℕ) → Option (ℤ × Option LengthUnit)
side_at None = None
side_at (Some (number, rest)) = if is_large number then None else with_unit number rest

abbrev pub side_of : List ℕ → Option (ℤ × Option LengthUnit)
side_of text = side_at (number_at (drop (prefix_len is_blank text) text))

-- ---- two of them

-- the paper with these sides, if they may be a paper's
abbrev pub paper_of_sides : (width height : ℤ) → Result Paper PaperError
paper_of_sides width height =
    if is_paper width height then Ok (record { width = width; height = height }) else Err NoSuchSize

-- numbers of so many units each; none of these units asks for the paper
abbrev pub in_units : (width : ℤ) → LengthUnit → (height : ℤ) → LengthUnit → Result Paper PaperError
in_units width u height v = paper_of_sides (grains a4 width u) (grains a4 height v)

-- a unit at the end, which must be there, holds for a width without one (RULES, 12.1)
abbrev pub size_of_sides : (width height : ℤ × Option LengthUnit) → Result Paper PaperError
size_of_sides (width, u) (height, Some v) = in_units width (unwrap_or u v) height v
size_of_sides (width, u) (height, None) = Err NoUnit

abbrev pub size_of_both : (width height : Option (ℤ × Option LengthUnit)) → Result Paper PaperError
size_of_both (Some width) (Some height) = size_of_sides width height
size_of_both (Some width) None = Err Unknown
size_of_both None height = Err Unknown

-- ---- a text

abbrev pub letter_x : ℕ
letter_x = 120

-- the byte begins a sign between two sides: x, X, *, or the multiplication sign, which UTF-8 writes as the bytes 195 and 151
abbrev pub is_cross : ℕ → Bool
is_cross b = b == letter_x || (b == 88 || (b == 42 || b == 195))

-- where the first is, or the end
abbrev pub x_at : List ℕ → ℕ
x_at text = prefix_len (λ b. not (is_cross b)) text

-- what follows this byte in a text that begins with it
abbrev pub after_second : List ℕ → Option (List ℕ)
after_second [] = None
after_second (b ∷ rest) = if b == 151 then Some rest else None

-- what follows the sign that a text begins with
abbrev pub after_cross : List ℕ → Option (List ℕ)
after_cross [] = None
after_cross (b ∷ rest) = if b == 195 then after_second rest else Some rest

abbrev pub size_of : List ℕ → Result Paper PaperError
size_of text = size_of_both (side_of (take (x_at text) text)) (option_and_then side_of (after_cross (drop (x_at text) text)))

-- what follows the last underscore that isn't the end, or else what was kept
abbrev pub last_part : (kept text : List ℕ) → List ℕ
last_part kept [] = kept
last_part kept (b ∷ rest) = if b == 95 && not (is_empty rest) then last_part rest rest else last_part kept rest

abbrev pub named_or_sized : Option Paper → (text : List ℕ) → Result Paper PaperError
named_or_sized (Some paper) text = Ok paper
named_or_sized None text = size_of (last_part text text)

-- the paper that a text means: the one with this name, or of the size at its end
abbrev pub upright_paper : List ℕ → Result Paper PaperError
upright_paper text = named_or_sized (upright_named text) text

abbrev pub on_its_side : Result Paper PaperError → Result Paper PaperError
on_its_side (Ok paper) = Ok (turned paper)
on_its_side (Err error) = Err error

-- a word after it exchanges the sides
abbrev pub paper_by : (upright : Option (List ℕ)) → (text : List ℕ) → Result Paper PaperError
paper_by (Some front) text = on_its_side (upright_paper front)
paper_by None text = upright_paper text

abbrev pub paper_of : List ℕ → Result Paper PaperError
paper_of text = paper_by (upright_part text) text
