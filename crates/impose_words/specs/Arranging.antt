-- What the values of those arguments mean that say how pages are arranged in the cells of a sheet.
use Rattle.std.specs.Prelude.{ℕ, ℤ, pos, int_le, int_lt, ◌*◌, ◌==◌, ◌&&◌, ◌||◌, Bool, true, false, if◌then◌else◌, List, [], ◌∷◌}
use Rattle.std.specs.Prelude.{Option, Some, None, option_map, codes}
use Rattle.std.specs.Str.{bytes_eq}
use Rattle.rules.specs.Numbers.{number_of}
use Rattle.rules.specs.Papers.{Paper}
use Rattle.lengths.specs.Reading.{digits, is_empty, past_digits}
use Rattle.paper_names.specs.Sizes.{letter_x}
use Rattle.layouts.specs.Refusals.{is_count}
use Rattle.dressing.specs.declared.numbers.Numbering.{Numbering}
use Rattle.dressing.specs.declared.strokes.Marks.{Marks}
use Rattle.impose_words.specs.Sizes.{length_with_unit}
use Rattle.layouts.specs.declared.arrangement.Cells.{Cells}
use Rattle.layouts.specs.declared.arrangement.Cells.TheVariants.{AtLeast, Exactly}
use Rattle.layouts.specs.declared.arrangement.FillOrder.{FillOrder}
use Rattle.layouts.specs.declared.arrangement.FillOrder.TheVariants.{Rows, Columns}
use Rattle.layouts.specs.declared.arrangement.Turned.{Turned}
use Rattle.layouts.specs.declared.arrangement.Turned.TheVariants.{Left, Right}
use Rattle.pagespec.specs.declared.item.Turn.{Turn}
use Rattle.pagespec.specs.declared.item.Turn.TheVariants as turn
use Rattle.impose_words.specs.declared.request.Turning.{Turning}
use Rattle.impose_words.specs.declared.request.Turning.TheVariants as turning

-- ---- cells: a number of them, or columns and rows with an x between them

-- at least this number of cells, if a sheet takes it
abbrev pub at_least : ℕ → Option Cells
at_least n = if is_count n then Some (AtLeast n) else None

-- these columns and rows, if a sheet takes that number of cells
abbrev pub exactly : (columns rows : ℕ) → Option Cells
exactly columns rows = if is_count (columns * rows) then Some (Exactly columns rows) else None

-- the number that the digits at the front make, and what comes after them
abbrev pub digits_at : List ℕ → Option (ℕ × List ℕ)
digits_at text = if is_empty (digits text) then None else Some (number_of (digits text), past_digits text)

-- these columns, and the number of rows that the digits name which are all of the text after them
abbrev pub with_rows : (columns : ℕ) → Option (ℕ × List ℕ) → Option Cells
with_rows columns None = None
with_rows columns (Some (rows, [])) = exactly columns rows
with_rows columns (Some (rows, b ∷ rest)) = None

abbrev pub cells_from : Option (ℕ × List ℕ) → Option Cells
cells_from None = None
cells_from (Some (n, [])) = at_least n
cells_from (Some (n, b ∷ rest)) = if b == letter_x then with_rows n (digits_at rest) else None

-- RULES, 13.5
abbrev pub cells_named : List ℕ → Option Cells
cells_named text = cells_from (digits_at text)

-- columns and rows alone
abbrev pub exact_alone : Option Cells → Option Cells
exact_alone None = None
exact_alone (Some (AtLeast n)) = None
exact_alone (Some (Exactly columns rows)) = Some (Exactly columns rows)

-- the tiles of a poster: these columns and rows, or as many as its scale needs, and at least one (RULES, 14.3)
abbrev pub tiles_named : List ℕ → Option Cells
tiles_named text = if bytes_eq text (codes "auto") then Some (AtLeast 1) else exact_alone (cells_named text)

-- this number of pages, if a sheet takes as many cells again beside them, for notes; a number alone is one of pages
abbrev pub with_notes : ℕ → Option Cells
with_notes n = if is_count (2 * n) then Some (AtLeast n) else None

abbrev pub noted_alone : Option Cells → Option Cells
noted_alone None = None
noted_alone (Some (AtLeast n)) = with_notes n
noted_alone (Some (Exactly columns rows)) = None

-- ---- in which order

-- along what pages run, and whether from the right: what comes first says where the second page is (RULES, 13.6)
abbrev pub run_named : List ℕ → Option (FillOrder × Bool)
run_named text =
    if bytes_eq text (codes "right-down") then Some (Rows, false)
    else (if bytes_eq text (codes "down-right") then Some (Columns, false)
    else (if bytes_eq text (codes "left-down") then Some (Rows, true)
    else (if bytes_eq text (codes "down-left") then Some (Columns, true) else None)))

-- which pages are turned before they are placed, and how: all of them, or those that are wider than high (RULES, 13.7)
abbrev pub turn_named : List ℕ → Option Turning
turn_named text =
    if bytes_eq text (codes "left") then Some (turning.All turn.Left)
    else (if bytes_eq text (codes "right") then Some (turning.All turn.Right)
    else (if bytes_eq text (codes "half") then Some (turning.All turn.Half)
    else (if bytes_eq text (codes "wide") then Some turning.Wide else None)))

-- the turn of a page of this paper: of wide pages alone it is a quarter to the left
abbrev pub turn_for : Turning → (paper : Paper) → Turn
turn_for (turning.All by) paper = by
turn_for turning.Wide paper = if int_lt paper.height paper.width then turn.Left else turn.None

-- to which side one turns the pages to read them
abbrev pub turned_named : List ℕ → Option Turned
turned_named text =
    if bytes_eq text (codes "left") then Some Left
    else (if bytes_eq text (codes "right") then Some Right else None)

-- ---- with which marks

abbrev pub no_marks : Marks
no_marks = record { fold = false; cut = false; ruled = false; numbers = None }

-- lines for notes alone
abbrev pub lines_alone : Marks
lines_alone = record no_marks { ruled = true }

-- on a booklet, where it is folded, where it is cut, or both (RULES, 15)
abbrev pub booklet_marks_named : List ℕ → Option Marks
booklet_marks_named text =
    if bytes_eq text (codes "fold") then Some (record no_marks { fold = true })
    else (if bytes_eq text (codes "cut") then Some (record no_marks { cut = true })
    else (if bytes_eq text (codes "fold,cut") || bytes_eq text (codes "cut,fold") then Some (record no_marks { fold = true; cut = true })
    else None))

-- on other sheets, which are cut alone
abbrev pub cut_marks_named : List ℕ → Option Marks
cut_marks_named text = if bytes_eq text (codes "cut") then Some (record no_marks { cut = true }) else None

-- ---- with which numbers

-- they have from a tenth of a point to 72 points, in grains (RULES, 15)
abbrev pub smallest_numbers : ℤ
smallest_numbers = pos 12_700_000_000

abbrev pub largest_numbers : ℤ
largest_numbers = pos 9_144_000_000_000

abbrev pub among_sizes : Option ℤ → Option ℤ
among_sizes None = None
among_sizes (Some size) = if int_le smallest_numbers size && int_le size largest_numbers then Some size else None

-- how large they are
abbrev pub number_size_named : List ℕ → Option ℤ
number_size_named text = among_sizes (length_with_unit text)

-- how they are drawn if they are so large, and the first of them is this
abbrev pub numbering : (size : Option (Option ℤ)) → (first : Option ℕ) → Option (Option Numbering)
numbering None first = None
numbering (Some size) None = None
numbering (Some size) (Some first) = Some (option_map (λ size. record { size = size; first = first }) size)

-- marks and numbers
abbrev pub marks_and_numbers : Option Marks → Option (Option Numbering) → Option Marks
marks_and_numbers None numbers = None
marks_and_numbers (Some marks) numbers = option_map (λ numbers. record marks { numbers = numbers }) numbers
