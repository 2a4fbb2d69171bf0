-- What may be wrong with what was found, which of it comes first, and what a fault says of it.
use Rattle.std.specs.Prelude.{◌≡◌, ◌⊎◌, ⊤, Result, Bool, true, false, if◌then◌else◌, is_some, unwrap_or, List, [], ◌∷◌, Option, Some, None}
use Rattle.std.specs.Prelude.{codes, option_map, string_bytes}
use Rattle.std.specs.Str.{bytes_eq}
use Rattle.std.specs.Result.{result_err}
use Rattle.clap.specs.Words.{IsAmong, Row, Text, fault_of, first_of, kind_of, subcommand_of}
use Rattle.layouts.specs.Grids.{cells_per_sheet}
use Rattle.impose_words.specs.Arranging.{booklet_marks_named, cut_marks_named, no_marks}
use Rattle.impose_words.specs.Command.{impose}
use Rattle.impose_words.specs.Products.{is_picture_file}
use Rattle.impose_words.specs.Spacings.{keeps_room}
use Rattle.impose_words.specs.Words.{AsksFor, Entered, asked, border_found, cells_found, file_asked, first_found, given, has_numbers}
use Rattle.impose_words.specs.Words.{gaps_found, is_outfile, margins_found, length_found, number_size_found, part_found, picture_found, run_found, scale_found, signing_found, size_found}
use Rattle.impose_words.specs.Words.{skip_among, turn_found, turned_found, two_found}
use Rattle.impose_words.specs.declared.fault.RequestFault.{RequestFault}
use Rattle.impose_words.specs.declared.fault.RequestFault.TheVariants as fault
use Rattle.impose_words.specs.declared.fault.CellCommand.{CellCommand}
use Rattle.impose_words.specs.declared.fault.CellCommand.TheVariants as grid
use Rattle.impose_words.specs.declared.fault.OptionId.{OptionId}
use Rattle.impose_words.specs.declared.fault.OptionId.TheVariants as opt
use Rattle.impose_words.specs.declared.fault.ProductOption.{ProductOption}
use Rattle.impose_words.specs.declared.request.Layout.{Layout}
use Rattle.impose_words.specs.declared.request.Layout.TheVariants as layout

-- an argument isn't there, a value is none, --odd and --even are there, or two options that ask for something in place of the
-- sheets
pub data Wrong : Type 0 where
  Missing : Wrong
  NoValue : OptionId → Wrong
  OddEven : Wrong
  Two : ProductOption → ProductOption → Wrong

-- of two the first that there is
abbrev pub first : Option Wrong → Option Wrong → Option Wrong
first None wrong = wrong
first (Some earlier) wrong = Some earlier

-- ---- a value

-- no picture is asked for, or its file is named as one
abbrev pub is_picture_asked : Option (Option Text) → Bool
is_picture_asked None = true
is_picture_asked (Some file) = is_picture_file file

-- what was found for the option is one of its values
abbrev pub is_value : OptionId → (found : List Row) → Bool
is_value opt.Paper found = is_some (size_found opt.Paper found)
is_value opt.Sheet found = is_some (size_found opt.Sheet found)
is_value opt.Border found = is_some (border_found found)
is_value opt.Turn found = is_some (turn_found found)
is_value (opt.Count command) found = is_some (cells_found command found)
is_value (opt.Skip cells) found = is_some (skip_among cells found)
is_value opt.Signature found = is_some (signing_found found)
is_value opt.Margin found = is_some (margins_found found)
is_value opt.Gap found = is_some (gaps_found found)
is_value opt.Trim found = is_some (length_found opt.Trim found)
is_value opt.Creep found = is_some (length_found opt.Creep found)
is_value opt.Overlap found = is_some (length_found opt.Overlap found)
is_value opt.Order found = is_some (run_found found)
is_value opt.Turned found = is_some (turned_found found)
is_value opt.Scale found = is_some (scale_found found)
is_value opt.BookletMarks found = is_some (asked no_marks booklet_marks_named (given opt.BookletMarks found))
is_value opt.CutMarks found = is_some (asked no_marks cut_marks_named (given opt.CutMarks found))
is_value opt.Numbers found = is_some (number_size_found found)
is_value opt.NumbersFrom found = is_some (first_found found)
is_value opt.Outfile found = is_outfile (file_asked (given opt.Outfile found))
is_value opt.Preview found = is_picture_asked (picture_found found)

-- the first of these options whose value is none
abbrev pub wrong_among : List OptionId → (found : List Row) → Option Wrong
wrong_among [] found = None
wrong_among (option ∷ options) found = if is_value option found then wrong_among options found else Some (NoValue option)

-- if there is an error, the option that it names has a wrong value; otherwise nothing is wrong
abbrev pub wrong_in : {A : Type 0} → Result A OptionId → Option Wrong
wrong_in result = option_map (λ option. NoValue option) (result_err result)

-- ---- in their order

-- the papers, the border and the turn
abbrev pub wrong_sizes : (found : List Row) → Option Wrong
wrong_sizes found = wrong_among (opt.Paper ∷ opt.Sheet ∷ opt.Border ∷ opt.Turn ∷ []) found

-- the argument isn't there, or this is wrong
abbrev pub missing_or : (id : Text) → (found : List Row) → Option Wrong → Option Wrong
missing_or id found wrong = if is_some (first_of id found) then wrong else Some Missing

abbrev pub wrong_cells : CellCommand → (found : List Row) → Option Wrong
wrong_cells command found = missing_or (codes "count") found (wrong_among (opt.Count command ∷ []) found)

-- the specification, and how its row is sewn
abbrev pub wrong_specs : (found : List Row) → Option Wrong
wrong_specs found = missing_or (codes "specs") found (wrong_among (opt.Signature ∷ []) found)

-- what comes after the command, or how a booklet is sewn
abbrev pub wrong_layout : (name : Text) → (found : List Row) → Option Wrong
wrong_layout name found =
    if bytes_eq name (codes "nup") then wrong_cells grid.NUp found
    else (if bytes_eq name (codes "booklet") then wrong_among (opt.Signature ∷ []) found
    else (if bytes_eq name (codes "zine") then None
    else (if bytes_eq name (codes "cards") then wrong_cells grid.Cards found
    else (if bytes_eq name (codes "stack") then wrong_cells grid.Stack found
    else (if bytes_eq name (codes "notes") then wrong_cells grid.Notes found
    else (if bytes_eq name (codes "poster") then wrong_cells grid.Poster found
    else (if bytes_eq name (codes "select") then missing_or (codes "ranges") found None
    else (if bytes_eq name (codes "spec") then wrong_specs found else Some Missing))))))))

-- how many cells are used already, of a layout that may begin after some
abbrev pub wrong_skip : Layout → (found : List Row) → Option Wrong
wrong_skip (layout.NUp cells) found = wrong_among (opt.Skip (cells_per_sheet cells) ∷ []) found
wrong_skip (layout.Cards cells) found = wrong_among (opt.Skip (cells_per_sheet cells) ∷ []) found
wrong_skip other found = None

-- in which order one reads the cells
abbrev pub wrong_order : (found : List Row) → Option Wrong
wrong_order found = wrong_among (opt.Order ∷ opt.Turned ∷ []) found

-- what is kept free, the order and the scale, of a layout that keeps room
abbrev pub wrong_room : (keeps : Bool) → (found : List Row) → Option Wrong
wrong_room false found = None
wrong_room true found =
    first (wrong_among (opt.Margin ∷ opt.Gap ∷ opt.Trim ∷ opt.Creep ∷ opt.Overlap ∷ []) found)
    (first (wrong_order found) (wrong_among (opt.Scale ∷ []) found))

-- the cells that are used already, and then the room
abbrev pub wrong_spacing : Layout → (found : List Row) → Option Wrong
wrong_spacing layout found = first (wrong_skip layout found) (wrong_room (keeps_room layout) found)

-- the marks, of sheets that have some
abbrev pub wrong_lines : Layout → (found : List Row) → Option Wrong
wrong_lines (layout.NUp cells) found = wrong_among (opt.CutMarks ∷ []) found
wrong_lines (layout.Cards cells) found = wrong_among (opt.CutMarks ∷ []) found
wrong_lines (layout.Stack cells duplex) found = wrong_among (opt.CutMarks ∷ []) found
wrong_lines (layout.Poster cells) found = wrong_among (opt.CutMarks ∷ []) found
wrong_lines (layout.Booklet signing long_edge) found = wrong_among (opt.BookletMarks ∷ []) found
wrong_lines other found = None

-- the numbers, of pages that have some
abbrev pub wrong_numbers : (has : Bool) → (found : List Row) → Option Wrong
wrong_numbers false found = None
wrong_numbers true found = wrong_among (opt.Numbers ∷ opt.NumbersFrom ∷ []) found

abbrev pub wrong_marks : Layout → (found : List Row) → Option Wrong
wrong_marks layout found = first (wrong_lines layout found) (wrong_numbers (has_numbers layout) found)

-- the pages
abbrev pub wrong_choice : (found : List Row) → Option Wrong
wrong_choice found = if is_some (part_found found) then None else Some OddEven

-- what is made
abbrev pub wrong_product : (found : List Row) → Option Wrong
wrong_product found = first (option_map (λ two. Two two.0 two.1) (two_found found)) (wrong_among (opt.Preview ∷ []) found)

-- all that comes after the layout
abbrev pub wrong_for : Layout → (found : List Row) → Option Wrong
wrong_for layout found =
    first (wrong_spacing layout found)
    (first (wrong_marks layout found)
    (first (wrong_choice found)
    (first (wrong_among (opt.Outfile ∷ []) found) (wrong_product found))))

-- ---- the refusals

-- the text after the option, or none
abbrev pub text_given : OptionId → (found : List Row) → Text
text_given option found = unwrap_or (given option found) []

-- a fault says what is wrong with what was found, unless it is that memory is short
abbrev pub SaysWrong : (found : List Row) → RequestFault → Option Wrong → Type 0
SaysWrong found (fault.BadValue option text) wrong = (wrong ≡ Some (NoValue option)) × (text_given option found ≡ string_bytes text)
SaysWrong found fault.Lacking wrong = wrong ≡ Some Missing
SaysWrong found fault.OddAndEven wrong = wrong ≡ Some OddEven
SaysWrong found (fault.TwoProducts one other) wrong = wrong ≡ Some (Two one other)
SaysWrong found fault.NoMemory wrong = ⊤
SaysWrong found (fault.Words error) wrong = ⊥
SaysWrong found fault.NoText wrong = ⊥

-- a refusal of what was found: of the papers, the border, the turn or what asks for a layout; or of what comes after the layout that they ask
-- for
abbrev pub RefusesFound : (name : Text) → (found : List Row) → RequestFault → Type 0
RefusesFound name found f = SaysWrong found f (first (wrong_sizes found) (wrong_layout name found))
    ⊎ ((layout : Layout) × AsksFor name found layout × (wrong_sizes found ≡ None) × SaysWrong found f (wrong_for layout found))

-- what a refusal says of the words: clap's own faults are those of the words, or a call for help or for the version. All others
-- come only if the command takes the words, so help is never reported as another fault
abbrev pub RefusesCommand : (words : List Text) → RequestFault → Type 0
RefusesCommand words (fault.Words error) = IsAmong (kind_of error) (fault_of impose words)
RefusesCommand words fault.NoText = ⊥
RefusesCommand words fault.NoMemory = ⊤
RefusesCommand words fault.Lacking = ((fault_of impose words ≡ []) × (subcommand_of impose words ≡ None))
    ⊎ Entered words (λ name found. RefusesFound name found fault.Lacking)
RefusesCommand words fault.OddAndEven = Entered words (λ name found. RefusesFound name found fault.OddAndEven)
RefusesCommand words (fault.BadValue option text) = Entered words (λ name found. RefusesFound name found (fault.BadValue option text))
RefusesCommand words (fault.TwoProducts one other) =
    Entered words (λ name found. RefusesFound name found (fault.TwoProducts one other))

-- what a refusal says of the words before what was found is looked at
abbrev pub ParseRefuses : (words : List Text) → RequestFault → Type 0
ParseRefuses words (fault.Words error) = IsAmong (kind_of error) (fault_of impose words)
ParseRefuses words fault.NoMemory = ⊤
ParseRefuses words other = ⊥
