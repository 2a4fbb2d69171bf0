-- What the words ask for, by the rows that the command finds among them.
use Rattle.std.specs.Prelude.{◌≡◌, ◌||◌, [], ℕ, ℤ, pos, Bool, true, false, not, if◌then◌else◌, is_some, IfSome, nat_lt}
use Rattle.std.specs.Prelude.{option_and_then, option_map, unwrap_or, List, Option, Some, None, codes, nat_eq, string_bytes}
use Rattle.std.specs.Str.{bytes_eq}
use Rattle.std.specs.List.{starts_with}
use Rattle.clap.specs.Words.{Row, Text, fault_of, first_of, found_of, rows_of, subcommand_of}
use Rattle.clap.specs.declared.parser.matches.ArgMatches.{ArgMatches}
use Rattle.rules.specs.Papers.{Paper}
use Rattle.command_words.specs.Matches.{has_true}
use Rattle.layouts.specs.declared.arrangement.Cells.{Cells}
use Rattle.layouts.specs.declared.arrangement.Cells.TheVariants.{AtLeast}
use Rattle.layouts.specs.declared.arrangement.Order.{Order}
use Rattle.layouts.specs.declared.arrangement.FillOrder.{FillOrder}
use Rattle.layouts.specs.declared.arrangement.FillOrder.TheVariants.{Rows}
use Rattle.layouts.specs.declared.arrangement.Turned.{Turned}
use Rattle.layouts.specs.declared.arrangement.Turned.TheVariants.{Upright}
use Rattle.pagespec.specs.declared.item.Turn.TheVariants as turn
use Rattle.rows.specs.declared.sewing.Signing.{Signing}
use Rattle.rows.specs.declared.sewing.Signing.TheVariants.{InOne}
use Rattle.rows.specs.declared.choices.Part.{Part}
use Rattle.rows.specs.declared.choices.Part.TheVariants.{All, Odd, Even}
use Rattle.dressing.specs.declared.numbers.Numbering.{Numbering}
use Rattle.dressing.specs.declared.strokes.Marks.{Marks}
use Rattle.impose_words.specs.Arranging.{booklet_marks_named, cells_named, cut_marks_named, lines_alone, no_marks, noted_alone}
use Rattle.impose_words.specs.Arranging.{number_size_named, numbering, run_named, turn_named, turned_named, marks_and_numbers}
use Rattle.layouts.specs.Grids.{cells_per_sheet, nothing_free}
use Rattle.layouts.specs.declared.arrangement.Free.{Free}
use Rattle.impose_words.specs.Edges.{gaps_named, margins_in, margins_named, free_with}
use Rattle.impose_words.specs.declared.edges.Margins.{Margins}
use Rattle.impose_words.specs.declared.request.PageChoice.{PageChoice}
use Rattle.impose_words.specs.Command.{impose}
use Rattle.impose_words.specs.Signatures.{signing_named, whole_number}
use Rattle.impose_words.specs.PosterSizes.{poster_size_named, sheets_of_size}
use Rattle.impose_words.specs.declared.request.PosterSize.{PosterSize}
use Rattle.impose_words.specs.Sizes.{border_with_unit, length_with_unit, number_alone, size_named}
use Rattle.impose_words.specs.declared.request.Layout.{Layout}
use Rattle.impose_words.specs.declared.request.Layout.TheVariants as layout
use Rattle.impose_words.specs.declared.request.ImposeRequest.{ImposeRequest}
use Rattle.impose_words.specs.declared.request.Product.{Product}
use Rattle.impose_words.specs.Products.{is_picture_file, is_plan, is_specification, picture_in}
use Rattle.impose_words.specs.Spacings.{keeps_room, nothing_kept}
use Rattle.impose_words.specs.declared.request.Spacing.{Spacing}
use Rattle.impose_words.specs.declared.request.Turning.{Turning}
use Rattle.impose_words.specs.declared.request.Turning.TheVariants as turning
use Rattle.impose_words.specs.declared.fault.CellCommand.{CellCommand}
use Rattle.impose_words.specs.declared.fault.CellCommand.TheVariants as grid
use Rattle.impose_words.specs.declared.fault.OptionId.{OptionId}
use Rattle.impose_words.specs.declared.fault.OptionId.TheVariants as opt
use Rattle.impose_words.specs.declared.fault.ProductOption.{ProductOption}
use Rattle.impose_words.specs.declared.fault.ProductOption.TheVariants as instead

-- ---- values

-- what was found for a subcommand
abbrev pub rows_in : ArgMatches → List Row
rows_in found = rows_of (found_of found)

-- a flag is among the words
abbrev pub has_flag : (id : Text) → (found : List Row) → Bool
has_flag id found = has_true (first_of id found)

-- the name of its argument
abbrev pub opt_id : OptionId → Text
opt_id opt.Paper = codes "paper"
opt_id opt.Sheet = codes "sheet"
opt_id opt.Border = codes "border"
opt_id opt.Turn = codes "turn"
opt_id (opt.Count command) = codes "count"
opt_id (opt.Skip cells) = codes "skip"
opt_id opt.Signature = codes "signature"
opt_id opt.Margin = codes "margin"
opt_id opt.Gap = codes "gap"
opt_id opt.Trim = codes "trim"
opt_id opt.Creep = codes "creep"
opt_id opt.Overlap = codes "overlap"
opt_id opt.Order = codes "order"
opt_id opt.Turned = codes "turned"
opt_id opt.Scale = codes "scale"
opt_id opt.BookletMarks = codes "marks"
opt_id opt.CutMarks = codes "marks"
opt_id opt.Numbers = codes "numbers"
opt_id opt.NumbersFrom = codes "numbers-from"
opt_id opt.Outfile = codes "outfile"
opt_id opt.Preview = codes "preview"

-- the text after an option
abbrev pub given : OptionId → (found : List Row) → Option Text
given option found = first_of (opt_id option) found

-- what the text after an option asks for; without one a default; a text may mean nothing
abbrev pub asked : {A : Type 0} → (unasked : A) → (Text → Option A) → Option Text → Option A
asked unasked named None = Some unasked
asked unasked named (Some text) = named text

abbrev pub size_found : OptionId → (found : List Row) → Option (Option Paper)
size_found option found = asked None (λ text. option_map (λ size. Some size) (size_named text)) (given option found)

abbrev pub border_found : (found : List Row) → Option (Option ℤ)
border_found found = asked None border_with_unit (given opt.Border found)

abbrev pub turn_found : (found : List Row) → Option Turning
turn_found found = asked (turning.All turn.None) turn_named (given opt.Turn found)

abbrev pub length_found : OptionId → (found : List Row) → Option ℤ
length_found option found = asked (pos 0) length_with_unit (given option found)

-- what is kept free along edges, and between cells
abbrev pub margins_found : (found : List Row) → Option Margins
margins_found found = asked (margins_in nothing_free) margins_named (given opt.Margin found)

abbrev pub gaps_found : (found : List Row) → Option Free
gaps_found found = asked nothing_free gaps_named (given opt.Gap found)

abbrev pub free_found : (found : List Row) → Option Free
free_found found = free_with (margins_found found) (gaps_found found) (length_found opt.Trim found)

-- how leaves are sewn, if anything is asked for
abbrev pub signing_found : (found : List Row) → Option (Option Signing)
signing_found found = asked None (λ text. option_map (λ signing. Some signing) (signing_named text)) (given opt.Signature found)

abbrev pub command_name : CellCommand → Text
command_name grid.NUp = codes "nup"
command_name grid.Cards = codes "cards"
command_name grid.Stack = codes "stack"
command_name grid.Notes = codes "notes"
command_name grid.Poster = codes "poster"

-- the cells that a text after such a command means; those of notes are a number of pages, and those of a poster are the sheets
-- that its size takes
abbrev pub cells_of_command : CellCommand → Text → Option Cells
cells_of_command grid.NUp text = cells_named text
cells_of_command grid.Cards text = cells_named text
cells_of_command grid.Stack text = cells_named text
cells_of_command grid.Notes text = noted_alone (cells_named text)
cells_of_command grid.Poster text = option_map sheets_of_size (poster_size_named text)

-- how many cells of the first sheet are used already, of so many: at least one is left
abbrev pub skip_named : (cells : ℕ) → Text → Option ℕ
skip_named cells text = option_and_then (λ n. if nat_lt n cells then Some n else None) (whole_number text)

abbrev pub skip_among : (cells : ℕ) → (found : List Row) → Option ℕ
skip_among cells found = asked 0 (skip_named cells) (given (opt.Skip cells) found)

-- grids and cards may begin on a sheet that is used in part, all others begin on a whole one (RULES, 14)
abbrev pub skip_found : Layout → (found : List Row) → Option ℕ
skip_found (layout.NUp cells) found = skip_among (cells_per_sheet cells) found
skip_found (layout.Cards cells) found = skip_among (cells_per_sheet cells) found
skip_found other found = Some 0

-- the cells that come after such a command
abbrev pub cells_found : CellCommand → (found : List Row) → Option Cells
cells_found command found = option_and_then (cells_of_command command) (given (opt.Count command) found)

-- the size of the poster that is asked for
abbrev pub poster_size_found : (found : List Row) → Option PosterSize
poster_size_found found = option_and_then poster_size_named (given (opt.Count grid.Poster) found)

abbrev pub run_found : (found : List Row) → Option (FillOrder × Bool)
run_found found = asked (Rows, false) run_named (given opt.Order found)

abbrev pub turned_found : (found : List Row) → Option Turned
turned_found found = asked Upright turned_named (given opt.Turned found)

abbrev pub scale_found : (found : List Row) → Option (Option ℤ)
scale_found found = asked None (λ text. option_map (λ scale. Some scale) (number_alone text)) (given opt.Scale found)

-- --rtl turns right into left in whatever order (RULES, 13.6)
abbrev pub order_by : (run : Option (FillOrder × Bool)) → (rtl : Bool) → Option Turned → Option Order
order_by None rtl turned = None
order_by (Some run) rtl None = None
order_by (Some run) rtl (Some turned) = Some (record { run = run.0; right_to_left = run.1 || rtl; turned = turned })

abbrev pub order_found : (found : List Row) → Option Order
order_found found = order_by (run_found found) (has_flag (codes "rtl") found) (turned_found found)

-- a booklet is folded and cut, other sheets with cells and those of posters are cut alone, and no others have marks; on those
-- for notes lines are drawn
abbrev pub lines_found : Layout → (found : List Row) → Option Marks
lines_found (layout.Booklet signing long_edge) found = asked no_marks booklet_marks_named (given opt.BookletMarks found)
lines_found (layout.Notes pages) found = Some lines_alone
lines_found layout.Zine found = Some no_marks
lines_found layout.Selection found = Some no_marks
lines_found (layout.Spec specs signing) found = Some no_marks
lines_found other found = asked no_marks cut_marks_named (given opt.CutMarks found)

-- how large numbers are, if pages have some
abbrev pub number_size_found : (found : List Row) → Option (Option ℤ)
number_size_found found = asked None (λ text. option_map (λ size. Some size) (number_size_named text)) (given opt.Numbers found)

-- the first number is 1, and another one is only named if there are numbers
abbrev pub first_number : (numbered : Bool) → Option Text → Option ℕ
first_number numbered None = Some 1
first_number false (Some text) = None
first_number true (Some text) = whole_number text

abbrev pub first_found : (found : List Row) → Option ℕ
first_found found = first_number (is_some (given opt.Numbers found)) (given opt.NumbersFrom found)

-- zines, posters, and what specifications place, have no numbers
abbrev pub has_numbers : Layout → Bool
has_numbers layout.Zine = false
has_numbers (layout.Poster cells) = false
has_numbers (layout.Spec specs signing) = false
has_numbers other = true

abbrev pub numbers_found : Layout → (found : List Row) → Option (Option Numbering)
numbers_found l found = if has_numbers l then numbering (number_size_found found) (first_found found) else Some None

abbrev pub marks_found : Layout → (found : List Row) → Option Marks
marks_found l found = marks_and_numbers (lines_found l found) (numbers_found l found)

abbrev pub part_by : (odd even : Bool) → Option Part
part_by false false = Some All
part_by true false = Some Odd
part_by false true = Some Even
part_by true true = None

abbrev pub part_found : (found : List Row) → Option Part
part_found found = part_by (has_flag (codes "odd") found) (has_flag (codes "even") found)

-- a minus sign is standard input or output, as no file is
abbrev pub file_of : Text → Option Text
file_of text = if bytes_eq text (codes "-") then None else Some text

abbrev pub file_asked : Option Text → Option Text
file_asked None = None
file_asked (Some text) = file_of text

-- a name that begins with a minus sign is most likely an option that came too late
abbrev pub is_like_option : Text → Bool
is_like_option text = starts_with nat_eq text (codes "-")

-- the file that is written, if one is asked for, isn't named so
abbrev pub is_outfile : Option Text → Bool
is_outfile None = true
is_outfile (Some name) = not (is_like_option name)

-- of the options that ask for something in place of the sheets the first two, if two are there
abbrev pub two_asked : (printed planned pictured : Bool) → Option (ProductOption × ProductOption)
two_asked true true pictured = Some (instead.PrintSpec, instead.Plan)
two_asked true false true = Some (instead.PrintSpec, instead.Preview)
two_asked false true true = Some (instead.Plan, instead.Preview)
two_asked true false false = None
two_asked false true false = None
two_asked false false pictured = None

abbrev pub two_found : (found : List Row) → Option (ProductOption × ProductOption)
two_found found = two_asked (has_flag (codes "print-spec") found) (has_flag (codes "plan") found)
    (is_some (given opt.Preview found))

-- the file after --preview
abbrev pub picture_found : (found : List Row) → Option (Option Text)
picture_found found = option_map file_of (given opt.Preview found)

-- ---- the request

-- the subcommand with this name and what was found for it ask for this layout
abbrev pub AsksFor : (name : Text) → (found : List Row) → Layout → Type 0
AsksFor name found (layout.NUp cells) = (name ≡ codes "nup") × (cells_found grid.NUp found ≡ Some cells)
AsksFor name found (layout.Cards cells) = (name ≡ codes "cards") × (cells_found grid.Cards found ≡ Some cells)
AsksFor name found (layout.Stack cells duplex) = (name ≡ codes "stack") × (cells_found grid.Stack found ≡ Some cells)
    × (has_flag (codes "duplex") found ≡ duplex)
AsksFor name found (layout.Notes pages) = (name ≡ codes "notes") × (cells_found grid.Notes found ≡ Some (AtLeast pages))
AsksFor name found (layout.Poster size) = (name ≡ codes "poster")
    × (poster_size_found found ≡ Some size)
AsksFor name found (layout.Booklet signing long_edge) = (name ≡ codes "booklet")
    × (option_map (λ sewn. unwrap_or sewn InOne) (signing_found found) ≡ Some signing)
    × (has_flag (codes "long-edge") found ≡ long_edge)
AsksFor name found layout.Zine = name ≡ codes "zine"
AsksFor name found layout.Selection = (name ≡ codes "select") × (is_some (first_of (codes "ranges") found) ≡ true)
AsksFor name found (layout.Spec specs signing) = (name ≡ codes "spec")
    × (first_of (codes "specs") found ≡ Some (string_bytes specs)) × (signing_found found ≡ Some signing)

-- the argument that names the pages of a layout
abbrev pub ranges_id : Layout → Text
ranges_id layout.Selection = codes "ranges"
ranges_id other = codes "pages"

-- what was found asks for these pages: as that argument says
abbrev pub ChoosesBy : (id : Text) → (found : List Row) → PageChoice → Type 0
ChoosesBy id found choice = (first_of id found ≡ option_map string_bytes choice.ranges)
    × (part_found found ≡ Some choice.part) × (has_flag (codes "reverse") found ≡ choice.backwards)

-- what was found asks for this to be kept free, for this creep and overlap, and for this order and scale, by a layout that
-- keeps room; or nothing is
abbrev pub SpacesBy : (keeps : Bool) → (found : List Row) → Spacing → Type 0
SpacesBy false found s = s ≡ record nothing_kept { skipped = s.skipped }
SpacesBy true found s = (free_found found ≡ Some s.free) × (length_found opt.Creep found ≡ Some s.creep)
    × (length_found opt.Overlap found ≡ Some s.overlap) × (order_found found ≡ Some s.order) × (scale_found found ≡ Some s.scale)
    × (has_flag (codes "same-scale") found ≡ s.same_scale)
    × (option_map (λ m. m.inner) (margins_found found) ≡ Some s.inner)

-- the product that is made by what was found
pub record MakesBy (found : List Row) (p : Product) : Type 0 where
  pub printed : has_flag (codes "print-spec") found ≡ is_specification p
  pub planned : has_flag (codes "plan") found ≡ is_plan p
  pub pictured : picture_found found ≡ picture_in p
  pub is_picture : IfSome (picture_in p) (λ file. is_picture_file file ≡ true)

-- the product is the picture in the file of this name
pub record NamesPicture (name : Text) (p : Product) : Type 0 where
  pub pictured : Some (file_of name) ≡ picture_in p
  pub is_picture : is_picture_file (file_of name) ≡ true

-- the papers, the border and the turn that are asked for
pub record ReadsSizes (found : List Row) (page_paper sheet_paper : Option Paper) (border : Option ℤ) (turn : Turning) : Type 0 where
  pub page_paper_is : size_found opt.Paper found ≡ Some page_paper
  pub sheet_paper_is : size_found opt.Sheet found ≡ Some sheet_paper
  pub border_is : border_found found ≡ Some border
  pub turn_is : turn_found found ≡ Some turn

-- the request is what was found (RULES, 11 to 15)
pub record ReadsRequest (name : Text) (found : List Row) (r : ImposeRequest) : Type 0 where
  pub layout : AsksFor name found r.layout
  pub skipped : skip_found r.layout found ≡ Some r.spacing.skipped
  pub spacing : SpacesBy (keeps_room r.layout) found r.spacing
  pub choice : ChoosesBy (ranges_id r.layout) found r.choice
  pub last_at_back : has_flag (codes "cover") found ≡ r.last_at_back
  pub page_paper : size_found opt.Paper found ≡ Some r.page_paper
  pub sheet_paper : size_found opt.Sheet found ≡ Some r.sheet_paper
  pub border : border_found found ≡ Some r.border
  pub turn : turn_found found ≡ Some r.turn
  pub marks : marks_found r.layout found ≡ Some r.marks
  pub guarded : r.is_guarded ≡ not (has_flag (codes "unguarded") found)
  pub product : MakesBy found r.product
  pub quiet : has_flag (codes "quiet") found ≡ r.is_quiet
  pub infile : file_asked (first_of (codes "infile") found) ≡ option_map string_bytes r.infile
  pub outfile : file_asked (given opt.Outfile found) ≡ option_map string_bytes r.outfile
  pub no_option : is_outfile (option_map string_bytes r.outfile) ≡ true
  pub replaces : has_flag (codes "replace") found ≡ r.replaces

-- the command takes the words, and finds the subcommand with this name and these rows for it
pub record Enters (words : List Text) (name : Text) (found : List Row) : Type 0 where
  pub taken : fault_of impose words ≡ []
  pub entered : subcommand_of impose words ≡ Some (name, found)

-- the command takes the words, and this holds of what it finds
abbrev pub Entered : (words : List Text) → ((name : Text) → (found : List Row) → Type 0) → Type 0
Entered words P = (name : Text) × (found : List Row) × Enters words name found × P name found
