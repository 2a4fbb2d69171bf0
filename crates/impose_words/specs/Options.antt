-- The table of options as a JSON text, for other programs. Each argument has a line of its own.
use Rattle.std.specs.Prelude.{ℕ, ℤ, Bool, List, [], ◌∷◌, ◌++◌, ◌||◌, ◌/◌, Option, Some, None, codes, decimal, false, if◌then◌else◌, nat_abs}
use Rattle.std.specs.List.{fold, list_any}
use Rattle.std.specs.Borrow.{Bor}
use Rattle.std.specs.Str.{bytes_eq}
use Rattle.clap.specs.Words.{Text}
use Rattle.rules.specs.Papers.{NamedPaper}
use Rattle.paper_names.specs.Names.{papers}
use Rattle.impose_words.specs.Command.{id_of}
use Rattle.impose_words.specs.declared.arguments.Argument.{Argument}
use Rattle.impose_words.specs.declared.arguments.Argument.TheVariants as argument
use Rattle.impose_words.specs.declared.arguments.Subcommand.{Subcommand}
use Rattle.impose_words.specs.declared.options.OptionTable.{OptionTable}
use Rattle.impose_words.specs.declared.subcommands.Group.{Group}
use Rattle.impose_words.specs.declared.subcommands.Group.TheVariants as group

-- these words, of which the first is the program's name, ask for the text
abbrev pub asks_for_options : List Text → Bool
asks_for_options (program ∷ word ∷ []) = bytes_eq word (codes "--options")
asks_for_options words = false

-- the arguments of a group
abbrev pub arguments_of : OptionTable → Group → List Argument
arguments_of table group.Count = table.count.now
arguments_of table group.Copies = table.copies.now
arguments_of table group.BoundCells = table.bound_cells.now
arguments_of table group.Cells = table.cells.now
arguments_of table group.Skip = table.skip.now
arguments_of table group.Duplex = table.duplex.now
arguments_of table group.Booklet = table.booklet.now
arguments_of table group.Zine = table.zine.now
arguments_of table group.Notes = table.notes.now
arguments_of table group.Poster = table.poster.now
arguments_of table group.Selection = table.selection.now
arguments_of table group.Specs = table.specs.now
arguments_of table group.Turn = table.turn.now
arguments_of table group.Look = table.look.now
arguments_of table group.Pages = table.pages.now
arguments_of table group.Common = table.common.now

-- ---- a text with one part more

-- a string, after what ends in its first quote
abbrev pub with_string : (text before value : List ℕ) → List ℕ
with_string text before value = text ++ before ++ value ++ codes "\""

abbrev pub with_letter : List ℕ → (letter : Option ℕ) → List ℕ
with_letter text None = text ++ codes ", \"short\": \""
with_letter text (Some letter) = text ++ codes ", \"short\": \"" ++ (letter ∷ [])

-- an argument up to its name; its form is that of a word that must be there or may be, or of an option
abbrev pub with_head : (text form : List ℕ) → (letter : Option ℕ) → (id : List ℕ) → List ℕ
with_head text form letter id = with_string (with_letter (with_string text (codes "{\"form\": \"") form) letter) (codes "\", \"name\": \"") id

-- the name of its value in the help, its kind, and its choices
abbrev pub with_value : (text name kind choices : List ℕ) → List ℕ
with_value text name kind choices =
    with_string (with_string (with_string text (codes ", \"label\": \"") name) (codes ", \"kind\": \"") kind) (codes ", \"choices\": \"") choices

abbrev pub with_help : (text help : List ℕ) → List ℕ
with_help text help = with_string text (codes ", \"help\": \"") help ++ codes "},\n"

-- the kind of the values that the help calls by this name
abbrev pub kind_of : (name : List ℕ) → List ℕ
kind_of name =
    if bytes_eq name (codes "N") || bytes_eq name (codes "CxR") then codes "count"
    else (if bytes_eq name (codes "PAGES") || (bytes_eq name (codes "NUMBER") || bytes_eq name (codes "CELLS")) then codes "number"
    else (if bytes_eq name (codes "LENGTH") || (bytes_eq name (codes "SIZE") || bytes_eq name (codes "WIDTH")) then codes "length"
    else (if bytes_eq name (codes "LENGTHS") then codes "lengths"
    else (if bytes_eq name (codes "PAPER") then codes "paper"
    else (if bytes_eq name (codes "RANGES") then codes "ranges"
    else (if bytes_eq name (codes "SCALE") then codes "scale"
    else (if bytes_eq name (codes "FILE") || (bytes_eq name (codes "INFILE") || bytes_eq name (codes "OUTFILE")) then codes "file"
    else codes "text")))))))

abbrev pub with_valued : (text form : List ℕ) → (letter : Option ℕ) → (id name help : List ℕ) → List ℕ
with_valued text form letter id name help = with_help (with_value (with_head text form letter id) name (kind_of name) []) help

abbrev pub with_flag : List ℕ → (letter : Option ℕ) → (id help : List ℕ) → List ℕ
with_flag text letter id help = with_help (with_value (with_head text (codes "option") letter id) [] (codes "flag") []) help

abbrev pub with_argument : List ℕ → Argument → List ℕ
with_argument text (argument.Required id name help) = with_valued text (codes "required") None id.now name.now help.now
with_argument text (argument.Positional id name help) = with_valued text (codes "optional") None id.now name.now help.now
with_argument text (argument.Valued id name help) = with_valued text (codes "option") None id.now name.now help.now
with_argument text (argument.LetteredValued letter id name help) = with_valued text (codes "option") (Some letter) id.now name.now help.now
with_argument text (argument.Chosen id name help choices) =
    with_help (with_value (with_head text (codes "option") None id.now) name.now (codes "choice") choices.now) help.now
with_argument text (argument.Flag id help) = with_flag text None id.now help.now
with_argument text (argument.LetteredFlag letter id help) = with_flag text (Some letter) id.now help.now

-- ---- the table

-- an argument, unless the help leaves it out
abbrev pub with_shown : (hidden : List (Bor (List ℕ))) → List ℕ → Argument → List ℕ
with_shown hidden text a = if list_any (λ name. bytes_eq name.now (id_of a)) hidden then text else with_argument text a

abbrev pub with_group : OptionTable → (hidden : List (Bor (List ℕ))) → List ℕ → Group → List ℕ
with_group table hidden text g = fold (with_shown hidden) text (arguments_of table g)

-- a command, whose last argument is --help
abbrev pub with_command : OptionTable → List ℕ → Subcommand → List ℕ
with_command table text row =
    fold (with_group table row.hidden.now)
    (with_string (with_string text (codes "{\"name\": \"") row.name.now) (codes ", \"help\": \"") row.about.now ++ codes ", \"arguments\": [\n")
    row.groups.now
    ++ codes "{\"form\": \"option\", \"short\": \"h\", \"name\": \"help\", \"label\": \"\", \"kind\": \"flag\", \"choices\": \"\", \"help\": \"Print help\"}]},\n"

-- a side of a paper, in points
abbrev pub side_json : ℤ → List ℕ
side_json side = decimal (nat_abs side / 127_000_000_000)

abbrev pub paper_json : NamedPaper → List ℕ
paper_json p = codes "\"" ++ p.name ++ codes "\": [" ++ side_json p.paper.width ++ codes ", " ++ side_json p.paper.height ++ codes "]"

abbrev pub papers_json : List NamedPaper → List ℕ
papers_json [] = []
papers_json (p ∷ []) = paper_json p
papers_json (p ∷ q ∷ ps) = paper_json p ++ codes ", " ++ papers_json (q ∷ ps)

abbrev pub front_json : List ℕ
front_json = codes "{\"version\": 1, \"program\": \"impose\", \"papers\": {" ++ papers_json papers ++ codes "}, \"commands\": [\n"

-- the papers, the commands of the table, and the one that prints help
abbrev pub options_json : OptionTable → List ℕ
options_json table = fold (with_command table) front_json table.commands.now
    ++ codes "{\"name\": \"help\", \"help\": \"Print this message or the help of the given subcommand(s)\", \"arguments\": []}\n]}\n"
