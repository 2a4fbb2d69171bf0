-- The command line: impose nup N, impose booklet, impose zine, impose cards N, impose stack N, impose notes N, impose poster CxR,
-- impose select RANGES or impose spec SPECS, with [OPTIONS] [INFILE [OUTFILE]]. N is a number of pages, or columns and rows; for
-- notes it is a number.
use Rattle.std.specs.Prelude.{ℕ, true, List, [], ◌∷◌, Some, codes, ◌++◌}
use Rattle.std.specs.List.{fold}
use Rattle.clap.specs.Words.{App, Rule, Shape, Text, new_app, new_rule, with_rule, with_subcommand}
use Rattle.clap.specs.Simple.{on_top}
use Rattle.clap.specs.declared.builder.action.ArgAction.TheVariants.{Set, SetTrue}
use Rattle.impose_words.specs.declared.arguments.Argument.{Argument}
use Rattle.impose_words.specs.declared.arguments.Argument.TheVariants as argument
use Rattle.impose_words.specs.declared.arguments.Subcommand.{Subcommand}
use Rattle.impose_words.specs.declared.subcommands.Group.{Group}
use Rattle.impose_words.specs.declared.subcommands.Group.TheVariants as group

abbrev pub positional_rule : Text → Rule
positional_rule id = record (new_rule id) { value_names = 1; action = Some Set }

abbrev pub required_rule : Text → Rule
required_rule id = record (positional_rule id) { required = true }

-- an option with a value, by its long name
abbrev pub option_rule : Text → Rule
option_rule id = record (positional_rule id) { long = Some id }

abbrev pub flag_rule : Text → Rule
flag_rule id = record (new_rule id) { long = Some id; action = Some SetTrue }

-- a rule with a letter too
abbrev pub lettered : (letter : ℕ) → Rule → Rule
lettered letter rule = record rule { short = Some letter }

abbrev pub short_p : ℕ
short_p = 112

abbrev pub short_q : ℕ
short_q = 113

-- the arguments that every subcommand has
abbrev pub common_rules : List Rule
common_rules =
    flag_rule (codes "odd")
    ∷ flag_rule (codes "even")
    ∷ flag_rule (codes "reverse")
    ∷ positional_rule (codes "infile")
    ∷ positional_rule (codes "outfile")
    ∷ lettered short_p (option_rule (codes "paper"))
    ∷ option_rule (codes "sheet")
    ∷ option_rule (codes "border")
    ∷ flag_rule (codes "unguarded")
    ∷ flag_rule (codes "replace")
    ∷ flag_rule (codes "print-spec")
    ∷ lettered short_q (flag_rule (codes "quiet"))
    ∷ []

-- a subcommand with arguments of its own, those that it shares with some others, and after them those
abbrev pub subcommand_app : (name : Text) → (own shared : List Rule) → App
subcommand_app name own shared = fold with_rule (fold with_rule (fold with_rule (new_app name) own) shared) common_rules

-- what reports on the sheets in place of them
abbrev pub look_rules : List Rule
look_rules = flag_rule (codes "plan") ∷ option_rule (codes "preview") ∷ []

-- the same, and which of the pages
abbrev pub shown_rules : List Rule
shown_rules = flag_rule (codes "plan") ∷ option_rule (codes "preview") ∷ option_rule (codes "pages") ∷ []

-- the same, and how pages are turned
abbrev pub laid_rules : List Rule
laid_rules = option_rule (codes "turn") ∷ shown_rules

-- a number of pages, or columns and rows
abbrev pub count_rule : Rule
count_rule = required_rule (codes "count")

-- how large the numbers of pages are, and the first of them
abbrev pub numbers_rule : Rule
numbers_rule = option_rule (codes "numbers")

abbrev pub first_rule : Rule
first_rule = option_rule (codes "numbers-from")

-- in which order pages are in cells, how they lie, how large they are, what is kept free, and which marks and numbers are drawn
abbrev pub cell_rules : List Rule
cell_rules =
    option_rule (codes "order")
    ∷ option_rule (codes "turned")
    ∷ option_rule (codes "scale")
    ∷ flag_rule (codes "same-scale")
    ∷ option_rule (codes "margin")
    ∷ option_rule (codes "gap")
    ∷ option_rule (codes "trim")
    ∷ option_rule (codes "marks")
    ∷ numbers_rule
    ∷ first_rule
    ∷ flag_rule (codes "rtl")
    ∷ []

abbrev pub nup_app : App
nup_app = subcommand_app (codes "nup") (count_rule ∷ cell_rules) (option_rule (codes "skip") ∷ laid_rules)

abbrev pub cards_app : App
cards_app = subcommand_app (codes "cards") (count_rule ∷ cell_rules) (option_rule (codes "skip") ∷ laid_rules)

abbrev pub stack_app : App
stack_app = subcommand_app (codes "stack") (count_rule ∷ cell_rules) (flag_rule (codes "duplex") ∷ laid_rules)

abbrev pub notes_rules : List Rule
notes_rules =
    count_rule ∷ flag_rule (codes "same-scale") ∷ option_rule (codes "margin") ∷ option_rule (codes "gap")
    ∷ option_rule (codes "trim") ∷ numbers_rule ∷ first_rule ∷ []

abbrev pub notes_app : App
notes_app = subcommand_app (codes "notes") notes_rules laid_rules

-- columns and rows of sheets, the scale of pages, how far sheets overlap, their margin and their marks
abbrev pub poster_rules : List Rule
poster_rules = count_rule ∷ option_rule (codes "scale") ∷ option_rule (codes "overlap") ∷ option_rule (codes "margin") ∷ option_rule (codes "marks") ∷ []

abbrev pub poster_app : App
poster_app = subcommand_app (codes "poster") poster_rules laid_rules

-- how leaves are sewn and lie, and what cells have of these
abbrev pub booklet_rules : List Rule
booklet_rules =
    option_rule (codes "signature") ∷ option_rule (codes "creep") ∷ flag_rule (codes "long-edge")
    ∷ flag_rule (codes "cover") ∷ option_rule (codes "scale") ∷ flag_rule (codes "same-scale") ∷ option_rule (codes "margin") ∷ option_rule (codes "gap") ∷ option_rule (codes "trim")
    ∷ option_rule (codes "marks") ∷ numbers_rule ∷ first_rule ∷ flag_rule (codes "rtl") ∷ []

abbrev pub booklet_app : App
booklet_app = subcommand_app (codes "booklet") booklet_rules laid_rules

abbrev pub zine_rules : List Rule
zine_rules =
    flag_rule (codes "same-scale") ∷ option_rule (codes "margin") ∷ option_rule (codes "gap") ∷ flag_rule (codes "rtl") ∷ []

abbrev pub zine_app : App
zine_app = subcommand_app (codes "zine") zine_rules laid_rules

abbrev pub select_rules : List Rule
select_rules = required_rule (codes "ranges") ∷ numbers_rule ∷ first_rule ∷ []

abbrev pub select_app : App
select_app = subcommand_app (codes "select") select_rules (option_rule (codes "turn") ∷ look_rules)

abbrev pub spec_rules : List Rule
spec_rules = required_rule (codes "specs") ∷ option_rule (codes "signature") ∷ []

abbrev pub spec_app : App
spec_app = subcommand_app (codes "spec") spec_rules shown_rules

-- the commands with cells that are cut or folded
abbrev pub first_apps : List App
first_apps = nup_app ∷ booklet_app ∷ zine_app ∷ cards_app ∷ stack_app ∷ []

abbrev pub other_apps : List App
other_apps = notes_app ∷ poster_app ∷ select_app ∷ spec_app ∷ []

-- the command itself: it has a version, and a subcommand must be among the words
abbrev pub with_top : Shape → Shape
with_top s = record s { has_version = true; subcommand_required = true; arg_required_else_help = true }

-- opaque, so that what a clause says of it stays short
unfoldable pub impose : App
impose = fold (λ a sub. with_subcommand a sub.top) (on_top with_top (new_app (codes "impose"))) (first_apps ++ other_apps)

-- ---- the table of subcommands, by which the command is made

abbrev pub rule_in : Argument → Rule
rule_in (argument.Required id name help) = required_rule id.now
rule_in (argument.Positional id name help) = positional_rule id.now
rule_in (argument.Valued id name help) = option_rule id.now
rule_in (argument.Chosen id name help choices) = option_rule id.now
rule_in (argument.LetteredValued letter id name help) = lettered letter (option_rule id.now)
rule_in (argument.Flag id help) = flag_rule id.now
rule_in (argument.LetteredFlag letter id help) = lettered letter (flag_rule id.now)

abbrev pub id_of : Argument → Text
id_of (argument.Required id name help) = id.now
id_of (argument.Positional id name help) = id.now
id_of (argument.Valued id name help) = id.now
id_of (argument.Chosen id name help choices) = id.now
id_of (argument.LetteredValued letter id name help) = id.now
id_of (argument.Flag id help) = id.now
id_of (argument.LetteredFlag letter id help) = id.now

abbrev pub with_row : App → Argument → App
with_row app row = with_rule app (rule_in row)

-- the arguments of a group
abbrev pub rules_in : Group → List Rule
rules_in group.Count = count_rule ∷ []
rules_in group.Copies = count_rule ∷ []
rules_in group.BoundCells = cell_rules
rules_in group.Cells = cell_rules
rules_in group.Skip = option_rule (codes "skip") ∷ []
rules_in group.Duplex = flag_rule (codes "duplex") ∷ []
rules_in group.Booklet = booklet_rules
rules_in group.Zine = zine_rules
rules_in group.Notes = notes_rules
rules_in group.Poster = poster_rules
rules_in group.Selection = select_rules
rules_in group.Specs = spec_rules
rules_in group.Turn = option_rule (codes "turn") ∷ []
rules_in group.Look = look_rules
rules_in group.Pages = option_rule (codes "pages") ∷ []
rules_in group.Common = common_rules

abbrev pub with_group : App → Group → App
with_group app g = fold with_rule app (rules_in g)

-- a subcommand with the arguments of its row
abbrev pub app_in : Subcommand → App
app_in row = fold with_group (new_app row.name.now) row.groups.now

-- the command with one more of them
abbrev pub with_app : App → Subcommand → App
with_app app row = with_subcommand app (app_in row).top
