-- The command line:
-- pstops [-q] [-s sides] [-p paper] [-w W] [-h H] [-d width] [-j preparers] [-k imposers] SPECS [INFILE [OUTFILE]].
use Rattle.std.specs.Prelude.{◌≡◌, ◌≢◌, ◌∷◌, true, false, List, [], Some, Option, Result, Ok}
use Rattle.std.specs.Prelude.{Err, codes, string_bytes, ℕ, ⊤, is_some, map, option_map, pos}
use Rattle.clap.specs.Words.{AddsArg, AddsInTurn, App, Row, Rule, Text, app_of, args_of, fault_of, first_of}
use Rattle.clap.specs.Words.{first_value, found_of, groups_of, matches_of, new_app, new_rule, one_of, rows_of, rule_of}
use Rattle.clap.specs.Simple.{Shape, on_top}
use Rattle.clap.specs.declared.builder.action.ArgAction.TheVariants.{Set, SetTrue}
use Rattle.clap.specs.declared.builder.arg.Arg.{Arg}
use Rattle.clap.specs.declared.builder.command.Command.{Command}
use Rattle.clap.specs.declared.builder.command.Command.TheViews.{out-Command}
use Rattle.clap.specs.declared.builder.value_parser.ValueParser.TheVariants.{Signed}
use Rattle.clap.specs.declared.parser.matches.ArgMatches.{ArgMatches}
use Rattle.rules.specs.Signatures.{most_sides}
use Rattle.imposer.specs.declared.options.Options.{Options}
use Rattle.imposer.specs.declared.worker_counts.Workers.{Workers}
use Rattle.imposer.specs.Workers.{AreWorkers}
use Rattle.command_words.specs.Matches.{has_true, number_named}
use Rattle.pstops_cli.specs.declared.command.Request.{Request}
use Rattle.pstops_cli.specs.declared.command.CommandFault.{CommandFault}
use Rattle.pstops_cli.specs.declared.command.CommandFault.TheVariants.{BadLength, BadWords, NoMemory, UnknownPaper}
use Rattle.pstops_cli.specs.Values.{AreInRange, letter_d, letter_h, letter_j, letter_k, letter_p, letter_s, letter_w}
use Rattle.pstops_cli.specs.Values.{options_named, workers_named}

-- ---- the command

abbrev pub word_rule : Text → Rule
word_rule id = record (new_rule id) { action = Some Set }

abbrev pub letter_flag_rule : Text → (letter : ℕ) → Rule
letter_flag_rule id letter = record (new_rule id) { short = Some letter; action = Some SetTrue }

-- an option with a value
abbrev pub valued_rule : Text → (letter : ℕ) → Rule
valued_rule id letter = record (new_rule id) { short = Some letter; action = Some Set }

-- an option with a whole number in this range
abbrev pub ranged_rule : (low high : ℕ) → Text → (letter : ℕ) → Rule
ranged_rule low high id letter = record (valued_rule id letter) { parser = Some (Signed (pos low) (pos high)) }

-- an option with a whole number from 1 to 16
abbrev pub counted_rule : Text → (letter : ℕ) → Rule
counted_rule id letter = ranged_rule 1 16 id letter

abbrev pub letter_q : ℕ
letter_q = 113

-- the arguments: SPECS, which is required, INFILE and OUTFILE, and the options
abbrev pub rules : List Rule
rules =
    record (word_rule (codes "specs")) { required = true }
    ∷ word_rule (codes "infile")
    ∷ word_rule (codes "outfile")
    ∷ letter_flag_rule (codes "quiet") letter_q
    ∷ valued_rule (codes "paper") letter_p
    ∷ valued_rule (codes "width") letter_w
    ∷ valued_rule (codes "height") letter_h
    ∷ valued_rule (codes "border") letter_d
    ∷ counted_rule (codes "preparers") letter_j
    ∷ counted_rule (codes "imposers") letter_k
    ∷ ranged_rule 4 most_sides (codes "sides") letter_s
    ∷ []

-- no word is the program's name, and -h, --help, -V and --version aren't added
abbrev pub bare_shape : Shape → Shape
bare_shape s = record s { no_binary_name = true; disable_help_flag = true; disable_version_flag = true }

-- opaque, so that what a clause says of it stays short
unfoldable pub pstops : App
pstops = on_top (λ s. record (bare_shape s) { rules = rules }) (new_app (codes "pstops"))

-- the command takes the words
abbrev pub TakesWords : (words : List Text) → Type 0
TakesWords words = fault_of pstops words ≡ []

-- ---- the request

-- as many workers as the numbers found of -j and -k say
abbrev pub workers_found : (found : List Row) → Workers
workers_found found = workers_named (one_of (codes "preparers") found) (one_of (codes "imposers") found)

-- as many sides as the number found of -s says, if it is there
abbrev pub sides_found : (found : List Row) → Option ℕ
sides_found found = number_named (one_of (codes "sides") found)

-- what the values found name, or the fault of the first of -p, -w, -h and -d, in this order, that names nothing
abbrev pub options_found : (found : List Row) → Result Options CommandFault
options_found found =
    options_named (first_of (codes "paper") found) (first_of (codes "width") found) (first_of (codes "height") found)
    (first_of (codes "border") found)
    (sides_found found) (workers_found found)

-- the request is what was found
pub record Reads (found : List Row) (r : Request) : Type 0 where
  pub spec : first_of (codes "specs") found ≡ Some (string_bytes r.spec)
  pub infile : first_of (codes "infile") found ≡ option_map string_bytes r.infile
  pub outfile : first_of (codes "outfile") found ≡ option_map string_bytes r.outfile
  pub options : options_found found ≡ Ok r.options
  pub quiet : has_true (first_of (codes "quiet") found) ≡ r.quiet

-- what a refusal says of what was found: a value that names nothing, the first of them
abbrev pub RefusesValues : (found : List Row) → CommandFault → Type 0
RefusesValues found BadWords = ⊥
RefusesValues found UnknownPaper = options_found found ≡ Err UnknownPaper
RefusesValues found (BadLength letter) = options_found found ≡ Err (BadLength letter)
RefusesValues found NoMemory = ⊤

-- what a refusal says of the words: they aren't taken, or they are and a value names nothing
abbrev pub RefusesWords : (words : List Text) → CommandFault → Type 0
RefusesWords words BadWords = fault_of pstops words ≢ []
RefusesWords words UnknownPaper = TakesWords words × (options_found (matches_of pstops words) ≡ Err UnknownPaper)
RefusesWords words (BadLength letter) = TakesWords words × (options_found (matches_of pstops words) ≡ Err (BadLength letter))
RefusesWords words NoMemory = ⊤

-- ---- how the command is made

-- what a refusal says of the words before their values are looked at
abbrev pub RefusesParse : (words : List Text) → CommandFault → Type 0
RefusesParse words BadWords = fault_of pstops words ≢ []
RefusesParse words UnknownPaper = ⊥
RefusesParse words (BadLength letter) = ⊥
RefusesParse words NoMemory = ⊤

-- these are the words' matches, SPECS is among them, the numbers of workers lie from 1 to 16, and that of sides from 4
-- to 1,000,000
pub record Finds (words : List Text) (m : ArgMatches) : Type 0 where
  pub rows : rows_of (found_of m) ≡ matches_of pstops words
  pub specs : is_some (first_value (found_of m) (codes "specs")) ≡ true
  pub workers : AreWorkers (workers_found (rows_of (found_of m)))
  pub sides : AreInRange (sides_found (rows_of (found_of m)))

-- a bare command to which arguments with these rules were added in turn
pub record IsChain (c : Command) : Type 0 where
  pub start : Command
  pub args : List Arg
  pub chain : AddsInTurn AddsArg start args c
  pub app : app_of start ≡ on_top bare_shape (new_app (codes "pstops"))
  pub no_args : args_of start ≡ []
  pub no_groups : groups_of start ≡ []
  pub no_globals : (out-Command start).has_globals ≡ false
  pub negates : (out-Command start).subcommand_negates_reqs ≡ false
  pub are : map rule_of args ≡ rules
