-- What `--print-spec` prints: the specification, the command line of pstops that imposes by it, and what that doesn't do.
use Rattle.std.specs.Prelude.{◌≡◌, ◌⊎◌, ◌++◌, ◌&&◌, ℕ, Bool, true, false, if◌then◌else◌, List, length, Option, None, Some, codes, option_map, string_bytes}
use Rattle.rules.specs.Choice.{sides_for}
use Rattle.rules.specs.Papers.{Paper}
use Rattle.rules.specs.Specification.{Spec, canonical}
use Rattle.command_words.specs.Shell.{begins_with_minus, border_option, files_text, length_text, sides_option, text_if}
use Rattle.rows.specs.Printed.{is_plain}
use Rattle.rows.specs.Sewing.{signing_of}
use Rattle.pagespec.specs.declared.item.Turn.TheVariants as turned
use Rattle.impose_words.specs.declared.request.Layout.{Layout}
use Rattle.impose_words.specs.declared.request.Layout.TheVariants as layout
use Rattle.impose_words.specs.declared.request.Turning.{Turning}
use Rattle.impose_words.specs.declared.request.Turning.TheVariants as turning
use Rattle.impose_words.specs.declared.request.ImposeRequest.{ImposeRequest}
use Rattle.impose_messages.specs.Faults.{without_memory}
use Rattle.impose_messages.specs.declared.fault.ImposeFault.{ImposeFault}
use Rattle.impose_messages.specs.declared.fault.ImposeFault.TheVariants as fault
use Rattle.impose_cli.specs.Refusals.{RefusesRowTask}
use Rattle.impose_cli.specs.declared.laying.RowLaying.{RowLaying}
use Rattle.impose_cli.specs.declared.laying.RowLaying.TheVariants as row
use Rattle.impose_cli.specs.declared.row_task.RowTask.{RowTask}
use Rattle.impose_cli.specs.RowTasks.{IsRowTask, TakesNamed}
use Rattle.impose_cli.specs.RowsAsked.{row_asked, signing_in}

-- ---- words

-- a specification as it is written between quotes. One that begins with a minus has its modulo, as pstops would take it for an
-- option
abbrev pub quoted_spec : (spec : List ℕ) → List ℕ
quoted_spec spec = text_if (begins_with_minus spec) (codes "1:") ++ spec

-- ---- all of it

abbrev pub call_text : ImposeRequest → Paper → (sides : Option ℕ) → List ℕ
call_text r paper sides = codes "pstops" ++ text_if r.is_quiet (codes " -q") ++ sides_option sides ++ codes " -w " ++ length_text paper.width
    ++ codes " -h " ++ length_text paper.height ++ border_option r.border

abbrev pub printed_command : ImposeRequest → (spec : List ℕ) → Paper → (sides : Option ℕ) → List ℕ
printed_command r spec paper sides = call_text r paper sides ++ codes " '" ++ quoted_spec spec ++ codes "'"
    ++ files_text (option_map string_bytes r.infile) (option_map string_bytes r.outfile)

-- pstops puts no guard in
abbrev pub comment_text : ImposeRequest → List ℕ
comment_text r = text_if r.is_guarded (codes "# impose also puts its guard into the document, which pstops doesn't\n")

abbrev pub printed_text : ImposeRequest → (spec : List ℕ) → Paper → (sides : Option ℕ) → List ℕ
printed_text r spec paper sides = quoted_spec spec ++ codes "\n" ++ printed_command r spec paper sides ++ codes "\n" ++ comment_text r

-- ---- of a request

-- no page is turned
abbrev pub is_unturned : Turning → Bool
is_unturned (turning.All turned.None) = true
is_unturned other = false

abbrev pub is_named : Layout → Bool
is_named (layout.Spec specs signing) = true
is_named other = false

-- a specification says all that is asked for: all pages, in their order, blanks after them, and unturned (RULES, 16, step 10)
abbrev pub says_all : ImposeRequest → Bool
says_all r = is_plain (row_asked r) && is_unturned r.turn && is_named r.layout

abbrev pub spec_in : RowLaying → Option Spec
spec_in (row.Named spec sheet page) = Some spec
spec_in other = None

-- the one by which a task is laid, if it says that
abbrev pub said_by : ImposeRequest → RowLaying → Option Spec
said_by r laying = if is_plain (row_asked r) && is_unturned r.turn then spec_in laying else None

-- this is printed for so many pages of this paper: the canonical text of the specification that is named
abbrev pub IsPrintedFor : ImposeRequest → Paper → (pages : ℕ) → (text : List ℕ) → Type 0
IsPrintedFor r paper pages text = (spec : Spec) × (says_all r ≡ true) × TakesNamed r.layout spec
    × (text ≡ printed_text r (canonical spec) paper (option_map (λ how. sides_for (signing_of how) pages) (signing_in r.layout)))

-- for this document, whose pages can be laid so
abbrev pub IsSpecText : ImposeRequest → (input text : List ℕ) → Type 0
IsSpecText r input text = (t : RowTask) × IsRowTask r input t × IsPrintedFor r t.findings.page_paper (length t.papers.items) text

-- why nothing is: there is no task; or memory ran out, or no specification says what is asked for
abbrev pub RefusesPrinting : ImposeRequest → (input : List ℕ) → ImposeFault → Type 0
RefusesPrinting r input f = RefusesRowTask r input f
    ⊎ ((f ≡ without_memory) ⊎ ((f ≡ fault.NoSpecification) × (says_all r ≡ false)))
