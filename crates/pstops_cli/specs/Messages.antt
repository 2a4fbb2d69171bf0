-- What is said on standard error, and with which exit status the program ends.
use Rattle.std.specs.Prelude.{◌++◌, ℕ, List, codes, decimal, encode_utf8}
use Rattle.rules.specs.Bytes.{line}
use Rattle.pagespec.specs.declared.error.SpecError.{SpecError}
use Rattle.pagespec.specs.declared.error.SpecError.TheVariants as spec
use Rattle.dsc.specs.declared.errors.DscError.{DscError}
use Rattle.dsc.specs.declared.errors.DscError.TheVariants as document
use Rattle.sheet_plan.specs.declared.error.PlanError.{PlanError}
use Rattle.sheet_plan.specs.declared.error.PlanError.TheVariants as plan
use Rattle.imposer.specs.declared.outcome.RunError.{RunError}
use Rattle.imposer.specs.declared.outcome.RunError.TheVariants as run
use Rattle.imposer.specs.declared.outcome.Report.{Report}
use Rattle.world.specs.declared.read.ReadFault.{ReadFault}
use Rattle.world.specs.declared.read.ReadFault.TheVariants as read
use Rattle.imposer.specs.Statuses.{run_status}
use Rattle.pstops_cli.specs.declared.command.CommandFault.{CommandFault}
use Rattle.pstops_cli.specs.declared.command.CommandFault.TheVariants as command
use Rattle.pstops_cli.specs.declared.messages.Fault.{Fault}
use Rattle.pstops_cli.specs.declared.messages.Fault.TheVariants as fault

-- a line of the program
abbrev pub program_line : List ℕ → List ℕ
program_line text = line (codes "pstops: " ++ text)

-- ---- the texts

abbrev pub out_of_memory : List ℕ
out_of_memory = codes "out of memory"

abbrev pub cannot_write : List ℕ
cannot_write = codes "cannot write output"

abbrev pub command_message : CommandFault → List ℕ
command_message command.BadWords = codes "bad command line"
command_message command.UnknownPaper = codes "unknown paper"
command_message (command.BadLength letter) = codes "bad length after -" ++ encode_utf8 letter
command_message command.NoMemory = out_of_memory

abbrev pub read_message : ReadFault → List ℕ
read_message read.Device = codes "cannot read input"
read_message read.NoMemory = out_of_memory

abbrev pub spec_message : SpecError → List ℕ
spec_message spec.TooLong = codes "specification: too long"
spec_message (spec.Syntax at) = codes "specification: syntax error at byte " ++ decimal at
spec_message spec.TooLarge = codes "specification: number too large"
spec_message spec.ModuloZero = codes "specification: modulo is zero"
spec_message (spec.PageOutOfBlock item) =
    codes "specification: item " ++ decimal item ++ codes ": page number not below modulo"
spec_message (spec.ScaleZero item) = codes "specification: item " ++ decimal item ++ codes ": scale not above zero"
spec_message (spec.Repeated item) = codes "specification: item " ++ decimal item ++ codes ": modifier repeated"
spec_message (spec.TooManySlots group) = codes "specification: group " ++ decimal group ++ codes ": too many items"
spec_message spec.TooManyGroups = codes "specification: too many groups"
spec_message spec.NoMemory = out_of_memory

abbrev pub document_message : DscError → List ℕ
document_message document.TooLong = codes "input too long"
document_message document.NotPostScript = codes "input is not PostScript"
document_message (document.BadCount at) = codes "input: bad count at byte " ++ decimal at
document_message (document.ShortData at) = codes "input: data cut short at byte " ++ decimal at
document_message document.TooManyPages = codes "input: too many pages"
document_message document.NoPages = codes "input: no pages"
document_message document.NoMemory = out_of_memory

abbrev pub plan_message : PlanError → List ℕ
plan_message plan.TooManyPages = codes "plan: too many pages"
plan_message plan.TooManySheets = codes "plan: too many sheets"
plan_message plan.TooManyPlaces = codes "plan: too many places"
plan_message plan.NoMemory = out_of_memory

abbrev pub run_message : RunError → List ℕ
run_message run.Options = codes "bad options"
run_message (run.Spec e) = spec_message e
run_message (run.Document e) = document_message e
run_message (run.Plan e) = plan_message e
run_message (run.NoMemory written) = out_of_memory
run_message (run.Write written) = cannot_write

abbrev pub fault_message : Fault → List ℕ
fault_message (fault.Command f) = command_message f
fault_message (fault.Read f) = read_message f
fault_message fault.Create = cannot_write
fault_message (fault.Run e) = run_message e

abbrev pub report_message : Report → List ℕ
report_message r = codes "pages "
    ++ (decimal r.pages ++ (codes ", sheets " ++ (decimal r.sheets ++ (codes ", bytes " ++ decimal r.bytes))))

-- ---- the exit statuses: 1 if what was asked for is refused, 2 if the words are, 3 if memory, reading or writing
-- failed

abbrev pub command_exit_status : CommandFault → ℕ
command_exit_status command.NoMemory = 3
command_exit_status _ = 2

abbrev pub fault_exit_status : Fault → ℕ
fault_exit_status (fault.Command f) = command_exit_status f
fault_exit_status (fault.Read f) = 3
fault_exit_status fault.Create = 3
fault_exit_status (fault.Run e) = run_status e
