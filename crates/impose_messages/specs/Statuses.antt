-- The exit statuses: 1 if what was asked for is refused, 2 if the words or the options are, 3 if memory, reading or
-- writing failed, and 0 after a call for help or for the version.
use Rattle.std.specs.Prelude.{ℕ}
use Rattle.clap.specs.Words.{kind_of}
use Rattle.clap.specs.declared.error.kind.ErrorKind.{ErrorKind}
use Rattle.clap.specs.declared.error.kind.ErrorKind.TheVariants.{DisplayHelp, DisplayVersion}
use Rattle.layouts.specs.declared.error.ArrangementError.TheVariants as layout
use Rattle.row_sheets.specs.declared.poster.PosterError.TheVariants as poster
use Rattle.rows.specs.declared.error.RowError.TheVariants as row
use Rattle.sheet_plan.specs.declared.error.MadeError.TheVariants as made
use Rattle.imposer.specs.Statuses.{run_status}
use Rattle.impose_words.specs.declared.fault.RequestFault.{RequestFault}
use Rattle.impose_words.specs.declared.fault.RequestFault.TheVariants as command
use Rattle.impose_messages.specs.declared.fault.ImposeFault.{ImposeFault}
use Rattle.impose_messages.specs.declared.fault.ImposeFault.TheVariants as fault

abbrev pub words_status : ErrorKind → ℕ
words_status DisplayHelp = 0
words_status DisplayVersion = 0
words_status other = 2

abbrev pub command_status : RequestFault → ℕ
command_status (command.Words error) = words_status (kind_of error)
command_status command.NoMemory = 3
command_status command.NoText = 2
command_status command.Lacking = 2
command_status (command.BadValue option text) = 2
command_status command.OddAndEven = 2
command_status (command.TwoProducts one other) = 2

-- RULES, 16
abbrev pub fault_status : ImposeFault → ℕ
fault_status (fault.Command f) = command_status f
fault_status (fault.Layout layout.NoMemory) = 3
fault_status (fault.Layout e) = 1
fault_status (fault.Poster poster.NoMemory) = 3
fault_status (fault.Poster e) = 1
fault_status (fault.Row row.NoMemory) = 3
fault_status (fault.Row e) = 1
fault_status (fault.Sheets made.NoMemory) = 3
fault_status (fault.Sheets e) = 1
fault_status (fault.Read cause) = 3
fault_status (fault.Write written cause) = 3
fault_status (fault.Run e) = run_status e
fault_status (fault.Idle option) = 2
fault_status fault.OverInput = 2
fault_status fault.OverDocument = 2
fault_status fault.OnTerminal = 2
fault_status (fault.NoSuchPage place pages) = 1
fault_status fault.OutOfReach = 1
fault_status fault.NoSpecification = 1
fault_status fault.NoInput = 1
fault_status fault.Pdf = 1
fault_status (fault.OtherFile kind) = 1
fault_status fault.DosEps = 1
fault_status fault.Eps = 1
fault_status fault.Utf16 = 1
fault_status fault.JobLanguage = 1
fault_status fault.TooLong = 1
