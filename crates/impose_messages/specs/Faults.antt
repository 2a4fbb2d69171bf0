-- What an error of a part makes of a request, before anything was written.
use Rattle.std.specs.Prelude.{◌≡◌, ◌⊎◌, Option, Some, option_map}
use Rattle.std.specs.IoError.{error_kind}
use Rattle.std.specs.declared.io.ErrorKind.TheVariants.{OutOfMemory}
use Rattle.std.below.std_io.specs.declared.io.error.Error.{Error}
use Rattle.layouts.specs.declared.error.ArrangementError.{ArrangementError}
use Rattle.layouts.specs.declared.error.ArrangementError.TheVariants as layout
use Rattle.imposer.specs.Outcomes.{no_memory}
use Rattle.impose_messages.specs.declared.fault.ImposeFault.{ImposeFault}
use Rattle.impose_messages.specs.declared.fault.ImposeFault.TheVariants as fault

abbrev pub without_memory : ImposeFault
without_memory = fault.Run no_memory

abbrev pub of_layout : ArrangementError → ImposeFault
of_layout layout.NoMemory = without_memory
of_layout other = fault.Layout other

-- of an input that couldn't be opened or read for this cause: out of memory, if the cause is that
abbrev pub IsUnreadFor : (cause : Option Error) → ImposeFault → Type 0
IsUnreadFor cause f =
    ((option_map error_kind cause ≡ Some OutOfMemory) × (f ≡ without_memory))
    ⊎ (¬ (option_map error_kind cause ≡ Some OutOfMemory) × (f ≡ fault.Read cause))
