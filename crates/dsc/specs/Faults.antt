-- The faults of a document, in terms of the code.
use Rattle.std.specs.Prelude.{◌≡◌, ℕ, ◌≤◌, true, List, length, codes, nat_eq, Option, Some, None}
use Rattle.std.specs.List.{starts_with}
use Rattle.rules.specs.Units.{FaultyBlock}
use Rattle.rules.specs.Units as block
use Rattle.rules.specs.Run.{DocumentFault, InputTooLong, NotPostScript, BadBlock, InputTooManyPages, NoPages}
use Rattle.rules.specs.Run.{most_input_bytes}
use Rattle.dsc.specs.Units.{faulty_block}
use Rattle.dsc.specs.declared.errors.CutError.{CutError}
use Rattle.dsc.specs.declared.errors.CutError.TheVariants as cut_fault
use Rattle.dsc.specs.declared.units.UnitError.{UnitError}
use Rattle.dsc.specs.declared.units.UnitError.TheVariants as unit_fault
use Rattle.dsc.specs.Views.{block_fault}
use Rattle.dsc.specs.declared.errors.DscError.{DscError}
use Rattle.dsc.specs.declared.errors.DscError.TheVariants as fault

abbrev pub reported_block_fault : CutError → Option FaultyBlock
reported_block_fault (cut_fault.Faulty b) = Some (faulty_block b.at (block_fault b.fault))
reported_block_fault cut_fault.NoMemory = None

-- out of memory reports no fault
abbrev pub reported_fault : DscError → Option DocumentFault
reported_fault fault.TooLong = Some InputTooLong
reported_fault fault.NotPostScript = Some NotPostScript
reported_fault (fault.BadCount at) = Some (BadBlock (faulty_block at block.BadCount))
reported_fault (fault.ShortData at) = Some (BadBlock (faulty_block at block.ShortData))
reported_fault fault.TooManyPages = Some InputTooManyPages
reported_fault fault.NoPages = Some NoPages
reported_fault fault.NoMemory = None

abbrev pub refusal_at : ℕ → UnitError → DscError
refusal_at at unit_fault.BadCount = fault.BadCount at
refusal_at at unit_fault.ShortData = fault.ShortData at

abbrev pub widened : CutError → DscError
widened (cut_fault.Faulty b) = refusal_at b.at b.fault
widened cut_fault.NoMemory = fault.NoMemory

-- the first two checks are made before memory is asked for
abbrev pub PassedFirstChecks : DscError → List ℕ → Type 0
PassedFirstChecks fault.NoMemory text = (length text ≤ most_input_bytes) × (starts_with nat_eq text (codes "%!") ≡ true)
PassedFirstChecks other text = Unit {0}

-- how a page is refused: with its first faulty block, or because memory ran out
abbrev pub reported_page_fault : DscError → Option FaultyBlock
reported_page_fault (fault.BadCount at) = Some (faulty_block at block.BadCount)
reported_page_fault (fault.ShortData at) = Some (faulty_block at block.ShortData)
reported_page_fault other = None

abbrev pub IsPageError : DscError → Type 0
IsPageError (fault.BadCount at) = Unit {0}
IsPageError (fault.ShortData at) = Unit {0}
IsPageError fault.NoMemory = Unit {0}
IsPageError other = ⊥
