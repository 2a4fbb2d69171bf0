-- The meaning of the code's values.
use Rattle.std.specs.Prelude.{◌≡◌, ℕ, List, [], false, Option, Result, Ok, Err, IfSome}
use Rattle.rules.specs.Units.{TextUnit, BlockFault}
use Rattle.rules.specs.Units as block
use Rattle.rules.specs.Parts.{NestedUnit}
use Rattle.dsc.specs.declared.units.LineOrBlock.{LineOrBlock as CodeUnit}
use Rattle.dsc.specs.declared.units.UnitError.{UnitError}
use Rattle.dsc.specs.declared.units.UnitError.TheVariants as fault

abbrev pub unit_of : CodeUnit → TextUnit
unit_of u = record { content = u.content.now; bytes = u.bytes.now; is_block = u.is_block }

abbrev pub at_depth : ℕ → TextUnit → NestedUnit
at_depth depth unit = record { depth = depth; unit = unit }

-- a line of which only the content matters
abbrev pub comment_line : List ℕ → TextUnit
comment_line content = record { content = content; bytes = []; is_block = false }

abbrev pub block_fault : UnitError → BlockFault
block_fault fault.BadCount = block.BadCount
block_fault fault.ShortData = block.ShortData

-- a reader that needs no memory returns the result of reading
abbrev pub ReadsAs : {X Y E F : Type 0} → (X → Y) → (E → F) → Result X E → Result Y F → Type 0
ReadsAs view refusal (Ok x) read = read ≡ Ok (view x)
ReadsAs view refusal (Err e) read = read ≡ Err (refusal e)

-- the same, if memory may run out: an error that reports no fault says nothing of the text
abbrev pub GivesUnlessShort : {X Y E F : Type 0} → (X → Y) → (E → Option F) → Result X E → Result Y F → Type 0
GivesUnlessShort view refusal (Ok x) read = read ≡ Ok (view x)
GivesUnlessShort view refusal (Err e) read = IfSome (refusal e) (λ f. read ≡ Err f)
