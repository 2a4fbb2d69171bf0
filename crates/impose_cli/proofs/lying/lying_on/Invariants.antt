use Rattle.std.proofs.Common.{◌≡◌, None, take}
use Rattle.sheet_plan.specs.OfSheets.{slots_at}
use Rattle.impose_cli.specs.Lying.{first_found, lying}
use Rattle.impose_cli.proofs.lying.lying_on.Given as goal

abbrev pub invariant-loop-slot : goal.invariant-loop-slot
invariant-loop-slot l = first_found (lying l.wholly l.paper) (take l.slot (slots_at l.sheets l.sheet)) ≡ None
