use Rattle.std.proofs.Common.{◌≡◌, None, take}
use Rattle.impose_cli.specs.Lying.{first_found, lying_on}
use Rattle.impose_cli.proofs.lying.lying_among.Given as goal

abbrev pub invariant-loop-sheet : goal.invariant-loop-sheet
invariant-loop-sheet l = first_found (lying_on l.wholly) (take l.sheet l.sheets) ≡ None
