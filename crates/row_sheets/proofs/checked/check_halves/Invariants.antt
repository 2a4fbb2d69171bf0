use Rattle.std.proofs.Common.{◌≡◌, ℕ, ◌<◌, None}
use Rattle.rules.specs.Signatures.{entry_of}
use Rattle.row_sheets.specs.Shapes.{filling}
use Rattle.row_sheets.proofs.Refused.{in_its_half}
use Rattle.row_sheets.proofs.checked.check_halves.Given as goal

abbrev pub invariant-loop-place : goal.invariant-loop-place
invariant-loop-place l = (j : ℕ) → j < l.place → in_its_half (filling l.setting l.papers) l.creep.innermost l.creep.leaves j (entry_of l.row j) ≡ None
