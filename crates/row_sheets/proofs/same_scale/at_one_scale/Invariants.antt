use Rattle.std.proofs.Common.{◌≡◌, ℕ, ◌<◌, None, take}
use Rattle.std.specs.List.{fold}
use Rattle.rules.specs.Signatures.{entry_of}
use Rattle.row_sheets.specs.Shapes.{filling}
use Rattle.row_sheets.specs.SameScale.{least_with, why_no_own_scale}
use Rattle.row_sheets.proofs.same_scale.at_one_scale.Given as goal

abbrev pub invariant-loop-entry : goal.invariant-loop-entry
invariant-loop-entry l = record {
  least : l.least ≡ fold (least_with (filling l.setting l.papers)) None (take l.entry-index l.row);
  none : (i : ℕ) → i < l.entry-index → why_no_own_scale (filling l.setting l.papers) (entry_of l.row i) ≡ None;
}
