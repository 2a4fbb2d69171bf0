use Rattle.std.proofs.Common.{◌≡◌, map}
use Rattle.std.specs.Prelude.{flat_map}
use Rattle.std.specs.List.{range_with_len}
use Rattle.row_sheets.specs.BySpec.{sheet_by}
use Rattle.row_sheets.proofs.by_spec.spec_sheets.Given as goal

abbrev pub invariant-loop-block : goal.invariant-loop-block
invariant-loop-block l = l.made ≡ flat_map (λ b. map (sheet_by l.on.sheet l.on.page l.on.row.now l.on.spec.now.modulo b) l.on.spec.now.groups) (range_with_len 0 l.block)
