use Rattle.std.proofs.Common.{◌∙◌, ap, arith, sym}
use Rattle.std.specs.Prelude.{◌++◌}
use Rattle.rows.specs.Found.{row_found}
use Rattle.rows.proofs.Walked.{row_left, room_for_piece}
use Rattle.rows.proofs.filling.append_ranges.Goals as goal

pub append_range_if-requires : goal.append_range_if-requires
append_range_if-requires c =
    let pages = c.args.pages in
    let row = c.loop-left.row in
    let so_far = ap (λ left. row.items ++ row_left pages left) (sym c.in-Some.is) ∙ c.loop-left.invariant.0 in
    let enough = room_for_piece pages c.args.row.now.cap c.args.row.now.items row.items (row_found pages c.args.text.now)
    c.in-Some.rest.now c.split_at_byte.result.0.now c.split_at_byte.result.1 c.read_range.result so_far c.split_at_byte.ensures.parts c.read_range.ensures
    (omega (arith, c.requires, c.args.row.now.ok.0)) in
    omega (arith, enough, row.ok.0, c.loop-left.invariant.1)
