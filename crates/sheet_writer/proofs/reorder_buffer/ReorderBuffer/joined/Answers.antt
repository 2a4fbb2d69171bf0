use Rattle.std.proofs.Common.{rules, arith, length, ◌<◌}
use Rattle.sheet_text.specs.Jobs.{text_of}
use Rattle.sheet_writer.proofs.InRow.{row_joined}
use Rattle.sheet_writer.proofs.Places.{comes_by, lies_at, told_by}
use Rattle.sheet_writer.proofs.reorder_buffer.ReorderBuffer.joined.Goals as goal

pub returns-clause-text : goal.returns-clause-text
returns-clause-text c job early =
    let lt : c.index.result.now.group < length c.args.self.now.groups.items = search rules in
    let have = early c.index.result.now.group c.in-Some.finished (lies_at _ c.index.result.now.group _ c.in-Some.finished lt c.index-2.ensures c.in-Some.is) in
    row_joined (text_of job) c.in-Some.finished c.index.result.now.nth c.args.sheet c.joined.result have c.joined.ensures.row c.joined.ensures.text

pub returns-clause-came : goal.returns-clause-came
returns-clause-came c =
    let lt : c.index.result.now.group < length c.args.self.now.groups.items = search rules in
    let some : 0 < length c.args.self.now.groups.items = omega (arith, lt) in
    told_by c.joined.result _ c.args.sheet _
    (comes_by c.args.self.now c.args.sheet c.place_of-place.result c.index.result.now c.index-2.result.now c.in-Some.finished (c.place_of-place.ensures some)
    (search rules) c.index.ensures lt c.index-2.ensures c.in-Some.is)
    c.joined.ensures.found c.joined.ensures.none
