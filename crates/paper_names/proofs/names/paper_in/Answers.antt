use Rattle.std.proofs.Common.{sym, ◌∙◌, arith, add-one}
use Rattle.paper_names.specs.Names.{letters}
use Rattle.paper_names.proofs.Table.{found_by, height_fits, passed_by, width_fits}
use Rattle.paper_names.proofs.names.paper_in.Goals as goal

pub loop-row-preserved : goal.loop-row-preserved
loop-row-preserved c = rw add-one (passed_by c.args.rows.now c.loop-row.row-index _ (letters c.args.name.now) c.as_bytes.result.now c.is_named.result c.as_bytes.ensures.value (omega (arith, c.loop-row-test.true)) c.is_named.ensures c.if-is_named.false ∙ c.loop-row.invariant)

pub returns-then-is_named : goal.returns-then-is_named
returns-then-is_named c = c.paper_of_points.ensures ∙ sym (found_by c.args.rows.now c.loop-row.row-index _ (letters c.args.name.now) c.as_bytes.result.now c.is_named.result c.as_bytes.ensures.value (omega (arith, c.loop-row-test.true)) c.is_named.ensures c.if-is_named.true) ∙ c.loop-row.invariant

pub paper_of_points-requires-clause-width : goal.paper_of_points-requires-clause-width
paper_of_points-requires-clause-width c = width_fits c.args.rows.now c.loop-row.row-index _ c.requires.sides (omega (arith, c.loop-row-test.true))

pub paper_of_points-requires-clause-height : goal.paper_of_points-requires-clause-height
paper_of_points-requires-clause-height c = height_fits c.args.rows.now c.loop-row.row-index _ c.requires.sides (omega (arith, c.loop-row-test.true))
