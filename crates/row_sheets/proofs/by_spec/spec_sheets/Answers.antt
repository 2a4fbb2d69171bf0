use Rattle.std.proofs.Common.{arith, ℕ, ◌≡◌, map, sym, ap, subst, ◌∙◌}
use Rattle.std.specs.Prelude.{flat_map}
use Rattle.std.specs.List.{range_with_len}
use Rattle.row_sheets.specs.BySpec.{sheet_by, AreFew}
use Rattle.row_sheets.proofs.BlockByBlock.{block_more}
use Rattle.row_sheets.proofs.GroupByGroup.{made_sheets_are}
use Rattle.row_sheets.proofs.by_spec.spec_sheets.Goals as goal

pub loop-block-preserved : goal.loop-block-preserved
loop-block-preserved c =
    let on = c.args.on.now in
    block_more (λ b. map (sheet_by on.sheet on.page on.row.now on.spec.now.modulo b) on.spec.now.groups) c.loop-block.made c.push_block.new.made c.loop-block.block c.loop-block.invariant c.in-Ok.ensures

pub returns-clause-made : goal.returns-clause-made
returns-clause-made c =
    let on = c.args.on.now in
    let f = λ (b : ℕ). map (sheet_by on.sheet on.page on.row.now on.spec.now.modulo b) on.spec.now.groups in
    c.loop-block.invariant
    ∙ ap (λ n. flat_map f (range_with_len 0 n)) ((let done : c.loop-block.block ≡ c.in_ok-blocks.blocks = omega (arith, c.loop-block-test.false, c.loop-block.auto.block-end) in done) ∙ c.in_ok-blocks.ensures.value)
    ∙ sym (made_sheets_are on.sheet on.page on.row.now on.spec.now)

pub returns-clause-few : goal.returns-clause-few
returns-clause-few c = subst AreFew (sym (returns-clause-made c)) c.in_ok-blocks.ensures.kept
