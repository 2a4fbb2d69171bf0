use Rattle.std.proofs.Common.{refl, sym, ap, ◌∙◌, arith, add-one}
use Rattle.std.specs.Prelude.{Some}
use Rattle.lengths.proofs.Table.{passed_over, found_at}
use Rattle.lengths.proofs.named.paper_by_name.Goals as goal

pub loop-known-preserved : goal.loop-known-preserved
loop-known-preserved c = rw add-one (passed_over _ c.loop-known.known-index _ c.args.name.now refl (omega arith) c.eq_ignore_ascii_case.result c.eq_ignore_ascii_case.ensures.test c.if-eq_ignore_ascii_case.false ∙ c.loop-known.invariant)

pub returns-then-eq_ignore_ascii_case : goal.returns-then-eq_ignore_ascii_case
returns-then-eq_ignore_ascii_case c =
    ap Some c.of_points.ensures
    ∙ sym (found_at _ c.loop-known.known-index _ c.args.name.now refl (omega (arith, c.loop-known-test.true)) c.eq_ignore_ascii_case.result c.eq_ignore_ascii_case.ensures.test c.if-eq_ignore_ascii_case.true)
    ∙ c.loop-known.invariant
