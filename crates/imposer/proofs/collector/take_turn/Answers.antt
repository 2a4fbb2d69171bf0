use Rattle.std.proofs.Common.{arith, refl, suc}
use Rattle.imposer.proofs.Texts.{have_of_job}
use Rattle.imposer.proofs.collector.take_turn.Goals as goal

pub try_recv_as-received-requires-clause-rule : goal.try_recv_as-received-requires-clause-rule
try_recv_as-received-requires-clause-rule g c = ((λ x items views h at. (tt, (λ k d below. h (suc k) d (omega arith)), h 0 x (omega arith))), λ items views h at. tt)

pub write_early-state-requires : goal.write_early-state-requires
write_early-state-requires g c κs =
    let job = c.args.input.now.shared.now.objects.job.now in
    let ruled = c.args.input.now.ruled.now in
    let early = c.put.ensures.early job (have_of_job g.T.SheetTexts.text job ruled.job.now c.in-Ok.batch c.args.input.now.same_job ruled.texts c.in-Ok.ensures.rule) c.requires.parts.early in
    ((refl, tt), (c.requires.countable, (c.requires.going, early)))

pub returns-then-is_none-clause-parts : goal.returns-then-is_none-clause-parts
returns-then-is_none-clause-parts g c = record { header = c.requires.parts.header; trailer = c.requires.parts.trailer; early = c.write_early-state.ensures.early }

pub returns-else-is_none-clause-parts : goal.returns-else-is_none-clause-parts
returns-else-is_none-clause-parts g c = record { header = c.requires.parts.header; trailer = c.requires.parts.trailer; early = c.write_early-state.ensures.early }
