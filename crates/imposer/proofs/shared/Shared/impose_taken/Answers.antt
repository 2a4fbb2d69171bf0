use Rattle.std.specs.Prelude.{length}
use Rattle.run_steps.specs.LookUps.{pages_of}
use Rattle.imposer.proofs.shared.Shared.impose_taken.Goals as goal
use Rattle.run_steps.proofs.Reading.{reads_look_ups, reads_until, reads_both}

pub returns-in-Ok-clause-reads : goal.returns-in-Ok-clause-reads
returns-in-Ok-clause-reads g c =
    let pages = pages_of c.args.self.now.objects.table.now.layout c.args.sheet in
    reads_both _ _ _ c.is_complete.ensures.reads (reads_look_ups _ _ pages (length pages) c.in-Ok.ensures.looked_up)

pub returns-in-NotShown-clause-reads : goal.returns-in-NotShown-clause-reads
returns-in-NotShown-clause-reads g c =
    reads_both _ _ _ c.is_complete.ensures.reads (reads_until _ _ (pages_of c.args.self.now.objects.table.now.layout c.args.sheet) _ c.in-Err.ensures.looked_up)
