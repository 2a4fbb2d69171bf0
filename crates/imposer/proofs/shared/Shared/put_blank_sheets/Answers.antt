use Rattle.std.proofs.Common.{rules}
use Rattle.run_steps.proofs.HandingOn.{put_or_full, one_more}
use Rattle.imposer.proofs.shared.Shared.put_blank_sheets.Goals as goal

pub loop-sheet-preserved : goal.loop-sheet-preserved
loop-sheet-preserved g c = record {
  pass = search rules;
  put = one_more c.args.self.now.objects.ready.now c.args.sheets.now c.loop-sheet.sheet-index _ c.args.pass.now c.loop-sheet.pass c.put.new.pass c.loop-sheet-test.true c.loop-sheet.invariant.put
      (put_or_full c.args.self.now.objects.ready.now _ c.loop-sheet.pass c.put.new.pass c.put.result c.put.ensures.put c.put.ensures.full c.put.ensures.full_only_at_capacity c.put.ensures.by_right);
}
