use Rattle.std.proofs.Common.{ℕ, List, take}
use Rattle.handover.specs.Passes.{IsPassOf}
use Rattle.run_steps.specs.Delivery.{HandedOn}
use Rattle.imposer.proofs.shared.Shared.put_blank_sheets.Given as goal

abbrev pub invariant-loop-sheet : goal.invariant-loop-sheet
invariant-loop-sheet g l = record {
  pass : IsPassOf l.self.objects.ready.now l.pass;
  put : (back : List ℕ) × HandedOn l.self.objects.ready.now (take l.sheet-index l.sheets) back l.initial.pass l.pass;
}
