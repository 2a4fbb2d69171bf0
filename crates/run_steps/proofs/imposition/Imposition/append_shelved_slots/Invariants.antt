use Rattle.std.proofs.Common.{◌≡◌, ◌++◌, length, take}
use Rattle.gather_table.specs.Table.{slots}
use Rattle.sheet_text.specs.Jobs.{slots_of, slots_text}
use Rattle.run_steps.specs.LookUps.{needed, pages_of, LooksUp}
use Rattle.run_steps.proofs.imposition.Imposition.append_shelved_slots.Given as goal

abbrev pub invariant-loop-slot : goal.invariant-loop-slot
invariant-loop-slot l = record {
  text : l.text ≡ l.fn.text ++ slots_text l.self.job.now (take l.slot (slots_of l.self.job.now l.sheet));
  looked_up : LooksUp (pages_of l.self.table.now.layout l.sheet) (length (needed (take l.slot (slots l.self.table.now.layout l.sheet)))) l.fn.seat l.seat;
}
