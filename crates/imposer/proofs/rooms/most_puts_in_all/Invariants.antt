use Rattle.std.proofs.Common.{◌≡◌, ◌≤◌, ◌*◌}
use Rattle.rules.specs.Sheets.{layout}
use Rattle.run_steps.specs.Duty.{most_puts_of}
use Rattle.imposer.proofs.rooms.most_puts_in_all.Given as goal

abbrev pub invariant-loop-number : goal.invariant-loop-number
invariant-loop-number l = record {
  value : l.puts ≡ most_puts_of (layout l.plan) l.count l.number;
  few : l.puts ≤ l.number * 4_294_967_295;
}
