use Rattle.std.proofs.Common.{◌≡◌, ◌%◌, length, min}
use Rattle.rules.specs.Sheets.{layout}
use Rattle.run_steps.specs.Duty.{is_place, share_below}
use Rattle.imposer.proofs.rooms.most_puts.Given as goal

abbrev pub invariant-loop-page : goal.invariant-loop-page
invariant-loop-page l = record {
  value : l.puts ≡ min (share_below is_place (layout l.plan) l.count l.number (min l.page l.plan.pages)) (length l.plan.sheets);
  own : l.page % l.count ≡ l.number;
}
