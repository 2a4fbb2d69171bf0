use Rattle.std.proofs.Common.{◌≡◌, drop}
use Rattle.std.specs.List.{list_any}
use Rattle.rules.specs.MadePlans.{lacks_page}
use Rattle.sheet_plan.specs.OfSheets.{slots_at}
use Rattle.sheet_plan.proofs.made_expansion.is_page_missing.Given as goal

abbrev pub invariant-loop-slot : goal.invariant-loop-slot
invariant-loop-slot l = list_any (lacks_page l.pages) (slots_at l.made l.sheet) ≡ list_any (lacks_page l.pages) (drop l.slot (slots_at l.made l.sheet))
