use Rattle.std.proofs.Common.{◌≡◌, false, take}
use Rattle.std.specs.List.{list_any}
use Rattle.rules.specs.Parts.{pages}
use Rattle.impose_cli.specs.Fonts.{shows_at_once}
use Rattle.impose_cli.proofs.fonts.is_any_showing.Given as goal

abbrev pub invariant-loop-page : goal.invariant-loop-page
invariant-loop-page l = list_any shows_at_once (take l.page (pages l.document)) ≡ false
