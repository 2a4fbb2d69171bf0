use Rattle.std.proofs.Common.{◌≡◌, ◌∙◌, sym, None, Some, rules}
use Rattle.sheet_plan.specs.OfSheets.{slots_at}
use Rattle.impose_cli.specs.Lying.{lying}
use Rattle.impose_cli.proofs.FirstFound.{found_at, none_more}
use Rattle.impose_cli.proofs.lying.lying_on.Goals as goal

pub returns-in-Some : goal.returns-in-Some
returns-in-Some c =
    let slots = slots_at c.args.sheets.now c.args.sheet in
    let found : c.lying.result ≡ Some c.in-Some.found = search rules in
    sym (found_at (lying c.args.wholly c.args.paper.now) slots c.loop-slot.slot _ c.in-Some.found c.placed.ensures c.loop-slot.invariant (sym c.lying.ensures ∙ found))

pub loop-slot-preserved : goal.loop-slot-preserved
loop-slot-preserved c =
    let slots = slots_at c.args.sheets.now c.args.sheet in
    let none : c.lying.result ≡ None = search rules in
    none_more (lying c.args.wholly c.args.paper.now) slots c.loop-slot.slot _ c.placed.ensures c.loop-slot.invariant (sym c.lying.ensures ∙ none)
