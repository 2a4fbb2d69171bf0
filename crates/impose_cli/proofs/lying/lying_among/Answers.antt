use Rattle.std.proofs.Common.{◌≡◌, ◌∙◌, arith, sym, None, Some, rules}
use Rattle.impose_cli.specs.Lying.{lying_on}
use Rattle.impose_cli.proofs.FirstFound.{found_at, none_more, sheet_is, there}
use Rattle.impose_cli.proofs.lying.lying_among.Goals as goal

pub returns-in-Some : goal.returns-in-Some
returns-in-Some c =
    let all = c.args.sheets.now in
    let here = there all c.loop-sheet.sheet (omega arith) in
    let found : c.lying_on.result ≡ Some c.in-Some.found = search rules in
    sym (found_at (lying_on c.args.wholly) all c.loop-sheet.sheet here.0 c.in-Some.found here.1 c.loop-sheet.invariant
    (sym (sheet_is c.args.wholly all c.loop-sheet.sheet here.0 _ here.1 c.paper-paper.ensures) ∙ sym c.lying_on.ensures ∙ found))

pub loop-sheet-preserved : goal.loop-sheet-preserved
loop-sheet-preserved c =
    let all = c.args.sheets.now in
    let here = there all c.loop-sheet.sheet (omega arith) in
    let none : c.lying_on.result ≡ None = search rules in
    none_more (lying_on c.args.wholly) all c.loop-sheet.sheet here.0 here.1 c.loop-sheet.invariant
    (sym (sheet_is c.args.wholly all c.loop-sheet.sheet here.0 _ here.1 c.paper-paper.ensures) ∙ sym c.lying_on.ensures ∙ none)
