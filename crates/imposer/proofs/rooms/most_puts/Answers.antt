use Rattle.std.proofs.Common.{◌+◌, ◌<◌, min, arith}
use Rattle.rules.specs.Sheets.{layout}
use Rattle.run_steps.specs.Duty.{is_place}
use Rattle.imposer.proofs.OwnPages.{none_before, own_first, own_next, most_next, most_of_all}
use Rattle.imposer.proofs.rooms.most_puts.Goals as goal

pub loop-page-init : goal.loop-page-init
loop-page-init c =
    let plan = c.args.plan.now in
    let none = none_before is_place (layout plan) c.args.count c.args.number (min c.args.number plan.pages) (omega (arith, c.requires.number)) (omega arith) in
    record { value = omega (arith, none); own = own_first c.args.count c.args.number c.requires.number }

pub loop-page-preserved : goal.loop-page-preserved
loop-page-preserved c =
    let some : 0 < c.args.count = omega (arith, c.requires.number) in
    record {
      value = most_next (layout c.args.plan.now) c.args.count c.args.number c.loop-page.page c.args.plan.now.pages c.loop-page.puts c.with_puts_of-puts.result _
          some c.loop-page.invariant.own (omega arith) c.loop-page.invariant.value c.with_puts_of-puts.ensures;
      own = own_next c.args.count c.args.number c.loop-page.page some c.loop-page.invariant.own;
    }

pub returns : goal.returns
returns c = most_of_all c.args.plan.now c.args.count c.args.number c.loop-page.page c.loop-page.puts (omega arith) c.loop-page.invariant.value

pub returns-2 : goal.returns-2
returns-2 c =
    most_of_all c.args.plan.now c.args.count c.args.number (c.loop-page.page + c.args.count) c.with_puts_of-puts.result (omega arith)
    (most_next (layout c.args.plan.now) c.args.count c.args.number c.loop-page.page c.args.plan.now.pages c.loop-page.puts c.with_puts_of-puts.result _
    (omega (arith, c.requires.number)) c.loop-page.invariant.own (omega arith) c.loop-page.invariant.value c.with_puts_of-puts.ensures)
