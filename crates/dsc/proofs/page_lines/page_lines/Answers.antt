use Rattle.std.proofs.Common.{rules, arith, ◌≡◌, ◌+◌, ◌<◌, ◌∙◌, length, ap, refl, sym, true, false}
use Rattle.dsc.specs.Views.{unit_of}
use Rattle.dsc.proofs.CountingPages.{all_counted, count_on, count_more, fault_counted}
use Rattle.dsc.proofs.Walking.{less_left}
use Rattle.dsc.proofs.page_lines.page_lines.Goals as goal

pub loop-walk-init : goal.loop-walk-init
loop-walk-init c = record { few = omega arith; so_far = ap (λ p. count_on 0 p.depth p.at p.rest) c.new-walk.ensures }

pub step-requires : goal.step-requires
step-requires c = c.is_done.ensures.going c.loop-walk-test.true

pub returns-in-Err : goal.returns-in-Err
returns-in-Err c =
    let p = c.loop-walk.walk in
    let some : 0 < length p.rest = c.is_done.ensures.going c.loop-walk-test.true in
    fault_counted c.args.text.now p.rest c.loop-walk.count p.depth p.at _ some c.in-Err.ensures.fault c.loop-walk.invariant.so_far

pub loop-walk-preserved-then-step : goal.loop-walk-preserved-then-step
loop-walk-preserved-then-step c =
    let p = c.loop-walk.walk in
    let u = unit_of c.in-Ok.step.unit in
    let step = c.in-Ok.ensures in
    let some : 0 < length p.rest = c.is_done.ensures.going c.loop-walk-test.true in
    let page : c.in-Ok.step.meaning.is_page ≡ true = search rules in
    let at : c.step.new.self.at ≡ p.at + length u.bytes = ap (λ q. q.at) step.place in
    let few = c.loop-walk.invariant.few in
    let fill = step.piece.some in
    record {
      few = omega (arith, at, few, fill);
      so_far = count_more c.loop-walk.count _ p c.step.new.self u true _ some step.piece step.place (sym page ∙ step.page) refl c.loop-walk.invariant.so_far;
    }

pub loop-walk-preserved : goal.loop-walk-preserved
loop-walk-preserved c =
    let p = c.loop-walk.walk in
    let u = unit_of c.in-Ok.step.unit in
    let step = c.in-Ok.ensures in
    let some : 0 < length p.rest = c.is_done.ensures.going c.loop-walk-test.true in
    let page : c.in-Ok.step.meaning.is_page ≡ false = search rules in
    let at : c.step.new.self.at ≡ p.at + length u.bytes = ap (λ q. q.at) step.place in
    let few = c.loop-walk.invariant.few in
    record {
      few = omega (arith, at, few);
      so_far = count_more c.loop-walk.count _ p c.step.new.self u false _ some step.piece step.place (sym page ∙ step.page) refl c.loop-walk.invariant.so_far;
    }

pub returns : goal.returns
returns c =
    let none : length c.loop-walk.walk.rest ≡ 0 = search rules in
    all_counted c.args.text.now c.loop-walk.walk.rest c.loop-walk.count c.loop-walk.walk.depth c.loop-walk.walk.at none c.loop-walk.invariant.so_far

pub loop-walk-smaller-then-step : goal.loop-walk-smaller-then-step
loop-walk-smaller-then-step c =
    less_left c.loop-walk.walk c.step.new.self (unit_of c.in-Ok.step.unit) c.in-Ok.ensures.place (c.is_done.ensures.going c.loop-walk-test.true) c.in-Ok.ensures.piece.some

pub loop-walk-smaller : goal.loop-walk-smaller
loop-walk-smaller c =
    less_left c.loop-walk.walk c.step.new.self (unit_of c.in-Ok.step.unit) c.in-Ok.ensures.place (c.is_done.ensures.going c.loop-walk-test.true) c.in-Ok.ensures.piece.some
