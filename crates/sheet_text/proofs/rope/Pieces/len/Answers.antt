use Rattle.std.proofs.Common.{arith, sym, ap, length, ◌∙◌, drop}
use Rattle.sheet_text.proofs.Ropes.{length_woven, counted_on, not_counted, no_bytes_behind}
use Rattle.sheet_text.proofs.rope.Pieces.len.Goals as goal

pub loop-nth-init : goal.loop-nth-init
loop-nth-init c = sym (length_woven c.self.inside.from c.self.inside.own.now (drop c.self.inside.next c.self.inside.slices.now)) ∙ ap (λ x. length x) c.self.view_is

pub returns-in_err-count-clause-uncounted : goal.returns-in_err-count-clause-uncounted
returns-in_err-count-clause-uncounted c none =
    not_counted c.loop-nth.nth c.self.inside.slices.now _ c.loop-nth.count c.loop-nth-test.true c.in_err-count.ensures c.loop-nth.invariant

pub loop-nth-preserved : goal.loop-nth-preserved
loop-nth-preserved c = counted_on c.loop-nth.nth c.self.inside.slices.now _ c.loop-nth.count c.loop-nth-test.true (sym c.in_ok-count.ensures.1) c.loop-nth.invariant

pub returns-clause-counted : goal.returns-clause-counted
returns-clause-counted c = let none = no_bytes_behind c.loop-nth.nth c.self.inside.slices.now c.loop-nth-test.false in omega (arith, none, c.loop-nth.invariant)
