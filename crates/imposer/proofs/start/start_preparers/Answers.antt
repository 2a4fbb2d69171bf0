use Rattle.std.proofs.Common.{rules, arith, vec_items}
use Rattle.imposer.specs.HandlePromises.{IsPreparer}
use Rattle.imposer.proofs.Pushed.{pushed}
use Rattle.imposer.proofs.start.start_preparers.Goals as goal

pub loop-number-preserved : goal.loop-number-preserved
loop-number-preserved g c =
    let was = c.loop-number.invariant in record {
      len = search rules;
      room = search rules;
      each = pushed
          (λ k h. IsPreparer c.args.shared.now c.args.counts.preparers k h.promise)
          (vec_items c.loop-number.handles) c.in_ok-handle.handle (vec_items c.push_reserved.new.self) c.loop-number.number
          c.push_reserved.ensures.items (search rules) was.each (search rules);
      held = c.split_preparer-theirs.ensures.held;
      enough = c.split_preparer-theirs.ensures.enough;
      share = (let e = c.split_preparer-theirs.ensures.share in let f = was.share in omega arith);
      gathered = λ first n had. c.split_preparer-theirs.ensures.gathered first n (was.gathered first n had);
    }
