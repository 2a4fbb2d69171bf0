use Rattle.std.proofs.Common.{rules, arith, ◌≡◌, vec_items}
use Rattle.imposer.proofs.Pushed.{pushed}
use Rattle.imposer.proofs.start.start_imposers.Goals as goal

pub loop-preserved : goal.loop-preserved
loop-preserved g c =
    let was = c.loop.invariant in record {
      len = search rules;
      room = search rules;
      ticket = c.another-sending.ensures.kept;
      each = pushed
          (λ k h. h.promise.shared.now ≡ c.args.shared.now)
          (vec_items c.loop.handles) c.in_ok-handle.handle (vec_items c.push_reserved.new.self) c.loop.counter
          c.push_reserved.ensures.items (search rules) was.each (search rules);
      held = c.split-theirs.ensures.held;
      share = (let e = c.split-theirs.ensures.share in let f = was.share in omega arith);
      gathered = λ first n had. c.split-theirs.ensures.gathered first n (was.gathered first n had);
    }
