use Rattle.std.proofs.Common.{rules, arith, ◌≡◌, suc, ◌+◌, ◌-◌, subst, IfSome, IfOk}
use Rattle.std.specs.Vec.Iter.{into_iter_len}
use Rattle.imposer.proofs.Given.{mapped, mapped_ok}
use Rattle.imposer.proofs.join.join_preparers.Goals as goal

pub merge-all-requires-clause-theirs : goal.merge-all-requires-clause-theirs
merge-all-requires-clause-theirs g c =
    let was = c.loop-handle.invariant in let step = c.in-Some.ensures.steps in
    let first = was.1 0 c.in-Some.handle in
    let shared : c.in-Some.handle.promise.shared.now ≡ c.args.shared.now = grind rules in
    mapped_ok _ _ c.join-theirs.result c.join-theirs.ensures (λ h p. subst (λ w. g.W.Work.is_back w h) shared p.0)

pub loop-handle-preserved : goal.loop-handle-preserved
loop-handle-preserved g c =
    let was = c.loop-handle.invariant in let step = c.in-Some.ensures.steps in
    let left = into_iter_len c.loop-handle.handle-iterator in let left' = into_iter_len c.next.new.self in
    let less : left ≡ suc left' = search rules in
    let joined = c.args.count - left in
    let grown : joined + 1 ≡ c.args.count - left' = omega (arith, was.0) in
    let first = was.1 0 c.in-Some.handle in
    let number : c.in-Some.handle.promise.number ≡ joined = grind rules in
    let count : c.in-Some.handle.promise.count ≡ c.args.count = grind rules in
    let shared : c.in-Some.handle.promise.shared.now ≡ c.args.shared.now = grind rules in
    let did : IfOk c.join-theirs.result (g.W.Work.has_prepared c.args.shared.now c.args.count joined) =
    mapped_ok _ _ c.join-theirs.result c.join-theirs.ensures (λ h p.
    subst (λ w. g.W.Work.has_prepared w c.args.count joined h) shared
    (subst (λ n. g.W.Work.has_prepared c.in-Some.handle.promise.shared.now n joined h) count
    (subst (λ n. g.W.Work.has_prepared c.in-Some.handle.promise.shared.now c.in-Some.handle.promise.count n h) number p.1))) in (
      omega arith,
      (λ k d below. let h = was.1 (k + 1) d in grind rules),
      c.merge-all.ensures.held,
      mapped _ _ c.merge-all.result (c.merge-all.ensures.share _ was.3) (λ h is. let e = is in omega (arith, grown)),
      (λ begin had. subst (λ n. IfSome c.merge-all.result (g.W.Work.has_gathered c.args.shared.now begin c.args.count n)) grown
          (c.merge-all.ensures.prepared begin c.args.count joined (was.4 begin had) did)),
    )

pub returns-clause-share : goal.returns-clause-share
returns-clause-share g c =
    let was = c.loop-handle.invariant in
    let none : into_iter_len c.loop-handle.handle-iterator ≡ 0 = search rules in
    mapped _ _ c.loop-handle.all was.3 (λ h is. let e = is in omega (arith, none))

pub returns-clause-gathered : goal.returns-clause-gathered
returns-clause-gathered g c = λ begin had.
    let was = c.loop-handle.invariant in
    let none : into_iter_len c.loop-handle.handle-iterator ≡ 0 = search rules in
    let full : c.args.count - into_iter_len c.loop-handle.handle-iterator ≡ c.args.count = omega (arith, none) in
    subst (λ n. IfSome c.loop-handle.all (g.W.Work.has_gathered c.args.shared.now begin c.args.count n)) full (was.4 begin had)
