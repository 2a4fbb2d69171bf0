use Rattle.std.proofs.Common.{rules, arith, ◌≡◌, suc, ◌+◌, ◌-◌, subst, IfOk}
use Rattle.std.specs.Vec.Iter.{into_iter_len}
use Rattle.imposer.proofs.Given.{mapped, mapped_ok}
use Rattle.imposer.proofs.join.join_imposers.Goals as goal

pub merge-all-requires-clause-theirs : goal.merge-all-requires-clause-theirs
merge-all-requires-clause-theirs g c =
    let was = c.loop-handle.invariant in let step = c.in-Some.ensures.steps in
    let first = was.1 0 c.in-Some.handle in
    let shared : c.in-Some.handle.promise.shared.now ≡ c.args.shared.now = grind rules in
    mapped_ok _ _ c.join-theirs.result c.join-theirs.ensures (λ h p. subst (λ w. g.W.Work.is_back w h) shared p.0)

pub loop-handle-init : goal.loop-handle-init
loop-handle-init g c =
    let none : c.args.count - into_iter_len c.into_iter-handle-iterator.result ≡ 0 = search rules in (
      search rules,
      search rules,
      search rules,
      (λ n is. mapped _ _ c.args.prepared is (λ h e. omega (arith, e, none))),
      (λ begin n k had. had),
    )

pub loop-handle-preserved : goal.loop-handle-preserved
loop-handle-preserved g c =
    let was = c.loop-handle.invariant in let step = c.in-Some.ensures.steps in
    let left = into_iter_len c.loop-handle.handle-iterator in let left' = into_iter_len c.next.new.self in
    let less : left ≡ suc left' = search rules in
    let joined = c.args.count - left in
    let grown : joined + 1 ≡ c.args.count - left' = omega (arith, was.0) in
    let first = was.1 0 c.in-Some.handle in
    let shared : c.in-Some.handle.promise.shared.now ≡ c.args.shared.now = grind rules in
    let did : IfOk c.join-theirs.result (g.W.Work.has_imposed c.args.shared.now) =
    mapped_ok _ _ c.join-theirs.result c.join-theirs.ensures (λ h p. subst (λ w. g.W.Work.has_imposed w h) shared p.1) in (
      omega arith,
      (λ k d below. let h = was.1 (k + 1) d in grind rules),
      c.merge-all.ensures.held,
      (λ n is. mapped _ _ c.merge-all.result (c.merge-all.ensures.share _ (was.3 n is)) (λ h e. omega (arith, e, grown))),
      (λ begin n k had. c.merge-all.ensures.imposed begin n k (was.4 begin n k had) did),
    )

pub returns-clause-share : goal.returns-clause-share
returns-clause-share g c = λ n is.
    let was = c.loop-handle.invariant in
    let none : into_iter_len c.loop-handle.handle-iterator ≡ 0 = search rules in
    mapped _ _ c.loop-handle.all (was.3 n is) (λ h e. omega (arith, e, none))
