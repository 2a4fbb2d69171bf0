use Rattle.std.proofs.Common.{refl}
use Rattle.dsc.proofs.FoundBodies.{body_start_at, not_0}
use Rattle.dsc.proofs.document.Document.body_start.Goals as goal

pub bounds-bodies-p : goal.bounds-bodies-p
bounds-bodies-p c =
    (body_start_at c.self.inside.text.now _ _ c.as_slice-bodies.result.now c.as_slice-starts.result.now _ c.args.p _ _ _ c.self.invariant c.self.view_is c.requires
    c.as_slice-bodies.ensures.value c.as_slice-starts.ensures.value refl refl).0

pub bounds-starts-p : goal.bounds-starts-p
bounds-starts-p c =
    (body_start_at c.self.inside.text.now _ _ c.as_slice-bodies.result.now c.as_slice-starts.result.now _ c.args.p _ _ _ c.self.invariant c.self.view_is c.requires
    c.as_slice-bodies.ensures.value c.as_slice-starts.ensures.value refl refl).1

pub overflow_sub-result : goal.overflow_sub-result
overflow_sub-result c =
    ((body_start_at c.self.inside.text.now _ _ c.as_slice-bodies.result.now c.as_slice-starts.result.now _ c.args.p _ _ _ c.self.invariant c.self.view_is c.requires
    c.as_slice-bodies.ensures.value c.as_slice-starts.ensures.value refl refl).2 (not_0 _ c.if-start-eq0.false)).0

pub returns-clause-within : goal.returns-clause-within
returns-clause-within c =
    ((body_start_at c.self.inside.text.now _ _ c.as_slice-bodies.result.now c.as_slice-starts.result.now _ c.args.p _ _ _ c.self.invariant c.self.view_is c.requires
    c.as_slice-bodies.ensures.value c.as_slice-starts.ensures.value refl refl).2 (not_0 _ c.if-start-eq0.false)).1

pub returns-clause-body : goal.returns-clause-body
returns-clause-body c =
    ((body_start_at c.self.inside.text.now _ _ c.as_slice-bodies.result.now c.as_slice-starts.result.now _ c.args.p _ _ _ c.self.invariant c.self.view_is c.requires
    c.as_slice-bodies.ensures.value c.as_slice-starts.ensures.value refl refl).2 (not_0 _ c.if-start-eq0.false)).2
