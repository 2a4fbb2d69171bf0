use Rattle.std.proofs.Common.{arith, ◌≡◌, ℕ, ◌-◌, ◌+◌, List, [], length, ap, ◌∙◌, sym, subst}
use Rattle.std.proofs.lemmas.List.{nil_from_length}
use Rattle.pagespec.specs.Reading.{modifiers_at}
use Rattle.pagespec.specs.Parsed.{ModifiersRead}
use Rattle.pagespec.proofs.ModifierLoop.{reads_more, reads_all, step_none, no_fuel}
use Rattle.pagespec.proofs.ModifierStuck.{modifiers_stuck, nothing_stuck, modifier_bytes, ModifiersStuck}
use Rattle.pagespec.proofs.parsed.read_modifiers.Goals as goal

pub returns-in-Err-clause-read : goal.returns-in-Err-clause-read
returns-in-Err-clause-read c =
    reads_all (length c.args.bytes.now - c.loop.counter) c.args.bytes.now c.loop.rest.now c.loop.modifiers c.loop.invariant.0 (step_none _ _ c.in-Err.ensures.0)

pub returns-in-Err-clause-stuck : goal.returns-in-Err-clause-stuck
returns-in-Err-clause-stuck c =
    modifiers_stuck c.args.bytes.now c.loop.rest.now c.loop.modifiers _
    (reads_all (length c.args.bytes.now - c.loop.counter) c.args.bytes.now c.loop.rest.now c.loop.modifiers c.loop.invariant.0 (step_none _ _ c.in-Err.ensures.0)) c.in-Err.ensures

pub loop-preserved : goal.loop-preserved
loop-preserved c = (
  reads_more (length c.args.bytes.now - (c.loop.counter + 1)) (length c.args.bytes.now - c.loop.counter) c.args.bytes.now c.loop.rest.now c.in-Ok.after.now c.loop.modifiers c.and-modifiers.result c.in-Ok.modifier
      (omega arith) c.loop.invariant.0 c.in-Ok.ensures c.and-modifiers.ensures,
  omega (arith, c.loop.invariant.1, modifier_bytes _ _ _ c.in-Ok.ensures.1),
)

pub returns-clause-read : goal.returns-clause-read
returns-clause-read c =
    let done : length c.args.bytes.now - c.loop.counter ≡ 0 = omega arith in
    subst (λ (rest : List ℕ). ModifiersRead c.args.bytes.now c.loop.modifiers rest) (sym c.rest_at.ensures.text)
    (reads_all (length c.args.bytes.now - c.loop.counter) c.args.bytes.now c.loop.rest.now c.loop.modifiers c.loop.invariant.0 (ap (λ k. modifiers_at k c.loop.rest.now) done ∙ no_fuel c.loop.rest.now))

pub returns-clause-stuck : goal.returns-clause-stuck
returns-clause-stuck c =
    let done : length c.args.bytes.now - c.loop.counter ≡ 0 = omega arith in
    let empty : c.loop.rest.now ≡ [] = nil_from_length c.loop.rest.now (omega (arith, c.loop.invariant.1)) in
    let left : c.rest_at.result.stuck.left ≡ 0 = c.rest_at.ensures.left ∙ ap length empty in
    subst (λ (rest : List ℕ). ModifiersStuck c.args.bytes.now rest c.rest_at.result.stuck.left) (sym c.rest_at.ensures.text)
    (subst (λ (n : ℕ). ModifiersStuck c.args.bytes.now c.loop.rest.now n) (sym left)
    (modifiers_stuck c.args.bytes.now c.loop.rest.now c.loop.modifiers 0
    (reads_all (length c.args.bytes.now - c.loop.counter) c.args.bytes.now c.loop.rest.now c.loop.modifiers c.loop.invariant.0 (ap (λ k. modifiers_at k c.loop.rest.now) done ∙ no_fuel c.loop.rest.now))
    (nothing_stuck c.loop.rest.now empty)))
