use Rattle.std.proofs.Common.{arith, ap, sym, ◌∙◌}
use Rattle.std.specs.Prelude.{slice_get}
use Rattle.sheet_plan.proofs.Stored.{added_there, begins_added, begins_same, begins_self}
use Rattle.sheet_plan.proofs.made.keep_placing.Goals as goal

pub returns-in-Some-clause-begins : goal.returns-in-Some-clause-begins
returns-in-Some-clause-begins c = begins_self c.args.placings.now.items

pub returns-in-Some-clause-there : goal.returns-in-Some-clause-there
returns-in-Some-clause-there c = ap (λ ps. slice_get ps c.in-Some.place) (sym c.as_slice.ensures.value) ∙ c.in-Some.ensures.found

pub returns-in_err-place-clause-begins : goal.returns-in_err-place-clause-begins
returns-in_err-place-clause-begins c = begins_self c.args.placings.now.items

pub returns-in_err-push-clause-begins : goal.returns-in_err-push-clause-begins
returns-in_err-push-clause-begins c = begins_same _ _ c.in_err-push.ensures.items

pub returns-clause-begins : goal.returns-clause-begins
returns-clause-begins c = begins_added _ _ _ c.in_ok-push.ensures.items

pub returns-clause-there : goal.returns-clause-there
returns-clause-there c = added_there _ _ c.in_ok-place.place _ c.in_ok-push.ensures.items (omega (arith, c.in_ok-place.ensures, c.len.ensures))
