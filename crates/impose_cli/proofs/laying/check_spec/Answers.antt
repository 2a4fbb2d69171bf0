use Rattle.std.proofs.Common.{subst, sym}
use Rattle.std.specs.Prelude.{string_bytes}
use Rattle.rules.specs.Admissible.{Takes, most_slots}
use Rattle.impose_cli.specs.Refusals.{HasGoodName}
use Rattle.impose_cli.proofs.laying.check_spec.Goals as goal

pub returns-in_ok-spec_named-in-Spec-clause-possible : goal.returns-in_ok-spec_named-in-Spec-clause-possible
returns-in_ok-spec_named-in-Spec-clause-possible c =
    let takes : Takes most_slots (string_bytes c.in-Spec.specs) c.in_ok-spec_named-in-Spec.field-0 =
    rw c.as_str.ensures.value at c.in_ok-spec_named-in-Spec.ensures.taken in
    subst HasGoodName (sym c.in-Spec.is) (c.in_ok-spec_named-in-Spec.field-0, takes)
