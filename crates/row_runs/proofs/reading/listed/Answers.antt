use Rattle.std.proofs.Common.{arith, ◌<◌, List, length, subst, sym}
use Rattle.std.specs.Prelude.{sum_by}
use Rattle.rules.specs.Specification.{Item}
use Rattle.sheet_plan.proofs.Access.{few_in_block}
use Rattle.sheet_plan.proofs.Admitted.{bounded}
use Rattle.row_runs.proofs.reading.listed.Goals as goal

pub most_items-requires : goal.most_items-requires
most_items-requires c =
    let few = few_in_block c.args.spec.now (bounded c.args.spec.now c.groups.ensures.admissible) in
    subst (λ (gs : List (List Item)). sum_by length gs < 4_294_967_296) (sym c.groups.ensures.items) (omega (arith, few))
