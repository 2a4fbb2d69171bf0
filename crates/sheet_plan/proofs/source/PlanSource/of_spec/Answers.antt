use Rattle.std.proofs.Common.{arith, ◌*◌, length, ap, ◌∙◌}
use Rattle.std.proofs.lemmas.Nat.{mul-le}
use Rattle.rules.specs.Admissible.{most_groups, most_slots}
use Rattle.sheet_plan.proofs.Admitted.{filled}
use Rattle.sheet_plan.proofs.Limits.{counted, accepted_fields, accepted, too_many_sheets, too_many_places}
use Rattle.sheet_plan.proofs.source.PlanSource.of_spec.Goals as goal

pub overflow_mul-from : goal.overflow_mul-from
overflow_mul-from c =
    let k = counted c.args.row.sides c.args.spec.now c.args.row.pages c.len-entries.result c.modulo-modulo.result c.div_ceil-blocks.result c.groups-groups.result.now c.len-entries.ensures c.modulo-modulo.ensures.value c.groups-groups.ensures.items c.groups-groups.ensures.admissible c.div_ceil-blocks.ensures in
    let few = k.few_groups in
    let blocks = k.few_blocks in
    let most = mul-le c.from.result (length c.groups-groups.result.now) 1_000_000 most_groups (omega arith) (omega arith) in
    omega arith

pub returns-then-from-groups-gt-MOST_SHEETS-clause-refused : goal.returns-then-from-groups-gt-MOST_SHEETS-clause-refused
returns-then-from-groups-gt-MOST_SHEETS-clause-refused c =
    let k = counted c.args.row.sides c.args.spec.now c.args.row.pages c.len-entries.result c.modulo-modulo.result c.div_ceil-blocks.result c.groups-groups.result.now c.len-entries.ensures c.modulo-modulo.ensures.value c.groups-groups.ensures.items c.groups-groups.ensures.admissible c.div_ceil-blocks.ensures in
    too_many_sheets c.args.row.sides c.args.spec.now c.args.row.pages (omega arith) (let s = k.sheet_total in omega (arith, ap (λ b. b * length c.groups-groups.result.now) c.from.ensures))

pub slots_in_block-requires : goal.slots_in_block-requires
slots_in_block-requires c =
    let k = counted c.args.row.sides c.args.spec.now c.args.row.pages c.len-entries.result c.modulo-modulo.result c.div_ceil-blocks.result c.groups-groups.result.now c.len-entries.ensures c.modulo-modulo.ensures.value c.groups-groups.ensures.items c.groups-groups.ensures.admissible c.div_ceil-blocks.ensures in
    let few = k.few_slots in
    omega arith

pub overflow_mul-from-2 : goal.overflow_mul-from-2
overflow_mul-from-2 c =
    let k = counted c.args.row.sides c.args.spec.now c.args.row.pages c.len-entries.result c.modulo-modulo.result c.div_ceil-blocks.result c.groups-groups.result.now c.len-entries.ensures c.modulo-modulo.ensures.value c.groups-groups.ensures.items c.groups-groups.ensures.admissible c.div_ceil-blocks.ensures in
    let few = k.few_slots in
    let blocks = k.few_blocks in
    let most = mul-le c.from-2.result c.slots_in_block.result 1_000_000 (most_groups * most_slots) (omega arith) (omega arith) in
    omega arith

pub returns-then-from-slots_in_block-gt-MOST_PLACES-clause-refused : goal.returns-then-from-slots_in_block-gt-MOST_PLACES-clause-refused
returns-then-from-slots_in_block-gt-MOST_PLACES-clause-refused c =
    let k = counted c.args.row.sides c.args.spec.now c.args.row.pages c.len-entries.result c.modulo-modulo.result c.div_ceil-blocks.result c.groups-groups.result.now c.len-entries.ensures c.modulo-modulo.ensures.value c.groups-groups.ensures.items c.groups-groups.ensures.admissible c.div_ceil-blocks.ensures in
    let s = k.sheet_total in
    let p = ap (λ b. b * c.slots_in_block.result) c.from-2.ensures ∙ ap (λ w. c.div_ceil-blocks.result * w) c.slots_in_block.ensures ∙ k.place_total in
    too_many_places c.args.row.sides c.args.spec.now c.args.row.pages (omega arith) (omega (arith, ap (λ b. b * length c.groups-groups.result.now) c.from.ensures)) (omega arith)

pub returns-clause-plannable : goal.returns-clause-plannable
returns-clause-plannable c =
    let k = counted c.args.row.sides c.args.spec.now c.args.row.pages c.len-entries.result c.modulo-modulo.result c.div_ceil-blocks.result c.groups-groups.result.now c.len-entries.ensures c.modulo-modulo.ensures.value c.groups-groups.ensures.items c.groups-groups.ensures.admissible c.div_ceil-blocks.ensures in
    let s = k.sheet_total in
    let p = ap (λ b. b * c.slots_in_block.result) c.from-2.ensures ∙ ap (λ w. c.div_ceil-blocks.result * w) c.slots_in_block.ensures ∙ k.place_total in
    (accepted_fields c.args.row.sides c.args.spec.now c.args.row.pages c.modulo-modulo.result c.groups-groups.result.now c.requires k.same c.groups-groups.ensures.admissible (filled c.args.spec.now c.groups-groups.ensures.admissible) (omega arith) (omega (arith, ap (λ b. b * length c.groups-groups.result.now) c.from.ensures)) (omega arith), k.ceil)

pub returns-clause-accepted : goal.returns-clause-accepted
returns-clause-accepted c =
    let k = counted c.args.row.sides c.args.spec.now c.args.row.pages c.len-entries.result c.modulo-modulo.result c.div_ceil-blocks.result c.groups-groups.result.now c.len-entries.ensures c.modulo-modulo.ensures.value c.groups-groups.ensures.items c.groups-groups.ensures.admissible c.div_ceil-blocks.ensures in
    let s = k.sheet_total in
    let p = ap (λ b. b * c.slots_in_block.result) c.from-2.ensures ∙ ap (λ w. c.div_ceil-blocks.result * w) c.slots_in_block.ensures ∙ k.place_total in
    accepted c.args.row.sides c.args.spec.now c.args.row.pages (omega arith) (omega (arith, ap (λ b. b * length c.groups-groups.result.now) c.from.ensures)) (omega arith)
