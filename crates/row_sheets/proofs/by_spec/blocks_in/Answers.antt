use Rattle.std.proofs.Common.{arith, ◌*◌, length, ap, ◌∙◌}
use Rattle.std.proofs.lemmas.Nat.{mul-le}
use Rattle.row_sheets.proofs.BlockByBlock.{counted, few_blocks}
use Rattle.row_sheets.proofs.NoPlan.{many_places, many_sheets}
use Rattle.row_sheets.proofs.by_spec.blocks_in.Goals as goal

pub returns-then-blocks-groups-gt-MOST_SHEETS-clause-refused : goal.returns-then-blocks-groups-gt-MOST_SHEETS-clause-refused
returns-then-blocks-groups-gt-MOST_SHEETS-clause-refused c =
    let on = c.args.on.now in
    let k = counted on.spec.now on.sheet on.page on.row.now c.modulo.result c.div_ceil-blocks.result c.groups-groups.result.now c.modulo.ensures.admissible c.modulo.ensures.value c.groups-groups.ensures.items c.div_ceil-blocks.ensures in
    many_sheets on.spec.now on.sheet on.page on.row.now (omega (arith, k.sheet_total, c.if-blocks-groups-gt-MOST_SHEETS.true))

pub slots_per_block-requires : goal.slots_per_block-requires
slots_per_block-requires c =
    let on = c.args.on.now in
    let k = counted on.spec.now on.sheet on.page on.row.now c.modulo.result c.div_ceil-blocks.result c.groups-groups.result.now c.modulo.ensures.admissible c.modulo.ensures.value c.groups-groups.ensures.items c.div_ceil-blocks.ensures in
    omega (arith, k.few_slots)

pub overflow_mul-blocks-2 : goal.overflow_mul-blocks-2
overflow_mul-blocks-2 c =
    let on = c.args.on.now in
    let k = counted on.spec.now on.sheet on.page on.row.now c.modulo.result c.div_ceil-blocks.result c.groups-groups.result.now c.modulo.ensures.admissible c.modulo.ensures.value c.groups-groups.ensures.items c.div_ceil-blocks.ensures in
    let few = few_blocks c.div_ceil-blocks.result (length c.groups-groups.result.now) 1_000_000 k.some_groups (omega (arith, c.if-blocks-groups-gt-MOST_SHEETS.false)) in
    let most = mul-le c.div_ceil-blocks.result c.slots_per_block.result 1_000_000 40_960_000 few (omega (arith, k.few_slots, c.slots_per_block.ensures)) in
    omega (arith, most)

pub returns-then-blocks-slots_per_block-gt-MOST_PLACES-clause-refused : goal.returns-then-blocks-slots_per_block-gt-MOST_PLACES-clause-refused
returns-then-blocks-slots_per_block-gt-MOST_PLACES-clause-refused c =
    let on = c.args.on.now in
    let k = counted on.spec.now on.sheet on.page on.row.now c.modulo.result c.div_ceil-blocks.result c.groups-groups.result.now c.modulo.ensures.admissible c.modulo.ensures.value c.groups-groups.ensures.items c.div_ceil-blocks.ensures in
    let total = ap (λ n. c.div_ceil-blocks.result * n) c.slots_per_block.ensures ∙ k.slot_total in
    many_places on.spec.now on.sheet on.page on.row.now c.modulo.ensures.admissible
    (omega (arith, k.sheet_total, c.if-blocks-groups-gt-MOST_SHEETS.false)) (omega (arith, total, c.if-blocks-slots_per_block-gt-MOST_PLACES.true))

pub overflow_cast-result : goal.overflow_cast-result
overflow_cast-result c =
    let on = c.args.on.now in
    let k = counted on.spec.now on.sheet on.page on.row.now c.modulo.result c.div_ceil-blocks.result c.groups-groups.result.now c.modulo.ensures.admissible c.modulo.ensures.value c.groups-groups.ensures.items c.div_ceil-blocks.ensures in
    let few = few_blocks c.div_ceil-blocks.result (length c.groups-groups.result.now) 1_000_000 k.some_groups (omega (arith, c.if-blocks-groups-gt-MOST_SHEETS.false)) in
    omega (arith, few)

pub returns-clause-value : goal.returns-clause-value
returns-clause-value c =
    let on = c.args.on.now in
    let k = counted on.spec.now on.sheet on.page on.row.now c.modulo.result c.div_ceil-blocks.result c.groups-groups.result.now c.modulo.ensures.admissible c.modulo.ensures.value c.groups-groups.ensures.items c.div_ceil-blocks.ensures in
    k.blocks_are

pub returns-clause-few : goal.returns-clause-few
returns-clause-few c =
    let on = c.args.on.now in
    let k = counted on.spec.now on.sheet on.page on.row.now c.modulo.result c.div_ceil-blocks.result c.groups-groups.result.now c.modulo.ensures.admissible c.modulo.ensures.value c.groups-groups.ensures.items c.div_ceil-blocks.ensures in
    few_blocks c.div_ceil-blocks.result (length c.groups-groups.result.now) 1_000_000 k.some_groups (omega (arith, c.if-blocks-groups-gt-MOST_SHEETS.false))

pub returns-clause-kept : goal.returns-clause-kept
returns-clause-kept c =
    let on = c.args.on.now in
    let k = counted on.spec.now on.sheet on.page on.row.now c.modulo.result c.div_ceil-blocks.result c.groups-groups.result.now c.modulo.ensures.admissible c.modulo.ensures.value c.groups-groups.ensures.items c.div_ceil-blocks.ensures in
    let total = ap (λ n. c.div_ceil-blocks.result * n) c.slots_per_block.ensures ∙ k.slot_total in (
      omega (arith, k.sheet_total, c.if-blocks-groups-gt-MOST_SHEETS.false),
      omega (arith, total, c.if-blocks-slots_per_block-gt-MOST_PLACES.false),
    )
