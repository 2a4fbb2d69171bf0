use Rattle.std.proofs.Common.{ap, ◌∙◌, ◌+◌, ◌-◌, ◌*◌, nat_lt, if◌then◌else◌, ℕ}
use Rattle.rules.specs.Sheets.{layout}
use Rattle.gather_table.proofs.Blanks.{blanks_left}
use Rattle.gather_table.proofs.words.blank_bits.Goals as goal

pub overflow_sub-result : goal.overflow_sub-result
overflow_sub-result c =
    let size = c.group_size.ensures ∙ ap (λ (n : ℕ). if nat_lt (64 * c.args.group + 64) n then 64 else n - 64 * c.args.group) c.slots.ensures.value in
    (blanks_left (layout c.args.plan.now) c.args.sheet c.args.group c.missing_at_start.result c.full_bits.result c.group_size.result c.missing_at_start.type_inv size c.full_bits.ensures c.missing_at_start.ensures.bits).0

pub returns : goal.returns
returns c =
    let size = c.group_size.ensures ∙ ap (λ (n : ℕ). if nat_lt (64 * c.args.group + 64) n then 64 else n - 64 * c.args.group) c.slots.ensures.value in
    (blanks_left (layout c.args.plan.now) c.args.sheet c.args.group c.missing_at_start.result c.full_bits.result c.group_size.result c.missing_at_start.type_inv size c.full_bits.ensures c.missing_at_start.ensures.bits).1
