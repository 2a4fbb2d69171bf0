use Rattle.std.proofs.Common.{arith, refl, sym, ap, ◌∙◌, subst, ◌+◌, ◌-◌, ◌*◌, nat_lt, if◌then◌else◌, ℕ}
use mir.Val.{bool_byte}
use Rattle.rules.specs.Sheets.{layout}
use Rattle.gather_table.specs.Plain.{AreBlanks}
use Rattle.gather_table.proofs.Stored.{group_more, blank_group_more}
use Rattle.gather_table.proofs.plain.mark_blanks.Goals as goal

pub loop-group-preserved : goal.loop-group-preserved
loop-group-preserved c =
    let group = c.loop-group.group in
    let size = c.group_size.ensures ∙ ap (λ (n : ℕ). if nat_lt (64 * group + 64) n then 64 else n - 64 * group) c.slots-slots.ensures.value in
    let few = c.slots-slots.ensures.few in
    let count = c.group_count-group-end.ensures in
    let test = c.loop-group-test.true in (
      subst (AreBlanks (layout c.args.plan.now) c.args.sheet (group + 1)) (sym c.in_ok-push.ensures.items)
          (group_more (layout c.args.plan.now) c.args.sheet group c.blank_bits-blank.result c.loop-group.marked.items c.loop-group.invariant.0 c.blank_bits-blank.ensures),
      blank_group_more (layout c.args.plan.now) c.args.sheet group _ _ _ _ _ _ bool_byte refl refl (omega arith) size c.full_bits.ensures c.loop-group.invariant.1 c.blank_bits-blank.ensures c.from.ensures refl,
    )
