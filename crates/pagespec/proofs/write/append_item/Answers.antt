use Rattle.std.proofs.Common.{ap, ◌∙◌, ◌++◌}
use Rattle.std.specs.Prelude.{decimal}
use Rattle.std.proofs.lemmas.Result.{IfOk-equal}
use Rattle.rules.specs.Specification.{minus_text, turn_text, scale_part, offset_part}
use Rattle.pagespec.specs.Items.{measure_of, turn_of}
use Rattle.pagespec.proofs.Joining.{five_joined}
use Rattle.pagespec.proofs.write.append_item.Goals as goal

pub returns : goal.returns
returns c =
    let i = c.args.item.now in
    IfOk-equal _ _ _ _ c.append_offset.ensures
    (five_joined c.args.out.now.items (minus_text i.from_end) (decimal i.page) (turn_text (turn_of i.turn)) (scale_part i.scale)
    (offset_part (measure_of i.offset.0) (measure_of i.offset.1)) _ _ _ _
    (c.in_ok-append_bytes.ensures ∙ ap (λ t. c.args.out.now.items ++ t) c.minus.ensures) c.in_ok-append_count.ensures
    (c.in_ok-append_bytes-2.ensures ∙ ap (λ t. c.append_count.new.out.items ++ t) c.turn_letter.ensures) c.in_ok-append_scale_modifier.ensures)
