use Rattle.std.proofs.lemmas.Result.{IfOk-equal, on_err_weaker}
use Rattle.rules.specs.Numbers.{points_text}
use Rattle.placement.proofs.Joining.{text_joined, text_fits}
use Rattle.placement.proofs.Keeping.{keeps_more, printed_keeps, full_behind, on_err, full_first}
use Rattle.placement.proofs.texts.append_length.Goals as goal

pub returns-clause-appended : goal.returns-clause-appended
returns-clause-appended c = IfOk-equal _ _ _ _ c.print_points.ensures.appended (text_joined c.args.out.now.items c.args.text.now (points_text c.args.grains) _ c.in_ok-append_plain_text.ensures.appended)

pub returns-clause-full : goal.returns-clause-full
returns-clause-full c =
    on_err_weaker _
    (full_behind c.args.out.now _ _ _ c.in_ok-append_plain_text.ensures.kept
    (text_joined c.args.out.now.items c.args.text.now (points_text c.args.grains) _ c.in_ok-append_plain_text.ensures.appended))
    c.print_points.ensures.full

pub returns-clause-kept : goal.returns-clause-kept
returns-clause-kept c =
    keeps_more _ _ _ c.in_ok-append_plain_text.ensures.kept
    (printed_keeps _ _ c.print_points.result (points_text c.args.grains) c.print_points.ensures.appended c.print_points.ensures.unchanged c.print_points.ensures.capacity)

pub returns-in_err-append_plain_text-clause-full : goal.returns-in_err-append_plain_text-clause-full
returns-in_err-append_plain_text-clause-full c = on_err _ (full_first c.args.out.now _ _ c.in_err-append_plain_text.ensures.full (text_fits c.args.text.now (points_text c.args.grains)))
