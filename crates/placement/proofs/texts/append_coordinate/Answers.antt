use Rattle.std.proofs.Common.{arith, ◌≡◌, ◌∙◌, ◌++◌, ◌*◌, ◌^◌, ap, subst}
use Rattle.std.specs.Prelude.{OnOk}
use Rattle.std.proofs.lemmas.Int.{to_z-of_z}
use Rattle.std.proofs.lemmas.Result.{IfOk-equal, on_err_weaker}
use mir.Syntax.{w128}
use Rattle.rules.specs.Numbers.{points_text}
use Rattle.placement.proofs.Joining.{text_joined, text_fits}
use Rattle.placement.proofs.Keeping.{keeps_more, printed_keeps, full_behind, on_err, full_first}
use Rattle.placement.proofs.Sizes.{fits}
use Rattle.placement.proofs.texts.append_coordinate.Goals as goal

pub returns-clause-appended : goal.returns-clause-appended
returns-clause-appended c =
    let z = c.x.inside.grains in
    let is = to_z-of_z w128 z (fits z (2 * 10 ^ 23) c.x.invariant (omega arith)) ∙ c.x.view_is in
    IfOk-equal _ _ _ _ c.print_grains.ensures.appended
    (ap (λ z. c.append_plain_text.new.out.items ++ points_text z) is ∙ text_joined c.args.out.now.items c.args.text.now (points_text c.args.x) _ c.in_ok-append_plain_text.ensures.appended)

pub returns-clause-full : goal.returns-clause-full
returns-clause-full c =
    let z = c.x.inside.grains in
    let is = to_z-of_z w128 z (fits z (2 * 10 ^ 23) c.x.invariant (omega arith)) ∙ c.x.view_is in
    on_err_weaker _
    (full_behind c.args.out.now _ _ _ c.in_ok-append_plain_text.ensures.kept
    (ap (λ z. c.append_plain_text.new.out.items ++ points_text z) is ∙ text_joined c.args.out.now.items c.args.text.now (points_text c.args.x) _ c.in_ok-append_plain_text.ensures.appended))
    c.print_grains.ensures.full

pub returns-clause-kept : goal.returns-clause-kept
returns-clause-kept c =
    let z = c.x.inside.grains in
    let is = to_z-of_z w128 z (fits z (2 * 10 ^ 23) c.x.invariant (omega arith)) ∙ c.x.view_is in
    let appended = subst (λ z. OnOk c.print_grains.result (c.print_grains.new.out.items ≡ c.append_plain_text.new.out.items ++ points_text z)) is c.print_grains.ensures.appended in
    keeps_more _ _ _ c.in_ok-append_plain_text.ensures.kept (printed_keeps _ _ c.print_grains.result (points_text c.args.x) appended c.print_grains.ensures.unchanged c.print_grains.ensures.capacity)

pub returns-in_err-append_plain_text-clause-full : goal.returns-in_err-append_plain_text-clause-full
returns-in_err-append_plain_text-clause-full c =
    on_err _ (full_first c.args.out.now _ _ c.in_err-append_plain_text.ensures.full (text_fits c.args.text.now (points_text c.args.x)))
