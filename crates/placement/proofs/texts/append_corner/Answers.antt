use Rattle.std.proofs.lemmas.Result.{IfOk-equal, on_err_weaker}
use Rattle.rules.specs.Numbers.{points_text}
use Rattle.placement.proofs.Joining.{corner_joined, corner_fits}
use Rattle.placement.proofs.Keeping.{keeps_more, full_behind, on_err, full_first}
use Rattle.placement.proofs.texts.append_corner.Goals as goal

pub returns-clause-appended : goal.returns-clause-appended
returns-clause-appended c =
    IfOk-equal _ _ _ _ c.append_coordinate-2.ensures.appended
    (corner_joined c.args.out.now.items c.args.text.now (points_text c.args.x) (points_text c.args.y) _ c.in_ok-append_coordinate.ensures.appended)

pub returns-clause-full : goal.returns-clause-full
returns-clause-full c =
    on_err_weaker _
    (full_behind c.args.out.now _ _ _ c.in_ok-append_coordinate.ensures.kept
    (corner_joined c.args.out.now.items c.args.text.now (points_text c.args.x) (points_text c.args.y) _ c.in_ok-append_coordinate.ensures.appended))
    c.append_coordinate-2.ensures.full

pub returns-clause-kept : goal.returns-clause-kept
returns-clause-kept c = keeps_more _ _ _ c.in_ok-append_coordinate.ensures.kept c.append_coordinate-2.ensures.kept

pub returns-in_err-append_coordinate-clause-full : goal.returns-in_err-append_coordinate-clause-full
returns-in_err-append_coordinate-clause-full c =
    on_err _ (full_first c.args.out.now _ _ c.in_err-append_coordinate.ensures.full (corner_fits c.args.text.now (points_text c.args.x) (points_text c.args.y)))
