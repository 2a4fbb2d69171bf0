use Rattle.std.proofs.lemmas.Result.{IfOk-equal, on_err_weaker}
use Rattle.rules.specs.Output.{point_text}
use Rattle.placement.proofs.Joining.{path_joined, path_fits}
use Rattle.placement.proofs.Keeping.{keeps_more, full_behind, grown, grown_more, on_err, full_first, full_later}
use Rattle.placement.proofs.texts.append_path.Goals as goal

pub returns-clause-appended : goal.returns-clause-appended
returns-clause-appended c =
    IfOk-equal _ _ _ _ c.append_plain_text.ensures.appended
    (path_joined c.args.out.now.items (point_text c.args.low c.args.low) (point_text c.args.right c.args.low) (point_text c.args.right c.args.top) (point_text c.args.low c.args.top) _ _ _ _
    c.in_ok-append_corner.ensures.appended c.in_ok-append_corner-2.ensures.appended c.in_ok-append_corner-3.ensures.appended c.in_ok-append_corner-4.ensures.appended)

pub returns-clause-kept : goal.returns-clause-kept
returns-clause-kept c =
    keeps_more _ _ _ c.in_ok-append_corner.ensures.kept (keeps_more _ _ _ c.in_ok-append_corner-2.ensures.kept (keeps_more _ _ _ c.in_ok-append_corner-3.ensures.kept
    (keeps_more _ _ _ c.in_ok-append_corner-4.ensures.kept c.append_plain_text.ensures.kept)))

pub returns-clause-full : goal.returns-clause-full
returns-clause-full c =
    on_err_weaker _
    (full_behind c.args.out.now _ _ _
    (keeps_more _ _ _ c.in_ok-append_corner.ensures.kept (keeps_more _ _ _ c.in_ok-append_corner-2.ensures.kept (keeps_more _ _ _ c.in_ok-append_corner-3.ensures.kept c.in_ok-append_corner-4.ensures.kept)))
    (path_joined c.args.out.now.items (point_text c.args.low c.args.low) (point_text c.args.right c.args.low) (point_text c.args.right c.args.top) (point_text c.args.low c.args.top) _ _ _ _
    c.in_ok-append_corner.ensures.appended c.in_ok-append_corner-2.ensures.appended c.in_ok-append_corner-3.ensures.appended c.in_ok-append_corner-4.ensures.appended))
    c.append_plain_text.ensures.full

pub returns-in_err-append_corner-clause-full : goal.returns-in_err-append_corner-clause-full
returns-in_err-append_corner-clause-full c =
    let fits = path_fits (point_text c.args.low c.args.low) (point_text c.args.right c.args.low) (point_text c.args.right c.args.top) (point_text c.args.low c.args.top) in
    on_err _ (full_first c.args.out.now _ _ c.in_err-append_corner.ensures.full fits.0)

pub returns-in_err-append_corner-2-clause-full : goal.returns-in_err-append_corner-2-clause-full
returns-in_err-append_corner-2-clause-full c =
    let fits = path_fits (point_text c.args.low c.args.low) (point_text c.args.right c.args.low) (point_text c.args.right c.args.top) (point_text c.args.low c.args.top) in
    on_err _ (full_later c.args.out.now _ _ _ _ (grown _ _ _ c.in_ok-append_corner.ensures.kept c.in_ok-append_corner.ensures.appended) c.in_err-append_corner-2.ensures.full fits.1)

pub returns-in_err-append_corner-3-clause-full : goal.returns-in_err-append_corner-3-clause-full
returns-in_err-append_corner-3-clause-full c =
    let fits = path_fits (point_text c.args.low c.args.low) (point_text c.args.right c.args.low) (point_text c.args.right c.args.top) (point_text c.args.low c.args.top) in
    on_err _ (full_later c.args.out.now _ _ _ _ (grown_more _ _ _ _ _ (grown _ _ _ c.in_ok-append_corner.ensures.kept c.in_ok-append_corner.ensures.appended) c.in_ok-append_corner-2.ensures.kept c.in_ok-append_corner-2.ensures.appended) c.in_err-append_corner-3.ensures.full fits.2)

pub returns-in_err-append_corner-4-clause-full : goal.returns-in_err-append_corner-4-clause-full
returns-in_err-append_corner-4-clause-full c =
    let fits = path_fits (point_text c.args.low c.args.low) (point_text c.args.right c.args.low) (point_text c.args.right c.args.top) (point_text c.args.low c.args.top) in
    on_err _ (full_later c.args.out.now _ _ _ _ (grown_more _ _ _ _ _ (grown_more _ _ _ _ _ (grown _ _ _ c.in_ok-append_corner.ensures.kept c.in_ok-append_corner.ensures.appended) c.in_ok-append_corner-2.ensures.kept c.in_ok-append_corner-2.ensures.appended) c.in_ok-append_corner-3.ensures.kept c.in_ok-append_corner-3.ensures.appended) c.in_err-append_corner-4.ensures.full fits.3)

pub returns-in_err-append_corner-2-clause-kept : goal.returns-in_err-append_corner-2-clause-kept
returns-in_err-append_corner-2-clause-kept c = keeps_more _ _ _ c.in_ok-append_corner.ensures.kept c.in_err-append_corner-2.ensures.kept

pub returns-in_err-append_corner-3-clause-kept : goal.returns-in_err-append_corner-3-clause-kept
returns-in_err-append_corner-3-clause-kept c = keeps_more _ _ _ c.in_ok-append_corner.ensures.kept (keeps_more _ _ _ c.in_ok-append_corner-2.ensures.kept c.in_err-append_corner-3.ensures.kept)

pub returns-in_err-append_corner-4-clause-kept : goal.returns-in_err-append_corner-4-clause-kept
returns-in_err-append_corner-4-clause-kept c = keeps_more _ _ _ c.in_ok-append_corner.ensures.kept (keeps_more _ _ _ c.in_ok-append_corner-2.ensures.kept (keeps_more _ _ _ c.in_ok-append_corner-3.ensures.kept c.in_err-append_corner-4.ensures.kept))
