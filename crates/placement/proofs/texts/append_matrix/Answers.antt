use Rattle.std.proofs.lemmas.Result.{IfOk-equal}
use Rattle.rules.specs.Numbers.{scale_text, points_text}
use Rattle.placement.proofs.Joining.{matrix_joined, matrix_fits}
use Rattle.std.proofs.lemmas.Result.{on_err_weaker}
use Rattle.placement.proofs.Keeping.{keeps_more, full_behind, grown, grown_more, on_err, full_first, full_later}
use Rattle.placement.proofs.texts.append_matrix.Goals as goal

pub returns-clause-appended : goal.returns-clause-appended
returns-clause-appended c =
    let m = c.args.matrix.now in
    IfOk-equal _ _ _ _ c.append_plain_text.ensures.appended
    (matrix_joined c.args.out.now.items (scale_text m.a) (scale_text m.b) (scale_text m.c) (scale_text m.d) (points_text m.tx) (points_text m.ty) _ _ _
    c.in_ok-append_scales.ensures.appended c.in_ok-append_length.ensures.appended c.in_ok-append_length-2.ensures.appended)

pub returns-clause-full : goal.returns-clause-full
returns-clause-full c =
    let m = c.args.matrix.now in
    on_err_weaker _
    (full_behind c.args.out.now _ _ _
    (keeps_more _ _ _ c.in_ok-append_scales.ensures.kept (keeps_more _ _ _ c.in_ok-append_length.ensures.kept c.in_ok-append_length-2.ensures.kept))
    (matrix_joined c.args.out.now.items (scale_text m.a) (scale_text m.b) (scale_text m.c) (scale_text m.d) (points_text m.tx) (points_text m.ty) _ _ _
    c.in_ok-append_scales.ensures.appended c.in_ok-append_length.ensures.appended c.in_ok-append_length-2.ensures.appended))
    c.append_plain_text.ensures.full

pub returns-clause-kept : goal.returns-clause-kept
returns-clause-kept c =
    keeps_more _ _ _ c.in_ok-append_scales.ensures.kept (keeps_more _ _ _ c.in_ok-append_length.ensures.kept
    (keeps_more _ _ _ c.in_ok-append_length-2.ensures.kept c.append_plain_text.ensures.kept))

pub returns-in_err-append_scales-clause-full : goal.returns-in_err-append_scales-clause-full
returns-in_err-append_scales-clause-full c =
    let fits = matrix_fits (scale_text c.args.matrix.now.a) (scale_text c.args.matrix.now.b) (scale_text c.args.matrix.now.c) (scale_text c.args.matrix.now.d) (points_text c.args.matrix.now.tx) (points_text c.args.matrix.now.ty) in
    on_err _ (full_first c.args.out.now _ _ c.in_err-append_scales.ensures.full fits.0)

pub returns-in_err-append_length-clause-full : goal.returns-in_err-append_length-clause-full
returns-in_err-append_length-clause-full c =
    let fits = matrix_fits (scale_text c.args.matrix.now.a) (scale_text c.args.matrix.now.b) (scale_text c.args.matrix.now.c) (scale_text c.args.matrix.now.d) (points_text c.args.matrix.now.tx) (points_text c.args.matrix.now.ty) in
    on_err _ (full_later c.args.out.now _ _ _ _ (grown _ _ _ c.in_ok-append_scales.ensures.kept c.in_ok-append_scales.ensures.appended) c.in_err-append_length.ensures.full fits.1)

pub returns-in_err-append_length-2-clause-full : goal.returns-in_err-append_length-2-clause-full
returns-in_err-append_length-2-clause-full c =
    let fits = matrix_fits (scale_text c.args.matrix.now.a) (scale_text c.args.matrix.now.b) (scale_text c.args.matrix.now.c) (scale_text c.args.matrix.now.d) (points_text c.args.matrix.now.tx) (points_text c.args.matrix.now.ty) in
    on_err _ (full_later c.args.out.now _ _ _ _ (grown_more _ _ _ _ _ (grown _ _ _ c.in_ok-append_scales.ensures.kept c.in_ok-append_scales.ensures.appended) c.in_ok-append_length.ensures.kept c.in_ok-append_length.ensures.appended) c.in_err-append_length-2.ensures.full fits.2)

pub returns-in_err-append_length-clause-kept : goal.returns-in_err-append_length-clause-kept
returns-in_err-append_length-clause-kept c = keeps_more _ _ _ c.in_ok-append_scales.ensures.kept c.in_err-append_length.ensures.kept

pub returns-in_err-append_length-2-clause-kept : goal.returns-in_err-append_length-2-clause-kept
returns-in_err-append_length-2-clause-kept c = keeps_more _ _ _ c.in_ok-append_scales.ensures.kept (keeps_more _ _ _ c.in_ok-append_length.ensures.kept c.in_err-append_length-2.ensures.kept)
