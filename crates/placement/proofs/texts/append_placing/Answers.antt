use Rattle.std.proofs.Common.{refl, ap, ◌∙◌, ◌++◌}
use Rattle.std.proofs.lemmas.Result.{IfOk-equal}
use Rattle.rules.specs.Placement.{matrix_of, matrix_text}
use Rattle.pagespec.specs.Items.{item_of}
use Rattle.placement.specs.Matrices.{matrix_value}
use Rattle.placement.proofs.Joining.{placing_joined, placing_fits}
use Rattle.std.proofs.lemmas.Result.{on_err_weaker}
use Rattle.placement.proofs.Keeping.{keeps_more, full_behind, grown, on_err, full_first, full_later}
use Rattle.placement.proofs.texts.append_placing.Goals as goal

pub returns-clause-appended : goal.returns-clause-appended
returns-clause-appended c =
    let placed = matrix_text (matrix_of c.args.paper.now (item_of c.args.item.now)) in
    IfOk-equal _ _ _ _ c.append_plain_text-2.ensures.appended
    (placing_joined c.args.out.now.items placed _ _ c.in_ok-append_plain_text.ensures.appended
    (c.in_ok-append_matrix.ensures.appended ∙ ap (λ m. c.append_plain_text.new.out.items ++ matrix_text m) c.matrix_of.ensures.numbers))

pub returns-clause-full : goal.returns-clause-full
returns-clause-full c =
    let placed = matrix_text (matrix_of c.args.paper.now (item_of c.args.item.now)) in
    on_err_weaker _
    (full_behind c.args.out.now _ _ _
    (keeps_more _ _ _ c.in_ok-append_plain_text.ensures.kept c.in_ok-append_matrix.ensures.kept)
    (placing_joined c.args.out.now.items placed _ _ c.in_ok-append_plain_text.ensures.appended
    (c.in_ok-append_matrix.ensures.appended ∙ ap (λ m. c.append_plain_text.new.out.items ++ matrix_text m) c.matrix_of.ensures.numbers)))
    c.append_plain_text-2.ensures.full

pub returns-clause-kept : goal.returns-clause-kept
returns-clause-kept c =
    keeps_more _ _ _ c.in_ok-append_plain_text.ensures.kept (keeps_more _ _ _ c.in_ok-append_matrix.ensures.kept c.append_plain_text-2.ensures.kept)

pub returns-in_err-append_plain_text-clause-full : goal.returns-in_err-append_plain_text-clause-full
returns-in_err-append_plain_text-clause-full c =
    let placed = matrix_text (matrix_of c.args.paper.now (item_of c.args.item.now)) in
    let fits = placing_fits placed placed refl in
    on_err _ (full_first c.args.out.now _ _ c.in_err-append_plain_text.ensures.full fits.0)

pub returns-in_err-append_matrix-clause-full : goal.returns-in_err-append_matrix-clause-full
returns-in_err-append_matrix-clause-full c =
    let placed = matrix_text (matrix_of c.args.paper.now (item_of c.args.item.now)) in
    let fits = placing_fits (matrix_text (matrix_value c.matrix_of.result)) placed (ap (λ m. matrix_text m) c.matrix_of.ensures.numbers) in
    on_err _ (full_later c.args.out.now _ _ _ _ (grown _ _ _ c.in_ok-append_plain_text.ensures.kept c.in_ok-append_plain_text.ensures.appended) c.in_err-append_matrix.ensures.full fits.1)

pub returns-in_err-append_matrix-clause-kept : goal.returns-in_err-append_matrix-clause-kept
returns-in_err-append_matrix-clause-kept c = keeps_more _ _ _ c.in_ok-append_plain_text.ensures.kept c.in_err-append_matrix.ensures.kept
