use Rattle.std.proofs.lemmas.Result.{IfOk-equal}
use Rattle.std.specs.Prelude.{◌-ℤ◌}
use Rattle.rules.specs.Numbers.{points_text}
use Rattle.rules.specs.Output.{path_text}
use Rattle.placement.proofs.Joining.{border_joined, border_fits}
use Rattle.std.proofs.lemmas.Result.{on_err_weaker}
use Rattle.placement.proofs.Keeping.{keeps_more, full_behind, grown, grown_more, on_err, full_first, full_later}
use Rattle.placement.proofs.texts.append_border.Goals as goal

pub returns-clause-appended : goal.returns-clause-appended
returns-clause-appended c =
    rw c.in-Some.is
    (IfOk-equal _ _ _ _ c.append_plain_text-2.ensures.appended
    (border_joined c.args.out.now.items (points_text c.in-Some.width) (path_text c.args.inset (c.args.paper.now.width -ℤ c.args.inset) (c.args.paper.now.height -ℤ c.args.inset)) _ _ _ c.in_ok-append_length.ensures.appended c.in_ok-append_plain_text.ensures.appended c.in_ok-append_inner.ensures.appended))

pub returns-clause-full : goal.returns-clause-full
returns-clause-full c =
    rw c.in-Some.is
    (on_err_weaker _
    (full_behind c.args.out.now _ _ _
    (keeps_more _ _ _ c.in_ok-append_length.ensures.kept (keeps_more _ _ _ c.in_ok-append_plain_text.ensures.kept c.in_ok-append_inner.ensures.kept))
    (border_joined c.args.out.now.items (points_text c.in-Some.width) (path_text c.args.inset (c.args.paper.now.width -ℤ c.args.inset) (c.args.paper.now.height -ℤ c.args.inset)) _ _ _ c.in_ok-append_length.ensures.appended c.in_ok-append_plain_text.ensures.appended c.in_ok-append_inner.ensures.appended))
    c.append_plain_text-2.ensures.full)

pub returns-clause-kept : goal.returns-clause-kept
returns-clause-kept c =
    keeps_more _ _ _ c.in_ok-append_length.ensures.kept (keeps_more _ _ _ c.in_ok-append_plain_text.ensures.kept
    (keeps_more _ _ _ c.in_ok-append_inner.ensures.kept c.append_plain_text-2.ensures.kept))

pub returns-in_err-append_length-clause-full : goal.returns-in_err-append_length-clause-full
returns-in_err-append_length-clause-full c =
    let fits = border_fits (points_text c.in-Some.width) (path_text c.args.inset (c.args.paper.now.width -ℤ c.args.inset) (c.args.paper.now.height -ℤ c.args.inset)) in
    rw c.in-Some.is (on_err _ (full_first c.args.out.now _ _ c.in_err-append_length.ensures.full fits.0))

pub returns-in_err-append_plain_text-clause-full : goal.returns-in_err-append_plain_text-clause-full
returns-in_err-append_plain_text-clause-full c =
    let fits = border_fits (points_text c.in-Some.width) (path_text c.args.inset (c.args.paper.now.width -ℤ c.args.inset) (c.args.paper.now.height -ℤ c.args.inset)) in
    rw c.in-Some.is (on_err _ (full_later c.args.out.now _ _ _ _ (grown _ _ _ c.in_ok-append_length.ensures.kept c.in_ok-append_length.ensures.appended) c.in_err-append_plain_text.ensures.full fits.1))

pub returns-in_err-append_inner-clause-full : goal.returns-in_err-append_inner-clause-full
returns-in_err-append_inner-clause-full c =
    let fits = border_fits (points_text c.in-Some.width) (path_text c.args.inset (c.args.paper.now.width -ℤ c.args.inset) (c.args.paper.now.height -ℤ c.args.inset)) in
    rw c.in-Some.is (on_err _ (full_later c.args.out.now _ _ _ _ (grown_more _ _ _ _ _ (grown _ _ _ c.in_ok-append_length.ensures.kept c.in_ok-append_length.ensures.appended) c.in_ok-append_plain_text.ensures.kept c.in_ok-append_plain_text.ensures.appended) c.in_err-append_inner.ensures.full fits.2))

pub returns-in_err-append_plain_text-clause-kept : goal.returns-in_err-append_plain_text-clause-kept
returns-in_err-append_plain_text-clause-kept c = keeps_more _ _ _ c.in_ok-append_length.ensures.kept c.in_err-append_plain_text.ensures.kept

pub returns-in_err-append_inner-clause-kept : goal.returns-in_err-append_inner-clause-kept
returns-in_err-append_inner-clause-kept c = keeps_more _ _ _ c.in_ok-append_length.ensures.kept (keeps_more _ _ _ c.in_ok-append_plain_text.ensures.kept c.in_err-append_inner.ensures.kept)
