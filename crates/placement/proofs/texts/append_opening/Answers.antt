use Rattle.std.proofs.lemmas.Result.{IfOk-equal}
use Rattle.rules.specs.Output.{border_within, edge_text, border_text}
use Rattle.pagespec.specs.Items.{item_of}
use Rattle.placement.specs.Fronts.{placing_text}
use Rattle.placement.proofs.Joining.{opening_joined, opening_fits}
use Rattle.std.proofs.lemmas.Result.{on_err_weaker}
use Rattle.placement.proofs.Keeping.{keeps_more, full_behind, grown, grown_more, on_err, full_first, full_later}
use Rattle.placement.proofs.texts.append_opening.Goals as goal

pub returns-clause-appended : goal.returns-clause-appended
returns-clause-appended c =
    let paper = c.args.paper.now in
    IfOk-equal _ _ _ _ c.append_border.ensures.appended
    (opening_joined c.args.out.now.items (placing_text paper (item_of c.args.item.now)) (edge_text paper) (border_text paper (border_within c.args.inset c.args.border)) _ _ _
    c.in_ok-append_placing.ensures.appended c.in_ok-append_edge.ensures.appended c.in_ok-append_plain_text.ensures.appended)

pub returns-clause-full : goal.returns-clause-full
returns-clause-full c =
    let paper = c.args.paper.now in
    on_err_weaker _
    (full_behind c.args.out.now _ _ _
    (keeps_more _ _ _ c.in_ok-append_placing.ensures.kept (keeps_more _ _ _ c.in_ok-append_edge.ensures.kept c.in_ok-append_plain_text.ensures.kept))
    (opening_joined c.args.out.now.items (placing_text paper (item_of c.args.item.now)) (edge_text paper) (border_text paper (border_within c.args.inset c.args.border)) _ _ _
    c.in_ok-append_placing.ensures.appended c.in_ok-append_edge.ensures.appended c.in_ok-append_plain_text.ensures.appended))
    c.append_border.ensures.full

pub returns-clause-kept : goal.returns-clause-kept
returns-clause-kept c =
    keeps_more _ _ _ c.in_ok-append_placing.ensures.kept (keeps_more _ _ _ c.in_ok-append_edge.ensures.kept
    (keeps_more _ _ _ c.in_ok-append_plain_text.ensures.kept c.append_border.ensures.kept))

pub returns-in_err-append_placing-clause-full : goal.returns-in_err-append_placing-clause-full
returns-in_err-append_placing-clause-full c =
    let fits = opening_fits (placing_text c.args.paper.now (item_of c.args.item.now)) (edge_text c.args.paper.now) (border_text c.args.paper.now (border_within c.args.inset c.args.border)) in
    on_err _ (full_first c.args.out.now _ _ c.in_err-append_placing.ensures.full fits.0)

pub returns-in_err-append_edge-clause-full : goal.returns-in_err-append_edge-clause-full
returns-in_err-append_edge-clause-full c =
    let fits = opening_fits (placing_text c.args.paper.now (item_of c.args.item.now)) (edge_text c.args.paper.now) (border_text c.args.paper.now (border_within c.args.inset c.args.border)) in
    on_err _ (full_later c.args.out.now _ _ _ _ (grown _ _ _ c.in_ok-append_placing.ensures.kept c.in_ok-append_placing.ensures.appended) c.in_err-append_edge.ensures.full fits.1)

pub returns-in_err-append_plain_text-clause-full : goal.returns-in_err-append_plain_text-clause-full
returns-in_err-append_plain_text-clause-full c =
    let fits = opening_fits (placing_text c.args.paper.now (item_of c.args.item.now)) (edge_text c.args.paper.now) (border_text c.args.paper.now (border_within c.args.inset c.args.border)) in
    on_err _ (full_later c.args.out.now _ _ _ _ (grown_more _ _ _ _ _ (grown _ _ _ c.in_ok-append_placing.ensures.kept c.in_ok-append_placing.ensures.appended) c.in_ok-append_edge.ensures.kept c.in_ok-append_edge.ensures.appended) c.in_err-append_plain_text.ensures.full fits.2)

pub returns-in_err-append_edge-clause-kept : goal.returns-in_err-append_edge-clause-kept
returns-in_err-append_edge-clause-kept c = keeps_more _ _ _ c.in_ok-append_placing.ensures.kept c.in_err-append_edge.ensures.kept

pub returns-in_err-append_plain_text-clause-kept : goal.returns-in_err-append_plain_text-clause-kept
returns-in_err-append_plain_text-clause-kept c = keeps_more _ _ _ c.in_ok-append_placing.ensures.kept (keeps_more _ _ _ c.in_ok-append_edge.ensures.kept c.in_err-append_plain_text.ensures.kept)
