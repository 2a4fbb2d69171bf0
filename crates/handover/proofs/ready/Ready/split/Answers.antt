use Rattle.std.proofs.Common.{◌-◌, ◌∙◌, ap}
use Rattle.handover.proofs.Rooms.{kept_all}
use Rattle.handover.proofs.ready.Ready.split.Goals as goal

pub returns-clause-kept : goal.returns-clause-kept
returns-clause-kept c =
    let old = c.args.pass.now in
    c.split_with_room.ensures.kept ∙ ap (λ r. record old { share = old.share - c.args.give; room = r }) (kept_all old.room)
