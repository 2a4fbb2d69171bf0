use Rattle.std.proofs.Common.{arith, sym, ap, ◌∙◌, subst, ◌<◌, length}
use Rattle.rules.specs.Sheets.{layout as layout_of}
use Rattle.gather_table.specs.History.{PageAt, IsLegal}
use Rattle.gather_table.proofs.Lanes.{at_least}
use Rattle.rules.proofs.SeatViews.{made, stands_after}
use Rattle.gather_table.proofs.Pages.{find_moves}
use Rattle.gather_table.proofs.table.GatherTable.page_at.Goals as goal

pub load-found-requires : goal.load-found-requires
load-found-requires c =
    let ours = ap (λ t. t.table) c.seat.view_is ∙ c.requires.seat.0 ∙ sym (ap (λ t. t.table) c.self.view_is) in
    let same = ap (λ t. t.layout) c.self.view_is in
    let below : c.args.page < c.self.inside.table.shared.key.pages = subst (λ p. c.args.page < p.pages) (sym same) c.requires.page in
    let room = c.self.invariant.words_are in
    let least = at_least (layout_of c.self.inside.table.shared.key) (length (layout_of c.self.inside.table.shared.key).sheets) in
    (ours, omega arith, find_moves _ _ _ _ _ below c.seat.invariant.1.held.some_share)

pub invariant_of-seat : goal.invariant_of-seat
invariant_of-seat c = (c.load-found.ensures.2.0 ∙ c.seat.invariant.0, stands_after IsLegal _ _ _ _ c.load-found.ensures.2.2 c.seat.invariant.1)

pub returns : goal.returns
returns c = made IsLegal _ _ _ _ _ _ _ c.load-found.ensures.2.2 c.seat.invariant.1.held c.load-found.ensures.0 (ap (λ o. PageAt c.args.page o) (sym c.index_by.ensures)) c.seat.view_is
