use Rattle.std.proofs.Common.{arith, sym, ap, ◌∙◌, subst, ◌≡◌, ◌<◌, length, ◌+◌, ◌-◌}
use Rattle.rules.specs.Sheets.{layout as layout_of}
use Rattle.gather_table.specs.History.{Publish, IsLegal}
use Rattle.gather_table.proofs.Lanes.{at_least}
use Rattle.rules.proofs.SeatViews.{made, stands_after}
use Rattle.gather_table.proofs.Pages.{publish_moves}
use Rattle.gather_table.proofs.table.GatherTable.publish.Goals as goal

pub compare_exchange-found-requires : goal.compare_exchange-found-requires
compare_exchange-found-requires c =
    let ours = ap (λ t. t.table) c.seat.view_is ∙ c.requires.seat.0 ∙ sym (ap (λ t. t.table) c.self.view_is) in
    let same = ap (λ t. t.layout) c.self.view_is in
    let below : c.args.page < c.self.inside.table.shared.key.pages = subst (λ p. c.args.page < p.pages) (sym same) c.requires.page in
    let room = c.self.invariant.words_are in
    let least = at_least (layout_of c.self.inside.table.shared.key) (length (layout_of c.self.inside.table.shared.key).sheets) in
    (ours, omega arith, publish_moves _ _ _ _ _ _ below (omega arith) c.seat.invariant.1.held.some_share)

pub invariant_of-seat : goal.invariant_of-seat
invariant_of-seat c = (c.compare_exchange-found.ensures.2.0 ∙ c.seat.invariant.0, stands_after IsLegal _ _ _ _ c.compare_exchange-found.ensures.2.2 c.seat.invariant.1)

pub returns : goal.returns
returns c =
    let from = c.from-word.ensures in
    let e : c.from-word.result + 1 - 1 ≡ c.args.index = omega arith in
    made IsLegal _ _ _ _ _ _ _ c.compare_exchange-found.ensures.2.2 c.seat.invariant.1.held c.compare_exchange-found.ensures.0 (λ i. Publish c.args.page (e i) (sym c.published_by.ensures i)) c.seat.view_is
