use Rattle.std.proofs.Common.{sym, ap, ◌∙◌, subst}
use Rattle.rules.specs.Seats.{Learned}
use Rattle.rules.proofs.SeatViews.{met, stands_first, stands_second}
use Rattle.gather_table.specs.History.{IsLegal}
use Rattle.gather_table.proofs.RuleKept.{some_word, joins, learns_moves, parts}
use Rattle.gather_table.proofs.table.GatherTable.meet_as.Goals as goal

pub join_seat-requires : goal.join_seat-requires
join_seat-requires g c =
    let table = sym (ap (λ t. t.table) c.self.view_is) in
    let one = ap (λ t. t.table) c.one.view_is ∙ c.requires.one.0 ∙ table in
    let two = ap (λ t. t.table) c.two.view_is ∙ c.requires.two.0 ∙ table in
    (one, two, c.two.invariant.0, (some_word c.self.invariant), joins _ _ _ _ _ c.one.invariant.1.held.some_share)

pub load-requires : goal.load-requires
load-requires g c =
    let table = sym (ap (λ t. t.table) c.self.view_is) in
    let one = ap (λ t. t.table) c.one.view_is ∙ c.requires.one.0 ∙ table in
    let j = c.join_seat.ensures in
    (j.0 ∙ one, (some_word c.self.invariant), learns_moves _ _ _ _ _)

pub split_seat-other-requires : goal.split_seat-other-requires
split_seat-other-requires g c =
    let table = sym (ap (λ t. t.table) c.self.view_is) in
    let one = ap (λ t. t.table) c.one.view_is ∙ c.requires.one.0 ∙ table in
    let j = c.join_seat.ensures in
    let l = c.load.ensures in
    let mine = c.requires.first ∙ sym (ap (λ t. t.own) c.one.view_is) in
    let theirs = c.requires.second ∙ sym (ap (λ t. t.own) c.two.view_is) in
    let gives = c.requires.share ∙ sym (ap (λ t. t.share) c.two.view_is) in
    (l.0 ∙ j.0 ∙ one, (some_word c.self.invariant), parts _ _ c.one.inside.token.me.0 c.two.inside.token.me.0 _ _ _ _ (ap (λ p. p.0) l.2.0 ∙ ap (λ p. p.0) j.2) mine theirs gives c.one.invariant.1.held.some_share c.two.invariant.1.held.some_share)

pub invariant_of-result : goal.invariant_of-result
invariant_of-result g c =
    let j = c.join_seat.ensures in
    let l = c.load.ensures in
    let s = c.split_seat-other.ensures in
    let key = ap (λ t. t.key) c.two.view_is ∙ c.requires.two.1 ∙ sym (ap (λ t. t.key) c.one.view_is ∙ c.requires.one.1) in
    let mine = c.requires.first ∙ sym (ap (λ t. t.own) c.one.view_is) in
    let gives = c.requires.share ∙ sym (ap (λ t. t.share) c.two.view_is) in
    let slots = ap (λ p. p.1) s.2 ∙ ap (λ p. p.1) l.2.0 ∙ ap (λ p. p.1) j.2 ∙ c.one.invariant.0 in
    (slots, stands_first IsLegal c.one.inside.token.me.0 c.two.inside.token.me.0 _ _ _ _ _ (ap (λ p. p.0) l.2.0 ∙ ap (λ p. p.0) j.2) (subst Learned (sym (ap (λ p. p.0) l.2.0)) l.2.1) (ap (λ p. p.0) s.2) mine gives key c.one.invariant.1 c.two.invariant.1.held)

pub invariant_of-result-2 : goal.invariant_of-result-2
invariant_of-result-2 g c =
    let j = c.join_seat.ensures in
    let l = c.load.ensures in
    let s = c.split_seat-other.ensures in
    let key = ap (λ t. t.key) c.two.view_is ∙ c.requires.two.1 ∙ sym (ap (λ t. t.key) c.one.view_is ∙ c.requires.one.1) in
    let theirs = c.requires.second ∙ sym (ap (λ t. t.own) c.two.view_is) in
    let gives = c.requires.share ∙ sym (ap (λ t. t.share) c.two.view_is) in
    (ap (λ p. p.1) s.4, stands_second IsLegal c.one.inside.token.me.0 c.two.inside.token.me.0 _ _ _ _ _ (ap (λ p. p.0) l.2.0 ∙ ap (λ p. p.0) j.2) (subst Learned (sym (ap (λ p. p.0) l.2.0)) l.2.1) (ap (λ p. p.0) s.4) theirs gives key c.one.invariant.1.held c.two.invariant.1)

pub returns : goal.returns
returns g c =
    let j = c.join_seat.ensures in
    let l = c.load.ensures in
    let s = c.split_seat-other.ensures in
    let key = ap (λ t. t.key) c.two.view_is ∙ c.requires.two.1 ∙ sym (ap (λ t. t.key) c.one.view_is ∙ c.requires.one.1) in
    let table = ap (λ t. t.table) c.one.view_is ∙ c.requires.one.0 ∙ sym (ap (λ t. t.table) c.two.view_is ∙ c.requires.two.0) in
    let mine = c.requires.first ∙ sym (ap (λ t. t.own) c.one.view_is) in
    let theirs = c.requires.second ∙ sym (ap (λ t. t.own) c.two.view_is) in
    let gives = c.requires.share ∙ sym (ap (λ t. t.share) c.two.view_is) in
    met IsLegal _ _ _ _ c.one.inside.token.me.0 c.two.inside.token.me.0 _ _ _ _ _ _ _ _ c.one.view_is c.two.view_is (ap (λ p. p.0) l.2.0 ∙ ap (λ p. p.0) j.2) (subst Learned (sym (ap (λ p. p.0) l.2.0)) l.2.1) (ap (λ p. p.0) s.2) (ap (λ p. p.0) s.4)
    mine theirs gives (s.0 ∙ l.0 ∙ j.0) (s.3 ∙ l.0 ∙ j.0 ∙ table) key c.one.invariant.1.held c.two.invariant.1.held
