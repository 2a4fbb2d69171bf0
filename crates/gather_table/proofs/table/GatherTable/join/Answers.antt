use Rattle.std.proofs.Common.{refl, sym, ap, ◌∙◌, subst}
use Rattle.rules.specs.Seats.{Learned}
use Rattle.rules.proofs.SeatViews.{joined, stands_joined}
use Rattle.gather_table.specs.History.{IsLegal}
use Rattle.gather_table.proofs.RuleKept.{some_word, joins, learns_moves}
use Rattle.gather_table.proofs.table.GatherTable.join.Goals as goal

pub join_seat-requires : goal.join_seat-requires
join_seat-requires c =
    let table = sym (ap (λ t. t.table) c.self.view_is) in
    let one = ap (λ t. t.table) c.one.view_is ∙ c.requires.one.0 ∙ table in
    let two = ap (λ t. t.table) c.two.view_is ∙ c.requires.two.0 ∙ table in
    (one, two, c.two.invariant.0, (some_word c.self.invariant), joins _ _ _ _ _ c.one.invariant.1.held.some_share)

pub load-requires : goal.load-requires
load-requires c =
    let table = sym (ap (λ t. t.table) c.self.view_is) in
    let one = ap (λ t. t.table) c.one.view_is ∙ c.requires.one.0 ∙ table in
    let j = c.join_seat.ensures in
    (j.0 ∙ one, (some_word c.self.invariant), learns_moves _ _ _ _ _)

pub returns : goal.returns
returns c =
    let j = c.join_seat.ensures in
    let l = c.load.ensures in
    let key = ap (λ t. t.key) c.two.view_is ∙ c.requires.two.1 ∙ sym (ap (λ t. t.key) c.one.view_is ∙ c.requires.one.1) in
    joined IsLegal _ _ _ c.one.inside.token.me.0 c.two.inside.token.me.0 _ _ _ c.one.view_is c.two.view_is (ap (λ p. p.0) l.2.0 ∙ ap (λ p. p.0) j.2) (subst Learned (sym (ap (λ p. p.0) l.2.0)) l.2.1) (l.0 ∙ j.0) key c.one.invariant.1.held c.two.invariant.1.held

pub invariant_of-result : goal.invariant_of-result
invariant_of-result c =
    let j = c.join_seat.ensures in
    let l = c.load.ensures in
    let key = ap (λ t. t.key) c.two.view_is ∙ c.requires.two.1 ∙ sym (ap (λ t. t.key) c.one.view_is ∙ c.requires.one.1) in
    (ap (λ p. p.1) l.2.0 ∙ ap (λ p. p.1) j.2 ∙ c.one.invariant.0, stands_joined IsLegal c.one.inside.token.me.0 c.two.inside.token.me.0 _ _ _ _ (ap (λ p. p.0) l.2.0 ∙ ap (λ p. p.0) j.2) (subst Learned (sym (ap (λ p. p.0) l.2.0)) l.2.1) key refl c.one.invariant.1 c.two.invariant.1)
