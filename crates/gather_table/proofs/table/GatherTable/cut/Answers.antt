use Rattle.std.proofs.Common.{refl, arith, sym, ap, ◌∙◌, []}
use Rattle.rules.specs.Seats.{keeps_back, given, occurrences}
use Rattle.rules.proofs.SeatViews.{stands_kept, stands_given}
use Rattle.gather_table.specs.History.{IsLegal}
use Rattle.gather_table.proofs.RuleKept.{some_word, splits}
use Rattle.gather_table.proofs.table.GatherTable.cut.Goals as goal

pub split_seat-token-requires : goal.split_seat-token-requires
split_seat-token-requires g c =
    let ours = ap (λ t. t.table) c.seat.view_is ∙ c.requires.seat.0 ∙ sym (ap (λ t. t.table) c.self.view_is) in
    let share = ap (λ t. t.share) c.seat.view_is in
    let all = c.requires.share in
    let number = c.requires.number in
    let room = some_word c.self.invariant in
    let mine = c.requires.first ∙ sym (ap (λ t. t.own) c.seat.view_is) in
    let none_given = c.requires.second in
    (ours, room, splits _ _ c.seat.inside.token.me.0 _ _ _ (λ x. let a = ap (occurrences x) mine in let b = ap (occurrences x) none_given in omega arith) (omega arith) (omega arith))

pub invariant_of-seat : goal.invariant_of-seat
invariant_of-seat g c =
    let share = ap (λ t. t.share) c.seat.view_is in
    let all = c.requires.share in
    let me = c.seat.inside.token.me in
    let mine = c.requires.first ∙ sym (ap (λ t. t.own) c.seat.view_is) in
    let kept = ap (λ p. p.0) c.split_seat-token.ensures.2 ∙ ap (λ places. keeps_back places g.P.Parts.share me.0) mine ∙ ap (λ n. keeps_back me.0.own n me.0) c.requires.number in
    (ap (λ p. p.1) c.split_seat-token.ensures.2 ∙ c.seat.invariant.0, stands_kept IsLegal me.0 _ _ _ c.args.give kept all.0 (omega arith) refl c.seat.invariant.1)

pub invariant_of-result : goal.invariant_of-result
invariant_of-result g c =
    let share = ap (λ t. t.share) c.seat.view_is in
    let all = c.requires.share in
    let me = c.seat.inside.token.me in
    let got = ap (λ p. p.0) c.split_seat-token.ensures.4 ∙ ap (λ places. given places g.P.Parts.share me.0) c.requires.second ∙ ap (λ n. given [] n me.0) c.requires.number in
    (ap (λ p. p.1) c.split_seat-token.ensures.4, stands_given IsLegal me.0 _ _ c.args.give got all.0 (omega arith) c.seat.invariant.1)
