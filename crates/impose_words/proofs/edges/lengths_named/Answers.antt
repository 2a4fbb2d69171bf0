use Rattle.std.proofs.Common.{◌≡◌, ◌∙◌, ℕ, ◌+◌, ◌<◌, Some, None, ap, arith, drop, get_or, length, length-set, length-take, subst, sym, take}
use Rattle.std.specs.Prelude.{option_and_then, option_map}
use Rattle.std.proofs.lemmas.Iterator.Consumers.{YieldsList-at, YieldsList-end, YieldsList-turn}
use Rattle.std.proofs.lemmas.Iterator.Splits.{YieldsList-from_str_split}
use Rattle.std.proofs.lemmas.List.{length_push, take_more_set}
use Rattle.impose_words.specs.Edges.{comma, lengths_in, parts_of, up_to_four}
use Rattle.impose_words.proofs.Listed.{all_read, few, reads_more, reads_none, too_many, with_more}
use Rattle.impose_words.proofs.edges.lengths_named.Goals as goal

pub returns-then-count-eq4-clause-lengths : goal.returns-then-count-eq4-clause-lengths
returns-then-count-eq4-clause-lengths c =
    let split = c.split-part-items.ensures in
    let parts = YieldsList-at c.into_iter-part-iterator.ensures.into_iter_gives (YieldsList-from_str_split comma c.args.text.now (omega arith) split.text split.has_more split.pattern) in
    let turn = YieldsList-turn parts c.loop-part.yielded _ c.loop-part.yielded_by _ _ c.in-Some.part c.in-Some.is c.next.ensures.steps in
    let k = c.loop-part.invariant in
    let at = subst (λ n. (n < length (parts_of c.args.text.now)) × (c.in-Some.part.now ≡ get_or (parts_of c.args.text.now) n c.in-Some.part.now)) (sym k.1) turn in
    let listed = c.is_some-is_list.result in
    let full : length (take c.loop-part.count c.loop-part.lengths) ≡ 4 = omega (arith, length-take c.loop-part.count c.loop-part.lengths, k.3, c.if-count-eq4.true) in
    let none = too_many listed (take c.loop-part.count c.loop-part.lengths) (parts_of c.args.text.now) c.loop-part.count c.in-Some.part.now full at in
    sym (ap (λ b. option_and_then up_to_four (lengths_in b (parts_of c.args.text.now))) (sym k.0) ∙ ap (option_and_then up_to_four) (sym k.4) ∙ none)

pub returns-in_err-lengths-clause-lengths : goal.returns-in_err-lengths-clause-lengths
returns-in_err-lengths-clause-lengths c =
    let split = c.split-part-items.ensures in
    let parts = YieldsList-at c.into_iter-part-iterator.ensures.into_iter_gives (YieldsList-from_str_split comma c.args.text.now (omega arith) split.text split.has_more split.pattern) in
    let turn = YieldsList-turn parts c.loop-part.yielded _ c.loop-part.yielded_by _ _ c.in-Some.part c.in-Some.is c.next.ensures.steps in
    let k = c.loop-part.invariant in
    let at = subst (λ n. (n < length (parts_of c.args.text.now)) × (c.in-Some.part.now ≡ get_or (parts_of c.args.text.now) n c.in-Some.part.now)) (sym k.1) turn in
    let listed = c.is_some-is_list.result in
    let none = reads_none listed (take c.loop-part.count c.loop-part.lengths) (parts_of c.args.text.now) c.loop-part.count c.in-Some.part.now at (sym c.length_in.ensures ∙ c.in_err-lengths.was) in
    ap (option_map (λ l. take l.1 l.0)) c.from_residual.ensures
    ∙ sym (ap (λ b. option_and_then up_to_four (lengths_in b (parts_of c.args.text.now))) (sym k.0) ∙ ap (option_and_then up_to_four) (sym k.4 ∙ none))

pub loop-part-preserved : goal.loop-part-preserved
loop-part-preserved c =
    let split = c.split-part-items.ensures in
    let parts = YieldsList-at c.into_iter-part-iterator.ensures.into_iter_gives (YieldsList-from_str_split comma c.args.text.now (omega arith) split.text split.has_more split.pattern) in
    let turn = YieldsList-turn parts c.loop-part.yielded _ c.loop-part.yielded_by _ _ c.in-Some.part c.in-Some.is c.next.ensures.steps in
    let k = c.loop-part.invariant in
    let all = parts_of c.args.text.now in
    let at = subst (λ n. (n < length all) × (c.in-Some.part.now ≡ get_or all n c.in-Some.part.now)) (sym k.1) turn in
    let listed = c.is_some-is_list.result in
    let count = c.loop-part.count in
    let front = take count c.loop-part.lengths in
    let more = reads_more listed front all count c.in-Some.part.now c.in_ok-lengths.field-0 at (sym c.length_in.ensures ∙ c.in_ok-lengths.was) in
    let within : count < length c.loop-part.lengths = omega (arith, k.2, k.3, c.if-count-eq4.false) in (
      k.0,
      ap (λ n. n + 1) k.1 ∙ sym (length_push c.loop-part.yielded c.in-Some.part),
      omega (arith, k.2, c.if-count-eq4.false),
      length-set c.loop-part.lengths count c.in_ok-lengths.field-0 ∙ k.3,
      ap (λ xs. with_more listed xs (drop (count + 1) all)) (take_more_set c.loop-part.lengths count c.in_ok-lengths.field-0 within) ∙ sym more ∙ k.4,
    )

pub returns-clause-lengths : goal.returns-clause-lengths
returns-clause-lengths c =
    let split = c.split-part-items.ensures in
    let parts = YieldsList-at c.into_iter-part-iterator.ensures.into_iter_gives (YieldsList-from_str_split comma c.args.text.now (omega arith) split.text split.has_more split.pattern) in
    let end = YieldsList-end parts c.loop-part.yielded _ c.loop-part.yielded_by _ _ c.in-None.is c.next.ensures.steps in
    let k = c.loop-part.invariant in
    let all = parts_of c.args.text.now in
    let listed = c.is_some-is_list.result in
    let read = all_read listed (take c.loop-part.count c.loop-part.lengths) all c.loop-part.count (omega (arith, k.1, end.1)) in
    sym (ap (λ b. option_and_then up_to_four (lengths_in b all)) (sym k.0) ∙ ap (option_and_then up_to_four) (sym k.4 ∙ read)
    ∙ few _ (omega (arith, length-take c.loop-part.count c.loop-part.lengths, k.2, k.3)))
