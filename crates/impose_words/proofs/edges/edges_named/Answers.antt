use Rattle.std.proofs.Common.{◌≡◌, ◌∙◌, ◌+◌, ◌<◌, Some, None, ap, arith, drop, length, sym}
use Rattle.std.specs.List.{fold}
use Rattle.std.proofs.lemmas.Iterator.Consumers.{YieldsList-at, YieldsList-end, YieldsList-turn}
use Rattle.std.proofs.lemmas.Iterator.Splits.{YieldsList-from_str_split}
use Rattle.std.proofs.lemmas.List.{at_drop_all, length_push}
use Rattle.impose_words.specs.Edges.{comma, edge_in, parts_of}
use Rattle.impose_words.proofs.Listed.{folds_more, none_left}
use Rattle.impose_words.proofs.edges.edges_named.Goals as goal

pub returns-in_err-edges : goal.returns-in_err-edges
returns-in_err-edges c =
    let split = c.split-part-items.ensures in
    let parts = YieldsList-at c.into_iter-part-iterator.ensures.into_iter_gives (YieldsList-from_str_split comma c.args.text.now (omega arith) split.text split.has_more split.pattern) in
    let turn = YieldsList-turn parts c.loop-part.yielded _ c.loop-part.yielded_by _ _ c.in-Some.part c.in-Some.is c.next.ensures.steps in
    let listed = c.is_some-is_list.result in
    let rest = drop (length c.loop-part.yielded + 1) (parts_of c.args.text.now) in
    let more = folds_more (edge_in listed) (Some c.loop-part.edges) (parts_of c.args.text.now) (length c.loop-part.yielded) c.in-Some.part.now turn in
    c.from_residual.ensures
    ∙ sym (sym c.loop-part.invariant.1 ∙ more ∙ ap (λ e. fold (edge_in listed) e rest) (sym c.edge_in.ensures ∙ c.in_err-edges.was) ∙ none_left listed rest)

pub loop-part-preserved : goal.loop-part-preserved
loop-part-preserved c =
    let split = c.split-part-items.ensures in
    let parts = YieldsList-at c.into_iter-part-iterator.ensures.into_iter_gives (YieldsList-from_str_split comma c.args.text.now (omega arith) split.text split.has_more split.pattern) in
    let turn = YieldsList-turn parts c.loop-part.yielded _ c.loop-part.yielded_by _ _ c.in-Some.part c.in-Some.is c.next.ensures.steps in
    let listed = c.is_some-is_list.result in
    let all = parts_of c.args.text.now in
    let rest = drop (length c.loop-part.yielded + 1) all in
    let more = folds_more (edge_in listed) (Some c.loop-part.edges) all (length c.loop-part.yielded) c.in-Some.part.now turn in (
      c.loop-part.invariant.0,
      ap (λ n. fold (edge_in listed) (Some c.in_ok-edges.edges) (drop n all)) (length_push c.loop-part.yielded c.in-Some.part)
          ∙ ap (λ e. fold (edge_in listed) e rest) (sym c.in_ok-edges.was ∙ c.edge_in.ensures) ∙ sym more ∙ c.loop-part.invariant.1,
    )

pub returns : goal.returns
returns c =
    let split = c.split-part-items.ensures in
    let parts = YieldsList-at c.into_iter-part-iterator.ensures.into_iter_gives (YieldsList-from_str_split comma c.args.text.now (omega arith) split.text split.has_more split.pattern) in
    let end = YieldsList-end parts c.loop-part.yielded _ c.loop-part.yielded_by _ _ c.in-None.is c.next.ensures.steps in
    let all = parts_of c.args.text.now in
    sym (at_drop_all (fold (edge_in c.is_some-is_list.result) (Some c.loop-part.edges)) all (length c.loop-part.yielded) (omega (arith, end.1)))
    ∙ c.loop-part.invariant.1
