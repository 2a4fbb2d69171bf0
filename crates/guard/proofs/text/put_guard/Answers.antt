use Rattle.std.proofs.Common.{rules, ◌≡◌, ◌∙◌, ap, sym, map-id, take, drop, ◌++◌, ◌-◌, arith}
use Rattle.std.specs.Prelude.{option_map}
use Rattle.std.proofs.lemmas.Iterator.{items_from_drains}
use Rattle.std.proofs.lemmas.Iterator.Adapters.{YieldsList-from_vec}
use Rattle.dsc.specs.Header.{header_len}
use Rattle.guard.specs.Guard.{guard_lines}
use Rattle.guard.proofs.Gluing.{put_between}
use Rattle.guard.proofs.text.put_guard.Goals as goal

pub returns-clause-put_in : goal.returns-clause-put_in
returns-clause-put_in c =
    let done = c.in_ok-splice.ensures.items in
    let xs = done.1 in
    let gives = done.2 in
    let drains = done.3 in
    let put : xs ≡ c.append_guard.new.out.items =
    sym (map-id xs) ∙ items_from_drains xs (drains.1.0, drains.1.1, λ _. (drains.0, drains.1.2)) (YieldsList-from_vec c.append_guard.new.out.items gives.0 (omega (arith, gives.1, c.append_guard.new.out.ok.0))) in
    put_between (guard_lines (option_map (λ p. p.now) c.args.sheet_paper)) c.args.text.now.items c.header_len-end.result c.saturating_sub-start.result
    c.in_ok-lines.lines.items c.extend_from_slice.new.self.items c.end_line.new.kept.items c.append_guard.new.out.items xs c.splice.new.self.items
    (c.header_len-end.ensures.value ∙ ap header_len c.as_slice.ensures.value) (search rules) c.saturating_sub-start.ensures
    c.in_ok-lines.ensures.items
    (c.in_ok-extend_from_slice.ensures.items ∙ ap (λ t. c.in_ok-lines.lines.items ++ take (c.header_len-end.result - c.saturating_sub-start.result) (drop c.saturating_sub-start.result t)) c.deref.ensures.value)
    c.in_ok-end_line.ensures c.in_ok-append_guard.ensures put done.4
