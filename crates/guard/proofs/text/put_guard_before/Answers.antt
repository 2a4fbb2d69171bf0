use Rattle.std.proofs.Common.{◌≡◌, ◌∙◌, ◌+◌, ◌-◌, ap, sym, map-id, take, drop, length, ◌++◌, arith}
use Rattle.std.specs.Prelude.{option_map, flat_map}
use Rattle.std.proofs.lemmas.Iterator.{items_from_drains}
use Rattle.std.proofs.lemmas.Iterator.Adapters.{YieldsList-from_vec}
use Rattle.rules.specs.Bytes.{line}
use Rattle.rules.specs.Filters.{ended}
use Rattle.dsc.specs.Header.{header_len}
use Rattle.guard.specs.Guard.{guard_lines}
use Rattle.guard.proofs.Gluing.{put_before, front_grows}
use Rattle.guard.proofs.text.put_guard_before.Goals as goal

pub returns-then-len-end-clause-begin : goal.returns-then-len-end-clause-begin
returns-then-len-end-clause-begin c =
    let grown = front_grows c.split_at-2.result.0.now (flat_map line (guard_lines (option_map (λ p. p.now) c.args.sheet_paper))) c.in_ok-front.front.items c.in_ok-front.ensures in
    omega (arith, grown, c.split_at-2.ensures.front_len, c.len.ensures, c.len-then-len-end.ensures, c.in_ok-front.front.ok.0)

pub returns-then-len-end-clause-put_in : goal.returns-then-len-end-clause-put_in
returns-then-len-end-clause-put_in c =
    let text = c.split_at.ensures.back ∙ ap (drop c.args.start) c.as_slice.ensures.value in
    let header = c.split_at-2.ensures.front ∙ ap (take c.header_len-len.result) text in
    let front = c.as_slice-then-len-end.ensures.value ∙ c.in_ok-front.ensures ∙ ap (λ t. ended t ++ flat_map line (guard_lines (option_map (λ p. p.now) c.args.sheet_paper))) header in
    let bytes = ap length c.as_slice.ensures.value in
    let size = c.as_slice-then-len-end.ensures.len in
    let grown = front_grows c.split_at-2.result.0.now (flat_map line (guard_lines (option_map (λ p. p.now) c.args.sheet_paper))) c.in_ok-front.front.items c.in_ok-front.ensures in
    put_before (guard_lines (option_map (λ p. p.now) c.args.sheet_paper)) c.args.bytes.now.items c.args.start c.header_len-len.result (c.args.start + c.header_len-len.result - c.len-then-len-end.result)
    (c.args.start + c.header_len-len.result - c.len-then-len-end.result + length c.as_slice-then-len-end.result.now) c.as_slice-then-len-end.result.now c.overwrite.new.bytes.items
    (c.header_len-len.ensures.value ∙ ap header_len text) front
    (omega (arith, grown, bytes, c.as_slice.ensures.len, c.requires, c.split_at-2.ensures.front_len, c.len.ensures, c.len-then-len-end.ensures, c.in_ok-front.front.ok.0))
    (omega (arith, size, c.len.ensures, c.len-then-len-end.ensures, c.if-len-end.true))
    c.overwrite.ensures.put

pub returns-clause-put_in : goal.returns-clause-put_in
returns-clause-put_in c =
    let text = c.split_at.ensures.back ∙ ap (drop c.args.start) c.as_slice.ensures.value in
    let header = c.split_at-2.ensures.front ∙ ap (take c.header_len-len.result) text in
    let bytes = ap length c.as_slice.ensures.value in
    let done = c.in_ok-splice.ensures.items in
    let xs = done.1 in
    let gives = done.2 in
    let drains = done.3 in
    let put : xs ≡ c.in_ok-front.front.items =
    sym (map-id xs) ∙ items_from_drains xs (drains.1.0, drains.1.1, λ _. (drains.0, drains.1.2)) (YieldsList-from_vec c.in_ok-front.front.items gives.0 (omega (arith, gives.1, c.in_ok-front.front.ok.0))) in
    put_before (guard_lines (option_map (λ p. p.now) c.args.sheet_paper)) c.args.bytes.now.items c.args.start c.header_len-len.result c.args.start
    (c.args.start + c.header_len-len.result) xs c.splice.new.self.items
    (c.header_len-len.ensures.value ∙ ap header_len text)
    (put ∙ c.in_ok-front.ensures ∙ ap (λ t. ended t ++ flat_map line (guard_lines (option_map (λ p. p.now) c.args.sheet_paper))) header)
    (omega (arith, bytes, c.as_slice.ensures.len, c.requires))
    (omega arith)
    done.4
