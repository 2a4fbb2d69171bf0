use Rattle.std.proofs.Common.{arith, ap, sym, [], ◌∷◌, ◌++◌, ◌+◌, ◌∙◌, map, Option, ℕ, append_assoc}
use Rattle.std.specs.List.{range_with_len}
use Rattle.std.proofs.lemmas.List.FromFn.{map-range_with_len_more}
use Rattle.rules.specs.Signatures.{entry_of, page_in_signature}
use Rattle.rules.specs.Rows.{Row}
use Rattle.rows.proofs.signatures.append_signature.Goals as goal

pub loop-position-preserved : goal.loop-position-preserved
loop-position-preserved c =
    let entry = λ (i : ℕ). entry_of c.args.row.now (c.args.first + page_in_signature c.args.sides i) in
    let p = c.loop-position.position in
    let old = c.args.printed.now.items in
    c.in_ok-push.ensures.items
    ∙ ap (λ (x : Option ℕ). c.loop-position.printed.items ++ x ∷ []) (c.entry_at.ensures ∙ ap (λ k. entry_of c.args.row.now (c.args.first + k)) c.page_in_signature.ensures.value)
    ∙ ap (λ (row : Row). row ++ entry p ∷ []) c.loop-position.invariant
    ∙ append_assoc old (map entry (range_with_len 0 p)) (entry p ∷ [])
    ∙ ap (λ (row : Row). old ++ row) (sym (map-range_with_len_more entry 0 p p (omega arith)))
