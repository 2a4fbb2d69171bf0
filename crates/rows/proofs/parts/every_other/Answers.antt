use Rattle.std.proofs.Common.{arith, ap, [], ◌∷◌, ◌++◌, ◌+◌, ◌∙◌, drop, Option, ℕ}
use Rattle.rules.specs.Rows.{Row, odd_part}
use Rattle.rows.proofs.Alternate.{part_more, part_all}
use Rattle.rows.proofs.parts.every_other.Goals as goal

pub loop-at-preserved : goal.loop-at-preserved
loop-at-preserved c =
    let row = c.args.row.now in
    let rest = odd_part (drop (c.loop-at.at + 2) row) in
    ap (λ (part : Row). part ++ rest) c.in_ok-push.ensures.items
    ∙ ap (λ (x : Option ℕ). (c.loop-at.part.items ++ x ∷ []) ++ rest) c.entry_at.ensures
    ∙ part_more c.loop-at.part.items row c.loop-at.at (omega arith)
    ∙ c.loop-at.invariant

pub returns : goal.returns
returns c = part_all c.loop-at.part.items c.args.row.now _ c.loop-at.at (omega arith) c.loop-at.invariant
