use Rattle.std.proofs.Common.{◌++◌, ◌∙◌, List, ℕ, ap}
use Rattle.std.specs.Prelude.{codes}
use Rattle.std.proofs.lemmas.Result.{on_ok_weaker}
use Rattle.impose_messages.proofs.Pieces.{five, if_ok}
use Rattle.impose_messages.specs.Said.{count_text, claim_advice}
use Rattle.impose_messages.proofs.reports.push_claim.Goals as goal

pub returns : goal.returns
returns c =
    on_ok_weaker c.extend_from_slice-3.result
    (λ last.
    five c.args.said.now.items (codes "the document says ") (count_text c.args.claimed (codes "1 page") (codes "") (codes " pages")) (codes ", ")
    (count_text c.args.found (codes "1 was found") (codes "") (codes " were found")) (claim_advice c.args.is_ended c.args.claimed c.args.found) _ _ _ _ _
    c.in_ok-extend_from_slice.ensures.items c.in_ok-push_counted.ensures c.in_ok-extend_from_slice-2.ensures.items c.in_ok-push_counted-2.ensures
    (last ∙ ap (λ (x : List ℕ). c.push_counted-2.new.said.items ++ x) c.claim_advice.ensures))
    (if_ok c.extend_from_slice-3.result _ _ _ c.extend_from_slice-3.ensures.items)
