use Rattle.std.proofs.Common.{rules, ◌≡◌, ◌∙◌, ◌+◌, ◌<◌, ◌∷◌, ap, drop, length, sym, take}
use Rattle.guard.specs.Setups.{more_bytes, tokens}
use Rattle.guard.proofs.SetupTokens.{first_token}
use Rattle.guard.proofs.setup.next_token.Goals as goal

pub returns-clause-next : goal.returns-clause-next
returns-clause-next c =
    let text = c.args.text.now in
    let some : 0 < length text = search rules in
    let front : c.split_at.result.0.now ≡ take (1 + more_bytes text) text = c.split_at.ensures.front ∙ ap (λ n. take (1 + n) text) c.more_bytes.ensures.value in
    let back : c.split_at.result.1.now ≡ drop (1 + more_bytes text) text = c.split_at.ensures.back ∙ ap (λ n. drop (1 + n) text) c.more_bytes.ensures.value in
    first_token text some ∙ sym (ap (λ t. c.split_at.result.0.now ∷ tokens t) back ∙ ap (λ t. t ∷ tokens (drop (1 + more_bytes text) text)) front)
