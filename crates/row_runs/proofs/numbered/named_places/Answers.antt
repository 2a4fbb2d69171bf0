use Rattle.std.proofs.Common.{rules, ◌∙◌, ◌<◌, ◌++◌, ◌∷◌, [], ap, length, take, None}
use Rattle.std.proofs.lemmas.Option.{slice_get-get_or}
use Rattle.row_runs.specs.Numbers.{named_places_from}
use Rattle.row_runs.proofs.Places.{place_more}
use Rattle.row_runs.proofs.numbered.named_places.Goals as goal

pub loop-place-preserved : goal.loop-place-preserved
loop-place-preserved c =
    let row = c.args.row.now in
    let i = c.loop-place.place in
    let within : i < length row = search rules in
    let at = slice_get-get_or row i None within in
    c.in_ok-push.ensures.items
    ∙ ap (λ xs. xs ++ c.named_at.result ∷ []) c.loop-place.invariant
    ∙ ap (λ e. named_places_from 0 (take i row) ++ e ∷ []) (c.named_at.ensures _ at)
    ∙ place_more i row _ at
