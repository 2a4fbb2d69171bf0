use Rattle.std.proofs.Common.{arith, ◌<◌, length, map, sym, ap, ◌∙◌, subst}
use Rattle.std.specs.Prelude.{All}
use Rattle.std.specs.List.{range_with_len}
use Rattle.sheet_plan.specs.declared.placed.PlacedPage.{PlacedPage}
use Rattle.sheet_plan.specs.Placed.{places_among}
use Rattle.sheet_plan.specs.Sources.{plan_from}
use Rattle.sheet_plan.proofs.Listing.{paged_of, few_of, index_of}
use Rattle.sheet_plan.proofs.plan.listed.Goals as goal

pub new-requires-clause-paged : goal.new-requires-clause-paged
new-requires-clause-paged c =
    let is = c.deref.ensures.value ∙ c.in_ok-placed.ensures in
    let paged = paged_of (plan_from c.args.source.now) c.pages.ensures.sound in
    subst (λ n. All (λ (e : PlacedPage). e.page < n) c.deref.result.now) (sym c.pages.ensures.value) (subst (All (λ (e : PlacedPage). e.page < (plan_from c.args.source.now).pages)) (sym is) paged)

pub new-requires-clause-few : goal.new-requires-clause-few
new-requires-clause-few c =
    let is = ap length (c.deref.ensures.value ∙ c.in_ok-placed.ensures) in
    let few = few_of (plan_from c.args.source.now) c.pages.ensures.sound in
    omega arith

pub returns-clause-index : goal.returns-clause-index
returns-clause-index c =
    c.in_ok-index.ensures
    ∙ ap (λ n. map (λ p. places_among p c.deref.result.now) (range_with_len 0 n)) c.pages.ensures.value
    ∙ ap (λ es. map (λ p. places_among p es) (range_with_len 0 (plan_from c.args.source.now).pages)) (c.deref.ensures.value ∙ c.in_ok-placed.ensures)
    ∙ index_of (plan_from c.args.source.now)
