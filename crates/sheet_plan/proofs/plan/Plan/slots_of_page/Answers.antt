use Rattle.std.proofs.Common.{arith, length, ap, ◌∙◌, []}
use Rattle.std.specs.Prelude.{slice_index_or}
use Rattle.std.proofs.lemmas.List.FromFn.{length-map-range_with_len, get_or-map-range_with_len}
use Rattle.rules.specs.Sheets.{Plan, layout}
use Rattle.sheet_plan.specs.Places.{places_of}
use Rattle.sheet_plan.specs.Sources.{plan_from}
use Rattle.sheet_plan.proofs.Exact.{places_listed}
use Rattle.sheet_plan.proofs.plan.Plan.slots_of_page.Goals as goal

pub of_page-requires : goal.of_page-requires
of_page-requires c =
    let view = c.self.view_is in
    let len = ap length c.self.invariant.0 ∙ length-map-range_with_len (places_of (layout (plan_from c.self.inside.source))) 0 (plan_from c.self.inside.source).pages in
    let pages = ap (λ (p : Plan). p.pages) view in
    omega arith

pub returns : goal.returns
returns c =
    let pages = ap (λ (p : Plan). p.pages) c.self.view_is in
    let value =
    c.of_page.ensures
    ∙ ap (λ lists. slice_index_or lists c.args.page []) c.self.invariant.0
    ∙ get_or-map-range_with_len (places_of (layout (plan_from c.self.inside.source))) 0 (plan_from c.self.inside.source).pages c.args.page c.args.page [] (omega arith) (omega arith)
    ∙ ap (λ (p : Plan). places_of (layout p) c.args.page) c.self.view_is in
    record { value = value; exact = places_listed _ _ _ value }
