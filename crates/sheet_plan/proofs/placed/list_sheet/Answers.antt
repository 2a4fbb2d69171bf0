use Rattle.std.proofs.Common.{◌++◌, ◌∷◌, [], ap, ◌∙◌}
use Rattle.std.specs.declared.vec.Vec.{Vec}
use Rattle.std.specs.declared.alloc.Global.{Global}
use Rattle.sheet_plan.specs.declared.placed.PlacedPage.{PlacedPage}
use Rattle.sheet_plan.specs.Plans.{pages_on}
use Rattle.sheet_plan.specs.Sources.{plan_from}
use Rattle.sheet_plan.proofs.Listing.{page_more, blank_more}
use Rattle.sheet_plan.proofs.placed.list_sheet.Goals as goal
use Rattle.sheet_plan.proofs.placed.list_sheet.Goals.{in-Some+in_ok-push, in_default}

pub loop-slot-preserved : goal.loop-slot-preserved
loop-slot-preserved c =
    elim c.match-page_of.branch [
      | in-Some+in_ok-push w ↦
          ap (λ (v : Vec PlacedPage Global). v.items) w.placed-is ∙ w.in_ok-push.ensures.items
          ∙ ap (λ xs. xs ++ record { page = w.in-Some.page; sheet = c.args.sheet; slot = c.loop-slot.slot } ∷ []) c.loop-slot.invariant
          ∙ page_more c.args.sheet c.loop-slot.slot w.in-Some.page (pages_on (plan_from c.args.source.now) c.args.sheet) c.args.placed.now.items w.in-Some.ensures.value
      | in_default w ↦
          ap (λ (v : Vec PlacedPage Global). v.items) w.placed-is ∙ c.loop-slot.invariant
          ∙ blank_more c.args.sheet c.loop-slot.slot (pages_on (plan_from c.args.source.now) c.args.sheet) c.args.placed.now.items w.in_default.ensures.value
    ]
