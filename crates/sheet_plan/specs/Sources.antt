-- The plan that a source makes, and which sources are within the limits of a plan.
use Rattle.std.specs.Prelude.{◌≡◌, ℕ, List, Ok}
use Rattle.std.specs.declared.vec.Vec.{Vec}
use Rattle.std.specs.declared.alloc.Global.{Global}
use Rattle.rules.specs.Specification.{Spec}
use Rattle.rules.specs.Sheets.{Plan, blocks as blocks_of}
use Rattle.rules.specs.Signatures.{row_len}
use Rattle.rules.specs.MadePlans.{made_plan_of}
use Rattle.pagespec.specs.declared.item.Item.{Item}
use Rattle.pagespec.specs.Items.{groups_of}
use Rattle.sheet_plan.specs.Plans.{planned_in}
use Rattle.sheet_plan.specs.Refusals.{IsAccepted}
use Rattle.sheet_plan.specs.OfSheets.{made_plan}
use Rattle.sheet_plan.specs.declared.source.PlanSource.{PlanSource}
use Rattle.sheet_plan.specs.declared.source.PlanSource.TheVariants as source

-- the specification that these fields make
abbrev pub spec_of : ℕ → List (Vec Item Global) → Spec
spec_of modulo groups = record { modulo = modulo; groups = groups_of groups }

abbrev pub plan_from : PlanSource → Plan
plan_from (source.Spec groups modulo row blocks) = planned_in row.sides (spec_of modulo groups.now) row.pages
plan_from (source.Made pages made) = made_plan pages made.now

-- a source keeps to the limits of a plan, and its blocks are those of its row
abbrev pub IsPlannable : PlanSource → Type 0
IsPlannable (source.Spec groups modulo row blocks) =
    IsAccepted row.sides (spec_of modulo groups.now) row.pages × (blocks ≡ blocks_of modulo (row_len row.sides row.pages))
IsPlannable (source.Made pages made) = made_plan_of pages made.now ≡ Ok made.now
