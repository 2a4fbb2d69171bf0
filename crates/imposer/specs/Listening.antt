-- What is heard of a run that has ended.
use Rattle.std.specs.Prelude.{◌≡◌, ◌⊎◌, List, [], ◌∷◌, ◌++◌, Option, None, Some, Result, Err, ⊤}
use Rattle.rules.specs.Sheets.{layout}
use Rattle.sheet_text.specs.Jobs.{JobView}
use Rattle.imposer.specs.Gathering.{Leaves, TokensComeBack}
use Rattle.imposer.specs.Outcomes.{no_memory}
use Rattle.imposer.specs.declared.listener.GatheredPlan.{GatheredPlan}
use Rattle.imposer.specs.declared.outcome.Report.{Report}
use Rattle.imposer.specs.declared.outcome.RunError.{RunError}

-- a listener that remembers what it hears has heard of this run too
abbrev pub Hears : (old new : Option (List GatheredPlan)) → GatheredPlan → Type 0
Hears None new ended = ⊤
Hears (Some heard) new ended = new ≡ Some (heard ++ ended ∷ [])

-- a gathering on a table with the job's layout: unless memory ran out, seat and pass come back and show all calls; each complete sheet
-- was put on the queue exactly once
pub record IsOfJob (job : JobView) (ended : GatheredPlan) : Type 0 where
  pub same_layout : ended.table.layout ≡ layout job.plan
  pub handed_back : TokensComeBack ended.gathered
  pub left : Leaves ended.table ended.queue ⊤ ended.gathered

-- one run was heard of, the job's, which ended with this result; or none, if memory ran out before there was a table
abbrev pub HearsOfRun : JobView → (old new : Option (List GatheredPlan)) → Result Report RunError → Type 0
HearsOfRun job old new result =
    ((ended : GatheredPlan) × Hears old new ended × IsOfJob job ended × (ended.gathered.outcome ≡ result))
    ⊎ ((new ≡ old) × (result ≡ Err no_memory))
