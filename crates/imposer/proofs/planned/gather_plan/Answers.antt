use Rattle.std.proofs.Common.{rules}
use Rattle.std.specs.Prelude.{⊤}
use Rattle.imposer.specs.Rooms.{HasRoomForAll}
use Rattle.imposer.proofs.Ends.{leaves_if}
use Rattle.imposer.proofs.planned.gather_plan.Goals as goal

pub returns-clause-of_job : goal.returns-clause-of_job
returns-clause-of_job g c =
    let gathered = c.gather_objects-gathered in
    let room : HasRoomForAll c.in_ok-table.table.layout c.args.workers.preparers c.in_ok-table.tokens.pass = search rules in
    record {
      same_layout = search rules;
      handed_back = gathered.ensures.tokens;
      left = leaves_if _ _ ⊤ _ gathered.result (λ _. room) gathered.ensures.whole;
    }
