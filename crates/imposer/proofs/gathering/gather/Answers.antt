use Rattle.std.proofs.Common.{Option, None, Some}
use Rattle.std.specs.Prelude.{IfSome, IsNone}
use Rattle.run_steps.specs.Gathered.{IsGathered, IsHandedOn, AreAllPut}
use Rattle.imposer.specs.Rooms.{HasRoomForAll}
use Rattle.imposer.specs.Gathering.{AreWhole}
use Rattle.imposer.proofs.gathering.gather.Goals as goal

-- the second and the last of four facts on what may be there
second_and_last : {T : Type 0} (x : Option T) (A B C D : T → Type 0) → IfSome x (λ t. A t × B t × C t × D t) → IfSome x (λ t. B t × D t)
second_and_last None A B C D all = tt
second_and_last (Some t) A B C D all = (all.1, all.3)

pub returns-clause-handed_on : goal.returns-clause-handed_on
returns-clause-handed_on g c =
    let layout = c.args.table.now.layout in
    second_and_last c.gather_objects.result.tokens
    (λ t. AreWhole c.args.table.now c.args.ready.now t.0 t.1)
    (λ t. IsHandedOn t.1.front)
    (λ t. IsNone c.gather_objects.result.unshelved → IsGathered layout t.0.front)
    (λ t. HasRoomForAll layout c.args.workers.preparers c.args.pass → AreAllPut layout t.0.front t.1.front)
    c.gather_objects.ensures.whole
