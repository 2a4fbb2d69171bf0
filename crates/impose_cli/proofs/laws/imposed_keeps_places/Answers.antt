use Rattle.impose_cli.proofs.Places.{imposed_keeps_places}
use Rattle.impose_cli.proofs.laws.imposed_keeps_places.Goals as goal

pub returns : goal.returns
returns c =
    imposed_keeps_places c.written_keeps_place.ensures.stand c.written_keeps_place.ensures.cells c.written_keeps_place.ensures.room
    c.written_keeps_place.ensures.read c.written_keeps_place.ensures.bound
