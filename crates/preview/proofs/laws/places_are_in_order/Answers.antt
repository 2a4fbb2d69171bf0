use Rattle.preview.proofs.InOrder.{places_are_in_order}
use Rattle.preview.proofs.laws.places_are_in_order.Goals as goal

pub returns : goal.returns
returns c = places_are_in_order
