use Rattle.dressing.proofs.Outside.{pieces_are_like}
use Rattle.dressing.proofs.laws.pieces_are_like.Goals as goal

pub returns : goal.returns
returns c = pieces_are_like
