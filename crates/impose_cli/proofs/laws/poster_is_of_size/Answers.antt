use Rattle.impose_cli.proofs.OfSize.{poster_is_of_size}
use Rattle.impose_cli.proofs.laws.poster_is_of_size.Goals as goal

pub returns : goal.returns
returns c = poster_is_of_size
