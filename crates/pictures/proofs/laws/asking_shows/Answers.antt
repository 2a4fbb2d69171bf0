use Rattle.pictures.proofs.Asking.{asking_shows}
use Rattle.pictures.proofs.laws.asking_shows.Goals as goal

pub returns : goal.returns
returns c = asking_shows
