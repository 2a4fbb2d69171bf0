use Rattle.pictures.proofs.Nests.{nests_are_printed}
use Rattle.pictures.proofs.laws.nests_are_printed.Goals as goal

pub returns : goal.returns
returns c = nests_are_printed
