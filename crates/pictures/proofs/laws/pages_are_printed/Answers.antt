use Rattle.pictures.proofs.DocumentRun.{pages_are_printed}
use Rattle.pictures.proofs.laws.pages_are_printed.Goals as goal

pub returns : goal.returns
returns c = pages_are_printed
