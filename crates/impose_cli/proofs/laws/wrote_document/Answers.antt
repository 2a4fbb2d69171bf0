use Rattle.impose_cli.proofs.Again.{wrote_document}
use Rattle.impose_cli.proofs.laws.wrote_document.Goals as goal

pub returns : goal.returns
returns c = wrote_document
