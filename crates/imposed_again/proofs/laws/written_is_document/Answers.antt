use Rattle.imposed_again.proofs.Again.{written_is_document}
use Rattle.imposed_again.proofs.laws.written_is_document.Goals as goal

pub returns : goal.returns
returns c = written_is_document
