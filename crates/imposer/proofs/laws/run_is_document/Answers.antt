use Rattle.imposer.proofs.Piped.{run_is_document}
use Rattle.imposer.proofs.laws.run_is_document.Goals as goal

pub returns : goal.returns
returns c = run_is_document
