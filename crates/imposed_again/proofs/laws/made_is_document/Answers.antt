use Rattle.imposed_again.proofs.MadeAgain.{made_is_document}
use Rattle.imposed_again.proofs.laws.made_is_document.Goals as goal

pub returns : goal.returns
returns c = made_is_document
