use Rattle.pictures.proofs.GuardedImposed.{made_document_is_shown}
use Rattle.pictures.proofs.laws.made_document_is_shown.Goals as goal

pub returns : goal.returns
returns c = made_document_is_shown
