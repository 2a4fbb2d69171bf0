use Rattle.pictures.proofs.GuardedImposed.{own_made_document_is_shown}
use Rattle.pictures.proofs.laws.own_made_document_is_shown.Goals as goal

pub returns : goal.returns
returns c = own_made_document_is_shown
