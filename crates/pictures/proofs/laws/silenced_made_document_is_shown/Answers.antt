use Rattle.pictures.proofs.GuardedImposed.{silenced_made_document_is_shown}
use Rattle.pictures.proofs.laws.silenced_made_document_is_shown.Goals as goal

pub returns : goal.returns
returns c = silenced_made_document_is_shown
