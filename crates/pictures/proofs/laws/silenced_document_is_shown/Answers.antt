use Rattle.pictures.proofs.Silenced.{silenced_document_is_shown}
use Rattle.pictures.proofs.laws.silenced_document_is_shown.Goals as goal

pub returns : goal.returns
returns c = silenced_document_is_shown
