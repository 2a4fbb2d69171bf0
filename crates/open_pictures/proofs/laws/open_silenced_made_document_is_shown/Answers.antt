use Rattle.open_pictures.proofs.Silenced.{open_silenced_made_document_is_shown}
use Rattle.open_pictures.proofs.laws.open_silenced_made_document_is_shown.Goals as goal

pub returns : goal.returns
returns c = open_silenced_made_document_is_shown
