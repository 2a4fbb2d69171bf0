use Rattle.open_pictures.proofs.AllSheets.{dressed_document_is_shown}
use Rattle.open_pictures.proofs.laws.dressed_document_is_shown.Goals as goal

pub returns : goal.returns
returns c = dressed_document_is_shown
