use Rattle.open_pictures.proofs.AllSheets.{open_dressed_document_is_shown}
use Rattle.open_pictures.proofs.laws.open_dressed_document_is_shown.Goals as goal

pub returns : goal.returns
returns c = open_dressed_document_is_shown
