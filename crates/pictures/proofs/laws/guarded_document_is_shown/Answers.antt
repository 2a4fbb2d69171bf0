use Rattle.pictures.proofs.Documents.{guarded_document_is_shown}
use Rattle.pictures.proofs.laws.guarded_document_is_shown.Goals as goal

pub returns : goal.returns
returns c = guarded_document_is_shown
