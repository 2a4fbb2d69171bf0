use Rattle.open_pictures.proofs.GuardedImposed.{open_guarded_document_is_shown}
use Rattle.open_pictures.proofs.laws.open_guarded_document_is_shown.Goals as goal

pub returns : goal.returns
returns c = open_guarded_document_is_shown
