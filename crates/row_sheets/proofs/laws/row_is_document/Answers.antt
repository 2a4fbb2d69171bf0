use Rattle.row_sheets.proofs.AsDocument.{row_is_document}
use Rattle.row_sheets.proofs.laws.row_is_document.Goals as goal

pub returns : goal.returns
returns c = row_is_document
