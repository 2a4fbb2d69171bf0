use Rattle.open_pictures.proofs.DocumentRun.{open_sheets_show_the_document}
use Rattle.open_pictures.proofs.laws.open_sheets_show_the_document.Goals as goal

pub returns : goal.returns
returns c = open_sheets_show_the_document
