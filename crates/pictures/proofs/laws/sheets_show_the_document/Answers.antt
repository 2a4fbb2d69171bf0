use Rattle.pictures.proofs.DocumentRun.{sheets_show_the_document}
use Rattle.pictures.proofs.laws.sheets_show_the_document.Goals as goal

pub returns : goal.returns
returns c = sheets_show_the_document
