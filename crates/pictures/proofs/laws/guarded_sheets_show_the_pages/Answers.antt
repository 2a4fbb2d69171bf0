use Rattle.pictures.proofs.Documents.{guarded_sheets_show_the_pages}
use Rattle.pictures.proofs.laws.guarded_sheets_show_the_pages.Goals as goal

pub returns : goal.returns
returns c = guarded_sheets_show_the_pages
