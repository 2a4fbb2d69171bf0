use Rattle.open_pictures.proofs.Unguarded.{dressed_sheets_show_the_pages}
use Rattle.open_pictures.proofs.laws.dressed_sheets_show_the_pages.Goals as goal

pub returns : goal.returns
returns c = dressed_sheets_show_the_pages
