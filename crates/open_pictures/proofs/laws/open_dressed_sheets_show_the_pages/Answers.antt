use Rattle.open_pictures.proofs.Unguarded.{open_dressed_sheets_show_the_pages}
use Rattle.open_pictures.proofs.laws.open_dressed_sheets_show_the_pages.Goals as goal

pub returns : goal.returns
returns c = open_dressed_sheets_show_the_pages
