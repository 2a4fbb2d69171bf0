use Rattle.open_pictures.proofs.Imposed.{open_made_sheets_show_the_pages}
use Rattle.open_pictures.proofs.laws.open_made_sheets_show_the_pages.Goals as goal

pub returns : goal.returns
returns c = open_made_sheets_show_the_pages
