use Rattle.pictures.proofs.Imposed.{made_sheets_show_the_pages}
use Rattle.pictures.proofs.laws.made_sheets_show_the_pages.Goals as goal

pub returns : goal.returns
returns c = made_sheets_show_the_pages
