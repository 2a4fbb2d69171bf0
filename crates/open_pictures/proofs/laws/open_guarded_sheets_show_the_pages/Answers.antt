use Rattle.open_pictures.proofs.GuardedImposed.{open_guarded_sheets_show_the_pages}
use Rattle.open_pictures.proofs.laws.open_guarded_sheets_show_the_pages.Goals as goal

pub returns : goal.returns
returns c = open_guarded_sheets_show_the_pages
