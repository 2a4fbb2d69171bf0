use Rattle.row_sheets.proofs.poster.check_poster.Goals as goal

pub returns-clause-fits : goal.returns-clause-fits
returns-clause-fits c = record { page_is = c.in_ok-laid_on.ensures.page; fits = c.in_ok-laid_on.ensures.possible }
