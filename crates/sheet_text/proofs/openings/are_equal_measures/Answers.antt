use Rattle.sheet_text.proofs.Opened.{measure_same}
use Rattle.sheet_text.proofs.openings.are_equal_measures.Goals as goal

pub returns : goal.returns
returns c is = measure_same c.args.one c.args.other _ c.eq.ensures is
