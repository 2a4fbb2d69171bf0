use Rattle.papers.proofs.Tame.{reporting_is_tame}
use Rattle.papers.proofs.laws.reporting_is_tame.Goals as goal

pub returns : goal.returns
returns c = reporting_is_tame
