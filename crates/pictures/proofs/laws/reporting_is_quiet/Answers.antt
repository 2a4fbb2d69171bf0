use Rattle.pictures.proofs.GuardedImposed.{reporting_is_quiet}
use Rattle.pictures.proofs.laws.reporting_is_quiet.Goals as goal

pub returns : goal.returns
returns c = reporting_is_quiet
