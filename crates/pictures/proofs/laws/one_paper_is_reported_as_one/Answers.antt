use Rattle.pictures.proofs.GuardedImposed.{one_paper_is_reported_as_one}
use Rattle.pictures.proofs.laws.one_paper_is_reported_as_one.Goals as goal

pub returns : goal.returns
returns c = one_paper_is_reported_as_one
