use Rattle.pagespec.proofs.Short.{canonical_short}
use Rattle.pagespec.proofs.laws.canonical_is_short.Goals as goal

pub returns : goal.returns
returns c = canonical_short
