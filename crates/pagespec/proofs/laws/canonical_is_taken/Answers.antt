use Rattle.pagespec.proofs.Canonical.{canonical_taken}
use Rattle.pagespec.proofs.laws.canonical_is_taken.Goals as goal

pub returns : goal.returns
returns c = canonical_taken
