use Rattle.rules.proofs.Signatures.{is_permutation}
use Rattle.rules.proofs.laws.is_permutation.Goals as goal

pub returns : goal.returns
returns c = is_permutation
