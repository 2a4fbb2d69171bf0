use Rattle.std.proofs.Common.{refl}
use Rattle.paper_names.proofs.names.upright_paper.Goals as goal

pub paper_in-requires : goal.paper_in-requires
paper_in-requires c = record { sides = refl }
