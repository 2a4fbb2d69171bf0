use Rattle.std.proofs.Common.{◌∙◌, ap}
use Rattle.std.specs.Prelude.{is_some}
use Rattle.impose_cli.proofs.LooseOnes.{one_cut}
use Rattle.impose_cli.proofs.loose.cuts.Goals as goal

pub returns : goal.returns
returns c = c.is_some.ensures ∙ ap is_some c.cut_by.ensures ∙ one_cut c.args.paper.now c.args.other.now
