use Rattle.imposed_again.proofs.Texts.{lines_put_in}
use Rattle.imposed_again.proofs.laws.lines_put_in.Goals as goal

pub returns : goal.returns
returns c = lines_put_in
