use Rattle.impose_cli.proofs.OneText.{one_text}
use Rattle.impose_cli.proofs.laws.one_text.Goals as goal

pub returns : goal.returns
returns c = one_text
