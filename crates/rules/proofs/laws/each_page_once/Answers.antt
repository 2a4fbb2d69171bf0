use Rattle.rules.proofs.Signatures.{each_page_once}
use Rattle.rules.proofs.laws.each_page_once.Goals as goal

pub returns : goal.returns
returns c = each_page_once
