use Rattle.papers.proofs.DocumentTells.{none_found, told_found}
use Rattle.papers.proofs.finding.document_or.Goals as goal

pub returns-in-Some : goal.returns-in-Some
returns-in-Some c = told_found c.args.text.now c.args.other.now c.given_by_comments.result _ c.given_by_comments.ensures c.in-Some.is

pub returns-in-None : goal.returns-in-None
returns-in-None c = none_found c.args.text.now c.args.other.now c.given_by_comments.result c.given_by_comments.ensures c.in-None.is
