use Rattle.std.proofs.Common.{◌∙◌}
use Rattle.rules.specs.Parts.{bytes_of}
use Rattle.dsc.proofs.Cases.{if_ok}
use Rattle.papers.proofs.DocumentTells.{asked_for}
use Rattle.papers.proofs.finding.page_papers.Goals as goal

pub returns-in-Some : goal.returns-in-Some
returns-in-Some c =
    if_ok c.pages_of_one_paper.result (λ papers e. e ∙ asked_for c.args.asked _ c.args.home.now (bytes_of c.args.document.now) c.args.document.now _ c.pages.ensures.count c.in-Some.is)
    c.pages_of_one_paper.ensures
