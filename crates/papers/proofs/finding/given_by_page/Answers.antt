use Rattle.papers.specs.Named.{known_paper}
use Rattle.papers.proofs.PageTells.{by_box, by_medium}
use Rattle.papers.proofs.finding.given_by_page.Goals as goal

pub returns-in-Some : goal.returns-in-Some
returns-in-Some c =
    by_medium (known_paper c.args.known.now) c.args.other.now c.args.page.now c.after_first_line-head.result.now c.in_ok-named.named _ c.after_first_line-head.ensures c.in_ok-named.ensures
    c.in-Some.is

pub returns-in-None : goal.returns-in-None
returns-in-None c =
    by_box (known_paper c.args.known.now) c.args.other.now c.args.page.now c.after_first_line-head.result.now c.in_ok-named.named c.boxed_paper.result c.after_first_line-head.ensures
    c.in_ok-named.ensures c.in-None.is c.boxed_paper.ensures
