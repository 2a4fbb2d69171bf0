use Rattle.std.proofs.Common.{◌∙◌}
use Rattle.rules.specs.Parts.{pages}
use Rattle.dsc.proofs.Cases.{if_ok}
use Rattle.papers.specs.Media.{contents}
use Rattle.papers.specs.Own.{medium_by}
use Rattle.papers.proofs.DocumentTells.{each_is_own, same_pages}
use Rattle.papers.proofs.finding.declared_papers.Goals as goal

pub returns : goal.returns
returns c =
    let text = c.text-text in
    let known = same_pages _ (medium_by (contents c.split_at.result.0.now)) c.document_or-other.result (pages c.args.document.now) c.in_ok-known.ensures in
    let own = each_is_own c.args.document.now text.result.now c.split_at.result.0.now c.header_len.result c.document_or-other.result c.args.home.now c.usual_in.result
    text.ensures.text text.ensures.units c.header_len.ensures.value c.split_at.ensures.front c.usual_in.ensures c.document_or-other.ensures in
    if_ok c.each_with.result (λ papers e. e ∙ known ∙ own) c.each_with.ensures
