use Rattle.std.proofs.Common.{rules, ◌≡◌, arith, length}
use Rattle.rules.specs.Parts.{pages}
use Rattle.papers.proofs.KnownNames.{pages_kept}
use Rattle.papers.proofs.known_media.KnownMedia.named.Goals as goal

pub loop-page-preserved : goal.loop-page-preserved
loop-page-preserved c =
    pages_kept c.loop-page.known c.keep.new.self (pages c.args.document.now) c.loop-page.page c.page.result.now c.page.ensures.page
    c.in_ok-keep.ensures.kept c.in_ok-keep.ensures.still c.loop-page.invariant

pub returns : goal.returns
returns c =
    let last : c.loop-page.page ≡ length (pages c.args.document.now) = search rules in
    λ k less. c.loop-page.invariant k (omega (arith, less, last))
