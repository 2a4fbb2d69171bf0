use Rattle.std.proofs.Common.{◌≡◌, map, take}
use Rattle.rules.specs.Parts.{pages}
use Rattle.papers.specs.Comments.{page_head}
use Rattle.papers.specs.Own.{page_or}
use Rattle.papers.specs.Named.{known_paper}
use Rattle.papers.proofs.finding.each_with.Given as goal

abbrev pub invariant-loop-page : goal.invariant-loop-page
invariant-loop-page l = l.papers.items ≡ map (λ page. page_or (known_paper l.known) (page_head page) l.other) (take l.page (pages l.document))
