use Rattle.std.proofs.Common.{refl}
use Rattle.std.specs.Fmt.{digits}
use Rattle.paper_names.specs.Names.{papers}
use Rattle.impose_words.proofs.options.papers_text.Goals as goal

pub returns : goal.returns
unfolding digits papers
returns c = refl
