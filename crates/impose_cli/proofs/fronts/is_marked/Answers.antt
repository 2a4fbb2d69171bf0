use Rattle.std.proofs.Common.{◌∙◌, ap, is_some}
use Rattle.memchr.proofs.lemmas.ValueLemmas.{FindsNeedle-value}
use Rattle.impose_cli.specs.Fronts.{mark}
use Rattle.impose_cli.proofs.fronts.is_marked.Goals as goal

pub returns : goal.returns
returns c = c.is_some.ensures ∙ ap is_some (FindsNeedle-value c.args.front.now mark c.find.result c.find.ensures)
