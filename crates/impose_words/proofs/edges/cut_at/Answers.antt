use Rattle.std.proofs.lemmas.Str.Pattern.{split_once_first}
use Rattle.impose_words.proofs.Cutting.{cut_is}
use Rattle.impose_words.proofs.edges.cut_at.Goals as goal

pub returns : goal.returns
returns c = cut_is c.args.at c.args.text.now c.split_once.result (split_once_first c.args.at c.args.text.now c.split_once.result c.split_once.ensures.cases c.requires)
