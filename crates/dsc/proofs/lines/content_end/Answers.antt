use Rattle.std.proofs.Common.{sym, ◌∙◌}
use Rattle.dsc.proofs.LineSearches.{first_found, none_found}
use Rattle.dsc.proofs.lines.content_end.Goals as goal

pub returns-in-Some : goal.returns-in-Some
returns-in-Some c = first_found c.args.text.now c.in-Some.at c.next.new.self (sym c.memchr2_iter.ensures.value ∙ c.in-Some.ensures.steps)

pub returns-in-None : goal.returns-in-None
returns-in-None c = none_found c.args.text.now (sym c.memchr2_iter.ensures.value ∙ c.in-None.ensures.steps.0)
