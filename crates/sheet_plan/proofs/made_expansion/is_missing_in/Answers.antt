use Rattle.std.proofs.Common.{ap, sym, ◌∙◌}
use Rattle.std.proofs.lemmas.Option.{same_Some}
use Rattle.rules.specs.MadePlans.{lacks_page}
use Rattle.sheet_plan.proofs.made_expansion.is_missing_in.Goals as goal

pub returns-in-Some : goal.returns-in-Some
returns-in-Some c = λ it at. ap (lacks_page c.args.pages) (same_Some _ it (sym c.in-Some.ensures ∙ at))

pub returns-in-None : goal.returns-in-None
returns-in-None c = λ it at. ap (lacks_page c.args.pages) (same_Some _ it (sym c.in-None.ensures ∙ at))
