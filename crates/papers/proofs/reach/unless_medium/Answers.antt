use Rattle.std.proofs.Common.{ap, option_map}
use Rattle.dsc.specs.Fields.{fields_in}
use Rattle.papers.proofs.PageBoxes.{medium_named, no_medium}
use Rattle.papers.proofs.reach.unless_medium.Goals as goal

pub returns-in-Some : goal.returns-in-Some
returns-in-Some c = medium_named (option_map (λ v. fields_in v.now) c.args.other) _ _ _ c.value_in_head.ensures.fields (ap (option_map (λ v. fields_in v.now)) c.in-Some.is)

pub returns-in-None : goal.returns-in-None
returns-in-None c = no_medium (option_map (λ v. fields_in v.now) c.args.other) _ _ c.value_in_head.ensures.fields (ap (option_map (λ v. fields_in v.now)) c.in-None.is)
