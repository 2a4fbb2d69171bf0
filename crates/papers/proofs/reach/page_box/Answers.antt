use Rattle.std.proofs.Common.{rules, ◌≡◌, ◌∙◌, ap, option_map}
use Rattle.std.specs.Prelude.{option_and_then}
use Rattle.dsc.specs.Fields.{fields_in}
use Rattle.papers.specs.Media.{edges_of}
use Rattle.papers.proofs.PageBoxes.{no_box, own_box}
use Rattle.papers.proofs.reach.page_box.Goals as goal

pub returns-in-Some : goal.returns-in-Some
returns-in-Some c =
    c.edges_of.ensures ∙ own_box c.args.page.now c.after_first_line-head.result.now (option_map (λ v. fields_in v.now) c.args.other) _ _ c.after_first_line-head.ensures
    c.value_in_head.ensures.fields (ap (option_map (λ v. fields_in v.now)) c.in-Some.is)

pub returns-in-None : goal.returns-in-None
returns-in-None c =
    let boxed : c.and_then.result ≡ option_and_then edges_of (option_map (λ v. fields_in v.now) c.unless_medium.result) = search rules in
    boxed ∙ no_box c.args.page.now c.after_first_line-head.result.now (option_map (λ v. fields_in v.now) c.args.other) _ _ c.after_first_line-head.ensures
    c.value_in_head.ensures.fields (ap (option_map (λ v. fields_in v.now)) c.in-None.is) c.unless_medium.ensures
