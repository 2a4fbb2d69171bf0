use Rattle.std.specs.Prelude.{Some, codes, not}
use Rattle.std.specs.Option.{option_eq}
use Rattle.std.proofs.Common.{nat_eq, sym, ap, ◌∙◌}
use Rattle.std.proofs.lemmas.Bool.{false≢true}
use Rattle.dsc.proofs.Headings.{data_found, binary_found, none_found, unheaded}
use Rattle.dsc.proofs.Letters.{other_start}
use Rattle.dsc.proofs.units.data_heading.Goals as goal

pub returns-in-Some : goal.returns-in-Some
returns-in-Some c = let w = c.in-Some.ensures.cases in data_found c.args.content.now c.in-Some.after.now w.0 w.1

pub returns-in-Some-strip_prefix : goal.returns-in-Some-strip_prefix
returns-in-Some-strip_prefix c = let w = c.in-Some-strip_prefix.ensures.cases in binary_found c.args.content.now c.in-Some-strip_prefix.after.now c.in_default.ensures.cases w.0 w.1

pub returns-in-None : goal.returns-in-None
returns-in-None c = none_found c.args.content.now c.in_default.ensures.cases c.in-None.ensures.cases

pub returns-then-ne : goal.returns-then-ne
returns-then-ne c =
    unheaded c.args.content.now
    (other_start c.args.content.now (codes "egin") 66 (λ e. false≢true (sym (c.if-ne.ensures ∙ ap (λ letter. not (option_eq nat_eq letter (Some 66))) (c.comment_letter.ensures ∙ e)))))
