use Rattle.std.proofs.Common.{◌∙◌, sym}
use Rattle.rows.proofs.Parted.{cut_at, not_cut}
use Rattle.rows.proofs.cutting.split_at_byte.Goals as goal

pub returns-in-Some-clause-parts : goal.returns-in-Some-clause-parts
returns-in-Some-clause-parts c =
    cut_at c.args.byte c.in-Some.at c.args.text.now _ c.split_at.result.1.now _ (sym c.first_at.ensures ∙ c.in-Some.is) c.split_at.ensures.front c.split_at.ensures.back c.split_at-in-Some.ensures.back

pub returns-in-None-clause-parts : goal.returns-in-None-clause-parts
returns-in-None-clause-parts c = not_cut c.args.byte c.args.text.now (sym c.first_at.ensures ∙ c.in-None.is)
