use Rattle.std.proofs.Common.{◌∙◌, sym, eq-eqb, eqb-true}
use Rattle.imposer.proofs.Counted.{empty_is, count_of_empty}
use Rattle.imposer.proofs.sheet_set.SheetSet.is_empty.Goals as goal

pub returns : goal.returns
returns c = (
  λ zero. sym c.self.view_is ∙ empty_is c.self.inside.words.items c.self.inside.first c.self.inside.count c.self.invariant (eqb-true c.self.inside.count _ zero),
  λ empty. eq-eqb c.self.inside.count _ (count_of_empty c.self.inside.words.items c.self.inside.first c.self.inside.count c.self.invariant (c.self.view_is ∙ empty)),
)
