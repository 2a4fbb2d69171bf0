use Rattle.std.proofs.Common.{[], refl, ◌∙◌}
use Rattle.dsc.proofs.Preambles.{undressed}
use Rattle.dsc.proofs.document.Document.preamble_text.Goals as goal

pub returns : goal.returns
returns c = record { text = c.in_ok-text.ensures.text [] refl ∙ undressed c.args.sheets c.args.self.now }
