use Rattle.std.proofs.Common.{◌∙◌, ap}
use Rattle.rules.specs.Parts.{bytes_of}
use Rattle.dsc.proofs.Slices.{text_whole}
use Rattle.dsc.proofs.document.Document.text.Goals as goal

pub returns-clause-text : goal.returns-clause-text
returns-clause-text c = text_whole c.self.inside.text.now c.self.invariant.is_cut ∙ ap bytes_of c.self.view_is
