use Rattle.std.proofs.Common.{◌≡◌, refl, ap, ◌∙◌}
use Rattle.rules.specs.Parts.{bytes_of}
use Rattle.dsc.proofs.Slices.{text_whole}
use Rattle.dsc.proofs.document.Document.into_parts.Goals as goal

pub returns : goal.returns
returns c =
    let whole : c.self.inside.text.now ≡ bytes_of c.args.self = text_whole c.self.inside.text.now c.self.invariant.is_cut ∙ ap bytes_of c.self.view_is in
    record { parts = rw (← whole) (record { parts = c.self.invariant; len = refl }) }
