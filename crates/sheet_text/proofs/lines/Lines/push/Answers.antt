use Rattle.std.proofs.Common.{ap, sym, subst, [], ◌∷◌, ◌++◌, ◌≡◌, ◌∙◌}
use Rattle.rules.specs.Dress.{lines_text}
use Rattle.sheet_text.specs.LinesIn.{lines_in}
use Rattle.sheet_text.proofs.LineEnds.{line_more, text_more}
use Rattle.sheet_text.proofs.lines.Lines.push.Goals as goal

pub invariant_of-self : goal.invariant_of-self
invariant_of-self c =
    subst (λ t. lines_text (lines_in t) ≡ t) (sym c.in-Ok.ensures.appended) (text_more c.self.inside.text.items c.args.line.now c.self.invariant c.requires)

pub returns-in-Ok-clause-pushed : goal.returns-in-Ok-clause-pushed
returns-in-Ok-clause-pushed c =
    ap lines_in c.in-Ok.ensures.appended
    ∙ line_more c.self.inside.text.items c.args.line.now c.self.invariant c.requires
    ∙ ap (λ rows. rows ++ c.args.line.now ∷ []) c.self.view_is
