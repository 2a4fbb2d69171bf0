use Rattle.std.proofs.Common.{ap, sym, ◌∙◌}
use Rattle.std.specs.Prelude.{slice_get}
use Rattle.sheet_text.specs.Texts.{sheets_of}
use Rattle.sheet_text.proofs.TextsBehind.{has_sheet, below_parts}
use Rattle.sheet_text.proofs.texts.Texts.sheet.Goals as goal

pub returns : goal.returns
returns c =
    ap (λ xs. slice_get (sheets_of xs) c.args.nth) (sym c.self.view_is)
    ∙ has_sheet _ _ c.args.nth _ (below_parts _ _ _ c.args.nth c.self.view_is c.requires.nth) c.index.ensures
