use Rattle.std.proofs.Common.{◌∙◌}
use Rattle.row_sheets.specs.Shapes.{filling}
use Rattle.row_sheets.proofs.Places.{cells_fit}
use Rattle.row_sheets.proofs.Zines.{shaped_so}
use Rattle.row_sheets.proofs.fill.RowFilling.fill.Goals as goal

pub returns-clause-made : goal.returns-clause-made
returns-clause-made c =
    let f = filling c.args.self.now.setting.now c.args.self.now.papers.now in
    c.in_ok-made.ensures.made
    ∙ shaped_so c.args.scheme f c.args.self.now.row.now c.args.leaves c.in_ok-sheets.sheets c.in_ok-cells.cells c.in_ok-cells.ensures.value c.in_ok-sheets.ensures.value

pub returns-clause-fits : goal.returns-clause-fits
returns-clause-fits c =
    let f = filling c.args.self.now.setting.now c.args.self.now.papers.now in
    cells_fit c.args.scheme f c.args.leaves c.in_ok-cells.cells c.in_ok-sheets.sheets c.args.self.now.row.now
    c.in_ok-cells.ensures.some c.in_ok-cells.ensures.value c.in_ok-sheets.ensures.value c.in_ok-made.ensures.fits
