use Rattle.dsc.proofs.FirstUnits.{found_line}
use Rattle.dsc.proofs.units.first_unit.Goals as goal

pub returns-in-None-clause-unit : goal.returns-in-None-clause-unit
returns-in-None-clause-unit c =
    found_line c.args.text.now _ _ _ _ c.content_end-content_len.ensures c.split_at.ensures.front c.line_end_after-line_len.ensures.value c.split_at-in-None.ensures.front c.in-None.ensures
