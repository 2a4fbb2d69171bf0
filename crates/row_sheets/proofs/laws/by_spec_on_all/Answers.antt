use Rattle.std.proofs.Common.{ap, sym}
use Rattle.rules.specs.Made.{made_of}
use Rattle.rules.proofs.Rows.{sheets_of_all}
use Rattle.row_sheets.proofs.laws.by_spec_on_all.Goals as goal

pub returns : goal.returns
returns c = λ sides spec paper n. ap (made_of paper) (sym (sheets_of_all sides spec n))
