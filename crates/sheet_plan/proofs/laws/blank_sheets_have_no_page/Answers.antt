use Rattle.sheet_plan.proofs.Exact.{blank_exact}
use Rattle.sheet_plan.proofs.laws.blank_sheets_have_no_page.Goals as goal

pub returns : goal.returns
returns c = blank_exact
