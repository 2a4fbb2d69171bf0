use Rattle.imposer.proofs.Held.{imposes_both}
use Rattle.imposer.proofs.shared.RunInput.impose_more.Goals as goal

pub returns-in_ok-impose_into-in-Sheet-clause-imposes : goal.returns-in_ok-impose_into-in-Sheet-clause-imposes
returns-in_ok-impose_into-in-Sheet-clause-imposes g c = imposes_both _ _ _ _ c.find_sheet.ensures.imposes c.in_ok-impose_into-in-Sheet.ensures.imposes
