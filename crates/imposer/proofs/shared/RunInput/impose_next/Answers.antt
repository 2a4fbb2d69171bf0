use Rattle.imposer.proofs.Held.{imposes_both}
use Rattle.imposer.proofs.shared.RunInput.impose_next.Goals as goal

pub returns-in_ok-batch-in-Sheet-clause-imposes : goal.returns-in_ok-batch-in-Sheet-clause-imposes
returns-in_ok-batch-in-Sheet-clause-imposes g c = imposes_both _ _ _ _ c.find_sheet.ensures.imposes c.in_ok-batch-in-Sheet.ensures.imposes
