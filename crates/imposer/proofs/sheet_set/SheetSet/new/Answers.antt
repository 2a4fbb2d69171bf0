use Rattle.imposer.proofs.Counted.{none_yet}
use Rattle.imposer.proofs.sheet_set.SheetSet.new.Goals as goal

pub invariant_of-result : goal.invariant_of-result
invariant_of-result c = rw c.new.ensures.items none_yet
