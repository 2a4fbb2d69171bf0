use Rattle.sheet_text.proofs.sheet.append_placed.Goals as goal
use Rattle.sheet_text.proofs.Slots.{placed_is}

pub returns : goal.returns
returns c = placed_is _ _ _ _ _ _ c.in_ok-append.ensures c.in_ok-append_borrowed.ensures.appended c.in_ok-append_closing.ensures
