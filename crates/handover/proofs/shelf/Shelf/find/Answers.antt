use Rattle.std.proofs.Common.{rules, sym, ap}
use Rattle.handover.specs.declared.entry.Entry.{Entry}
use Rattle.handover.proofs.shelf.Shelf.find.Goals as goal

pub returns-clause-shown : goal.returns-clause-shown
returns-clause-shown c = (
  search rules,
  c.in_ok-token.ensures.1,
  ap (λ (entry : Entry). entry.page) (sym (c.in_ok-entry.ensures.found (sym c.in_ok-token.ensures.1))),
)

pub returns-clause-mark : goal.returns-clause-mark
returns-clause-mark c = ap (λ (entry : Entry). entry.is_own) (c.in_ok-entry.ensures.found (sym c.in_ok-token.ensures.1))
