use Rattle.std.proofs.Common.{arith, ap, sym, ◌∙◌, length}
use Rattle.dsc.proofs.Filtering.{without_lines, with_some_lines}
use Rattle.dsc.proofs.Reading.{none_of, some_of}
use Rattle.dsc.proofs.filters.drops_with.Goals as goal

pub returns-then-is_empty : goal.returns-then-is_empty
returns-then-is_empty c =
    λ rows is. without_lines rows (let none = none_of _ (sym c.is_empty.ensures ∙ c.if-is_empty.true) in let same = ap length is in omega (arith, none, same))

pub returns : goal.returns
returns c =
    λ rows is. with_some_lines rows (let some = some_of _ (sym c.is_empty.ensures ∙ c.if-is_empty.false) in let same = ap length is in omega (arith, some, same))
