use Rattle.std.proofs.Common.{arith, ◌≡◌, ◌∙◌, ap, sym}
use Rattle.rules.specs.Numbers.{decimals_of}
use Rattle.lengths.proofs.WholeNumbers.{no_decimals}
use Rattle.lengths.proofs.print.decimals_of_part.Goals as goal

pub returns-then-part-eq0 : goal.returns-then-part-eq0
returns-then-part-eq0 c =
    let none : c.args.part ≡ 0 = omega (arith, c.if-part-eq0.true) in
    record { value = sym (ap (decimals_of c.args.places) none ∙ no_decimals c.args.places c.requires.places); short = omega arith }
