use Rattle.std.proofs.Common.{arith, [], ◌∷◌, sym, ap, ◌∙◌}
use Rattle.std.specs.Prelude.{Some, None}
use Rattle.std.proofs.lemmas.Bool.Decides.{Decides-eqb}
use Rattle.std.proofs.lemmas.Slice.Eq.{strip_suffix_is}
use Rattle.rules.specs.Numbers.{without_last_zeros}
use Rattle.lengths.proofs.LastZeros.{without_last_zeros-zero, without_last_zeros-same}
use Rattle.lengths.proofs.print.strip_zeros.Goals as goal

pub loop-front-preserved : goal.loop-front-preserved
loop-front-preserved c =
    let split = strip_suffix_is Decides-eqb c.loop-front.rest.now (48 ∷ []) (Some c.in-Some.front) c.in-Some.ensures.cases in
    record { same = sym (without_last_zeros-zero c.in-Some.front.now) ∙ ap without_last_zeros (sym split) ∙ c.loop-front.invariant.same; no_longer = omega (arith, c.in-Some.ensures.cases, c.loop-front.invariant.no_longer) }

pub returns-clause-value : goal.returns-clause-value
returns-clause-value c =
    let none = strip_suffix_is Decides-eqb c.loop-front.rest.now (48 ∷ []) None c.in_default.ensures.cases in
    sym (without_last_zeros-same c.loop-front.rest.now none) ∙ c.loop-front.invariant.same
