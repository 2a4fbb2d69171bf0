-- A queue with room for all puts of a gathering.
use Rattle.std.proofs.Common.{◌≡◌, ℕ, zero, suc, ◌*◌, ◌≤◌, length, refl, sym, subst, arith}
use Rattle.std.specs.Prelude.{Result, Ok, Err, IfOk}
use Rattle.rules.specs.Sheets.{Plan, Layout, layout}
use Rattle.std.proofs.lemmas.List.{length-map}
use Rattle.handover.specs.Passes.{QueueView, PassView, puts_in, opening_pass_by_right}
use Rattle.run_steps.specs.Duty.{most_puts_of, most_puts_in_all}
use Rattle.imposer.specs.Gathering.{IsFreshPass}
use Rattle.imposer.proofs.Made.{born_few}

-- a preparer puts each sheet once at most
each_few : (layout : Layout) (count k : ℕ) → length layout.sheets ≤ 1_000_000 → most_puts_of layout count k ≤ k * 1_000_000
each_few layout count zero few = omega arith
each_few layout count (suc k) few = let rest = each_few layout count k few in omega (arith, rest, few)

-- so there are so few puts that a number of 32 bits counts them
pub all_few : (plan : Plan) (count : ℕ) → length plan.sheets ≤ 1_000_000 → count ≤ 16 → most_puts_in_all (layout plan) count ≤ 17_000_000
all_few plan count few some =
    let same : length (layout plan).sheets ≡ length plan.sheets = length-map _ _ in
    let puts = each_few (layout plan) count count (omega (arith, same, few)) in
    let blank = born_few plan in
    omega (arith, puts, blank, few, some)

-- what a queue by right of this capacity has room for
pub has_room : {E : Type 0} (made : Result (QueueView × PassView) E) (capacity n : ℕ) → IfOk made (λ m. m.0.capacity ≡ capacity)
    → IfOk made (λ m. m.1 ≡ opening_pass_by_right m.0) → n ≤ capacity → IfOk made (λ m. n ≤ puts_in m.1.room)
has_room (Ok m) capacity n same is le = subst (λ (p : PassView). n ≤ puts_in p.room) (sym is) (omega (arith, same, le))
has_room (Err e) capacity n same is le = tt

pub has_capacity : {E : Type 0} (made : Result (QueueView × PassView) E) (capacity n : ℕ) → IfOk made (λ m. m.0.capacity ≡ capacity)
    → n ≤ capacity → IfOk made (λ m. n ≤ m.0.capacity)
has_capacity (Ok m) capacity n same le = omega (arith, same, le)
has_capacity (Err e) capacity n same le = tt

pub is_fresh : {E : Type 0} (made : Result (QueueView × PassView) E) → IfOk made (λ m. m.1 ≡ opening_pass_by_right m.0)
    → IfOk made (λ m. IsFreshPass m.0 m.1)
is_fresh (Ok m) is = subst (λ (p : PassView). IsFreshPass m.0 p) (sym is) ((refl, refl), refl, refl)
is_fresh (Err e) is = tt
