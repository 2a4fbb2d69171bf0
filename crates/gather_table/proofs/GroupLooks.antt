-- A look at a group that finds none of its slots missing shows that the group may be closed.
use Rattle.std.proofs.Common.{◌≡◌, ℕ, ◌-◌, ◌^◌, Bool, true, not, List, [], ◌∷◌, ◌++◌, sym, ap, ◌∙◌, subst, arith, eq-eqb}
use Rattle.rules.specs.Sheets.{Layout}
use Rattle.gather_table.specs.Table.{TableState, group_size, in_group, HasGroup, all_below, bits, missing_in, start, IsClosable}
use Rattle.gather_table.specs.History.{Entry, LookGroup, after_history}
use Rattle.gather_table.specs.Shared.{SeatView}
use Rattle.gather_table.specs.Seating.{LookedMayBeClosed}
use Rattle.gather_table.proofs.Bits.{bits_not, full_bits}
use Rattle.gather_table.proofs.Calls.{legal_made}
use Rattle.gather_table.proofs.Histories.{AllFit_back, after_history_push}

none_lack : (f : ℕ → Bool) (n : ℕ) → 0 ≡ bits (λ k. not (f k)) n → all_below f n ≡ true
none_lack f n z = let b = bits_not f n in sym (full_bits f n) ∙ eq-eqb (bits f n) (2 ^ n - 1) (omega arith)

pub none_missing_in : (layout : Layout) (t : TableState) (s g : ℕ) → HasGroup layout s g → 0 ≡ missing_in layout t s g → IsClosable layout t s g
none_missing_in layout t s g has none = record { group = has; full = none_lack (in_group (t.marked s) g) (group_size layout s g) none }

pub looked_may_be_closed : LookedMayBeClosed
looked_may_be_closed old new s g m =
    let log : List Entry = old.front ++ m.between in
    let fits = (AllFit_back old.key (start old.key) log (LookGroup s g 0 ∷ []) (legal_made old new (LookGroup s g 0) m)).0 in
    subst (λ (t : TableState). IsClosable old.key t s g)
    (sym (ap (λ (z : SeatView). after_history old.key z.front) m.grown ∙ after_history_push old.key log (LookGroup s g 0)))
    (none_missing_in old.key (after_history old.key log) s g fits.0 fits.1)
