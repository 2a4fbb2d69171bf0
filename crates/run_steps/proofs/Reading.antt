-- What only reads adds nothing.
use Rattle.std.proofs.Common.{◌≡◌, ℕ, List, [], ◌∷◌, ◌++◌, refl, subst, arith}
use Rattle.rules.specs.Sheets.{Layout}
use Rattle.rules.specs.Seats.{total}
use Rattle.rules.proofs.SeatTotals.{total-append}
use Rattle.gather_table.specs.History.{Look, IsComplete}
use Rattle.std.specs.Prelude.{if◌then◌else◌}
use Rattle.gather_table.specs.Laws.{fills, closes, fillings, closings}
use Rattle.gather_table.specs.Shared.{TableView, SeatView, IsSeatOf, MadeCall}
use Rattle.gather_table.proofs.Calls.{makes-append, look_shows_seat}
use Rattle.run_steps.specs.Duty.{Duty, worth}
use Rattle.run_steps.specs.LookUps.{look_ups, LooksUp, LooksUpUntil}
use Rattle.run_steps.specs.declared.imposition.ImposeError.{ImposeError}
use Rattle.run_steps.specs.declared.imposition.ImposeError.TheVariants.{NoMemory, NotShown}
use Rattle.run_steps.specs.Reading.{OnlyReads}
use Rattle.run_steps.proofs.LookUps.{still_seat}

-- a look, look-ups, and reads after reads
pub reads_look : (old new : SeatView) (s missing : ℕ) → MadeCall old (Look s missing) new → OnlyReads old new
reads_look old new s missing made =
    record {
      calls = Look s missing ∷ [];
      made = (new, made, refl);
      weightless = λ h. refl;
      closes_nothing = λ s g. (refl, refl);
    }

look_ups_weigh : (h : Duty → ℕ) (ps is : List ℕ) → total (worth h) (look_ups ps is) ≡ 0
look_ups_weigh h [] is = refl
look_ups_weigh h (p ∷ ps) [] = refl
look_ups_weigh h (p ∷ ps) (i ∷ is) = let r = look_ups_weigh h ps is in omega arith

look_ups_close : (s g : ℕ) (ps is : List ℕ) → (closings s g (look_ups ps is) ≡ 0) × (fillings s g (look_ups ps is) ≡ 0)
look_ups_close s g [] is = (refl, refl)
look_ups_close s g (p ∷ ps) [] = (refl, refl)
look_ups_close s g (p ∷ ps) (i ∷ is) = let r = look_ups_close s g ps is in (omega arith, omega arith)

pub reads_look_ups : (old new : SeatView) (ps : List ℕ) (n : ℕ) → LooksUp ps n old new → OnlyReads old new
reads_look_ups old new ps n looked =
    record {
      calls = look_ups ps looked.indexes;
      made = looked.made;
      weightless = λ h. look_ups_weigh h ps looked.indexes;
      closes_nothing = λ s g. look_ups_close s g ps looked.indexes;
    }

pub reads_until : (old new : SeatView) (ps : List ℕ) (e : ImposeError) → LooksUpUntil ps e old new → OnlyReads old new
reads_until old new ps NoMemory looked = reads_look_ups old new ps looked.0 looked.1
reads_until old new ps NotShown looked = reads_look_ups old new ps looked.0 looked.2

pub reads_both : (a b c : SeatView) → OnlyReads a b → OnlyReads b c → OnlyReads a c
reads_both a b c one two = record {
  calls = one.calls ++ two.calls;
  made = makes-append a b c one.calls two.calls one.made two.made;
  weightless = λ h. let x = one.weightless h in let y = two.weightless h in let both = total-append (worth h) one.calls two.calls in omega arith;
  closes_nothing = λ s g.
      let x = one.closes_nothing s g in let y = two.closes_nothing s g in
      let c = total-append (λ e. if closes s g e then 1 else 0) one.calls two.calls in
      let f = total-append (λ e. if fills s g e then 1 else 0) one.calls two.calls in
      (omega arith, omega arith);
}

pub seat_stays : (table : TableView) (old new : SeatView) → IsSeatOf table old → OnlyReads old new → IsSeatOf table new
seat_stays table old new of reads = still_seat table old new reads.calls of reads.made

-- a look that is answered 0
pub seen_complete : (table : TableView) (old new : SeatView) (s missing : ℕ) → IsSeatOf table old → MadeCall old (Look s missing) new → missing ≡ 0 → IsComplete table.layout new.front s
seen_complete table old new s missing of made zero_is =
    subst (λ (l : Layout). IsComplete l new.front s) of.1 (look_shows_seat old new s (subst (λ n. MadeCall old (Look s n) new) zero_is made))
