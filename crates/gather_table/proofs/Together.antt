-- All seats of a table together, and how a table is left.
use Rattle.std.proofs.Common.{◌≡◌, ℕ, zero, suc, ◌≤◌, List, [], ◌∷◌, sym, ap, ◌∙◌, arith}
use Rattle.std.specs.Prelude.{if◌then◌else◌, slice_index}
use mathlib.Core.Option.{some, some-ne-none, some-injective}
use lib.ListN.{get_elem?}
use Rattle.atomic_table.specs.Table.{State}
use Rattle.rules.specs.Sheets.{Layout}
use Rattle.rules.specs.Seats.{total}
use Rattle.rules.specs.SeatRules.{entries_at}
use Rattle.rules.proofs.SeatsTogether.{seats_stand_together}
use Rattle.gather_table.specs.History.{Entry, IsLegal, after_history}
use Rattle.gather_table.specs.Laws.{completes, completings}
use Rattle.gather_table.specs.Rule.{SeatSight, HasTableHistory, StandTogether, WordShows, WordsHold}
use Rattle.gather_table.specs.Table.{group_size, in_group}
use Rattle.gather_table.specs.Words.{has_bit}
use Rattle.gather_table.proofs.Groups.{closed_full}
use Rattle.gather_table.proofs.Legal.{all_at, at_most_one}

pub stand_together : (layout : Layout) (s : State Unit SeatSight) → HasTableHistory layout s → StandTogether layout s.views
stand_together layout s kept =
    let all = seats_stand_together IsLegal layout kept.0 s.views kept.1.legal kept.1.seats in
    record {
      log = kept.0;
      together = all;
      completes_once = λ r.
          let part : total (λ (v : SeatSight). completings r (entries_at v.front v.own)) s.views ≤ completings r kept.0 = all.counted (λ e. if completes r e then 1 else 0) in
          let one : completings r kept.0 ≤ 1 = at_most_one layout kept.0 r kept.1.legal in
          omega arith;
    }

found_at : (words : List ℕ) (i x : ℕ) → get_elem? words i ≡ some x → slice_index words i ≡ x
found_at [] i x e = absurd (some-ne-none x (sym e))
found_at (w ∷ ws) zero x e = some-injective w x e
found_at (w ∷ ws) (suc i) x e = found_at ws i x e

pub word_tells : (layout : Layout) (log : List Entry) (words : List ℕ) (word found : ℕ) → IsLegal layout log → WordsHold layout (after_history layout log) words
    → get_elem? words word ≡ some found → WordShows layout log word found
word_tells layout log words word found legal hold is = record {
  page = λ p lt e. at p e ∙ hold.page p lt;
  slot = λ s k lt narrow small e. bit _ _ e ∙ hold.slot s k lt narrow small;
  group = λ s g j has small e. bit _ _ e ∙ hold.group s g j has small;
  closing = λ s g has e. bit _ _ e ∙ hold.closing s g has;
  closed_is_full = λ s g j has e set small. all_at (in_group ((after_history layout log).marked s) g) (group_size layout s g) j ((closed_full layout log s g legal has.sheet (sym (hold.closing s g has) ∙ sym (bit _ _ e) ∙ set)).full) small;
}
  where
    at : (p : ℕ) → word ≡ p → found ≡ slice_index words p
    at p e = sym (found_at words word found is) ∙ ap (slice_index words) e

    bit : (w j : ℕ) → word ≡ w → has_bit found j ≡ has_bit (slice_index words w) j
    bit w j e = ap (λ x. has_bit x j) (at w e)
