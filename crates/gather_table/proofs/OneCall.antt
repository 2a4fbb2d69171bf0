-- One call, as a step of the rule.
use Rattle.std.proofs.Common.{◌≡◌, ℕ, ◌<◌, List, [], ◌∷◌, ◌++◌, set, sym, subst}
use mathlib.Core.Option.{some}
use lib.ListN.{get_elem?}
use Rattle.atomic_table.specs.Table.{State}
use Rattle.rules.specs.Sheets.{Layout}
use Rattle.gather_table.specs.History.{Entry, after, CallFits, after_history, IsLegal}
use Rattle.gather_table.specs.Rule.{WordsHold, IsTableHistory, SeatSight}
use Rattle.gather_table.specs.Steps.{AddsCall}
use Rattle.gather_table.proofs.Histories.{after_history_push, IsLegal_push}
use Rattle.rules.specs.Seats.{added}

-- the call e after the history log, by the seat id
pub adds : (layout : Layout) (s : State Unit SeatSight) (log : List Entry) (id : ℕ) (v : SeatSight) (e : Entry) (words : List ℕ) (k : IsTableHistory layout s log)
    → get_elem? s.views id ≡ some v → 0 < v.share → CallFits layout (after_history layout log) e → WordsHold layout (after (after_history layout log) e) words
    → IsTableHistory layout (record { words = words; homes = s.homes; views = set s.views id (added v log e) }) (log ++ e ∷ []) × AddsCall v e (added v log e)
adds layout s log id v e words k at pos fits holds =
    let legal = IsLegal_push layout log e k.legal fits in
    let now = after_history_push layout log e in
    let step = Rattle.rules.proofs.SeatShares.adds IsLegal layout log s.views id v e k.seats at pos legal in
    (record { legal = legal; words = subst (λ t. WordsHold layout t words) (sym now) holds; seats = step.0 }, step.1)
