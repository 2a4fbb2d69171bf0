-- Entries that a seat makes one after the other, each after what others made in the meantime.
use Rattle.std.proofs.Common.{◌≡◌, ℕ, suc, ◌<◌, List, [], ◌∷◌, ◌++◌, length, refl, sym, ap, ◌∙◌, subst, arith, append_assoc, append-nil, length-append}
use Rattle.std.specs.Prelude.{Some, slice_get}
use mathlib.Core.List.{IsPrefix}
use Rattle.rules.specs.Seats.{whole_share, occurrences}
use Rattle.rules.specs.SeatRules.{entries_at, StandAt}
use Rattle.rules.proofs.SeatFronts.{begins_further}
use Rattle.rules.proofs.SeatRules.{entries_added}

module _ {E : Type 0} where
  -- from a front and its own places to a later front and more places
  abbrev pub Runs : (share : ℕ) → List E → List ℕ → List E → List E → List ℕ → Type 0
  Runs share front own [] later more = (front ≡ later) × (own ≡ more)
  Runs share front own (e ∷ es) later more =
      (between : List E) × (share ≡ whole_share → between ≡ []) × ((x : ℕ) → 0 < occurrences x own → x < length front)
      × Runs share ((front ++ between) ++ e ∷ []) (own ++ length (front ++ between) ∷ []) es later more

  pub run_begins : (share : ℕ) (front : List E) (own : List ℕ) (es later : List E) (more : List ℕ) → Runs share front own es later more → IsPrefix front later
  run_begins share front own [] later more r = ([], append-nil front ∙ r.0)
  run_begins share front own (e ∷ es) later more r =
      let log : List E = front ++ r.0 in
      begins_further front (log ++ e ∷ []) later (r.0 ++ e ∷ [], sym (append_assoc front r.0 (e ∷ []))) (run_begins share (log ++ e ∷ []) (own ++ length log ∷ []) es later more r.3)

  -- the places of these entries
  abbrev pub run_places : (share : ℕ) (front : List E) (own : List ℕ) (es later : List E) (more : List ℕ) → Runs share front own es later more → List ℕ
  run_places share front own [] later more r = []
  run_places share front own (e ∷ es) later more r = length (front ++ r.0) ∷ run_places share ((front ++ r.0) ++ e ∷ []) (own ++ length (front ++ r.0) ∷ []) es later more r.3

  pub run_owns : (share : ℕ) (front : List E) (own : List ℕ) (es later : List E) (more : List ℕ) (r : Runs share front own es later more) → more ≡ own ++ run_places share front own es later more r
  run_owns share front own [] later more r = sym r.1 ∙ sym (append-nil own)
  run_owns share front own (e ∷ es) later more r =
      let log : List E = front ++ r.0 in
      run_owns share (log ++ e ∷ []) (own ++ length log ∷ []) es later more r.3
      ∙ append_assoc own (length log ∷ []) (run_places share (log ++ e ∷ []) (own ++ length log ∷ []) es later more r.3)

  pub last_there : (log more : List E) (e : E) → slice_get ((log ++ e ∷ []) ++ more) (length log) ≡ Some e
  last_there [] more e = refl
  last_there (x ∷ log) more e = last_there log more e

  pub run_stands : (share : ℕ) (front : List E) (own : List ℕ) (es later : List E) (more : List ℕ) (r : Runs share front own es later more) → StandAt later (length front) (run_places share front own es later more r) es
  run_stands share front own [] later more r = tt
  run_stands share front own (e ∷ es) later more r =
      let log : List E = front ++ r.0 in
      let places = run_places share (log ++ e ∷ []) (own ++ length log ∷ []) es later more r.3 in
      let seen = run_begins share (log ++ e ∷ []) (own ++ length log ∷ []) es later more r.3 in
      let len : length (log ++ e ∷ []) ≡ suc (length log) = omega (arith, length-append log (e ∷ [])) in (
        omega (arith, length-append front r.0),
        ap (λ (l : List E). slice_get l (length log)) (sym seen.1) ∙ last_there log seen.0 e,
        subst (λ (n : ℕ). StandAt later n places es) len (run_stands share (log ++ e ∷ []) (own ++ length log ∷ []) es later more r.3),
      )

  -- a seat with all shares makes them directly after its front, without others between them
  pub run_alone : (share : ℕ) (front : List E) (own : List ℕ) (es later : List E) (more : List ℕ) → Runs share front own es later more → share ≡ whole_share → later ≡ front ++ es
  run_alone share front own [] later more r whole = sym r.0 ∙ sym (append-nil front)
  run_alone share front own (e ∷ es) later more r whole =
      let log : List E = front ++ r.0 in
      let here : log ++ e ∷ [] ≡ front ++ e ∷ [] = ap (λ (l : List E). l ++ e ∷ []) (ap (λ (b : List E). front ++ b) (r.1 whole) ∙ append-nil front) in
      run_alone share (log ++ e ∷ []) (own ++ length log ∷ []) es later more r.3 whole ∙ ap (λ (l : List E). l ++ es) here ∙ append_assoc front (e ∷ []) es

  -- they are the seat's own entries, after those that it had
  pub run_entries : (share : ℕ) (front : List E) (own : List ℕ) (es later : List E) (more : List ℕ) → Runs share front own es later more → entries_at later more ≡ entries_at front own ++ es
  run_entries share front own [] later more r = (λ i. entries_at (sym r.0 i) (sym r.1 i)) ∙ sym (append-nil (entries_at front own))
  run_entries share front own (e ∷ es) later more r =
      let log : List E = front ++ r.0 in
      run_entries share (log ++ e ∷ []) (own ++ length log ∷ []) es later more r.3
      ∙ ap (λ (l : List E). l ++ es) (entries_added front r.0 own e r.2) ∙ append_assoc (entries_at front own) (e ∷ []) es
