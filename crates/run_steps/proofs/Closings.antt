-- How often the groups of wide sheets are filled, and closed.
use Rattle.std.proofs.Common.{◌≡◌, ℕ, zero, suc, ◌+◌, ◌*◌, ◌<◌, ◌==◌, Bool, true, false, true≢false, List, [], ◌∷◌}
use Rattle.std.proofs.Common.{refl, ap, sym, subst, arith}
use Rattle.std.proofs.lemmas.Bool.{eqb-true}
use Rattle.rules.specs.Sheets.{Layout}
use Rattle.gather_table.specs.Table.{TableState, slots, slots_on, group_size, in_group, HasGroup, is_full, is_blank_slot}
use Rattle.gather_table.specs.Table.{start}
use Rattle.gather_table.specs.History.{Entry, Publish, Mark, Look, PageAt, CloseGroup, LookGroup}
use Rattle.gather_table.specs.History.{CallFits, AllCallsFit, IsLegal, after, after_history}
use Rattle.gather_table.specs.Laws.{closes, closings, fillings}
use Rattle.gather_table.proofs.Groups.{fill_counts}
use Rattle.gather_table.proofs.Legal.{digit, digit_le, and_true, all_of}
use Rattle.gather_table.proofs.Widths.{in_sheet}

-- a group with a page in it, of a sheet whose slots are all marked, was filled once
pub filled_once : (layout : Layout) (log : List Entry) (s g : ℕ) → IsLegal layout log → HasGroup layout s g
    → is_full layout s g (is_blank_slot (slots layout s)) ≡ false
    → ((k : ℕ) → k < slots_on layout s → (after_history layout log).marked s k ≡ true)
    → fillings s g log ≡ 1
filled_once layout log s g legal has needed marked =
    let at_end = (after_history layout log).marked s in
    let c = fill_counts layout (start layout) log s g has.wide legal in
    let none : digit (is_full layout s g (is_blank_slot (slots layout s))) ≡ 0 = ap digit needed in
    let full : digit (is_full layout s g at_end) ≡ 1 =
    ap digit (all_of (in_group at_end g) (group_size layout s g)
    (λ j low. marked (64 * g + j) (in_sheet layout s g j low))) in
    omega arith

-- a group of blank slots alone never is
never_filled : (layout : Layout) (log : List Entry) (s g : ℕ) → IsLegal layout log → HasGroup layout s g
    → is_full layout s g (is_blank_slot (slots layout s)) ≡ true → fillings s g log ≡ 0
never_filled layout log s g legal has blank =
    let c = fill_counts layout (start layout) log s g has.wide legal in
    let born : digit (is_full layout s g (is_blank_slot (slots layout s))) ≡ 1 = ap digit blank in
    let few = digit_le (is_full layout s g ((after_history layout log).marked s)) in
    omega arith

-- a group that is closed is one of its sheet
one_has : (layout : Layout) (t : TableState) (e : Entry) (s g : ℕ) → CallFits layout t e → closes s g e ≡ true
    → HasGroup layout s g
one_has layout t (Publish p i r) s g f is = absurd (true≢false (sym is))
one_has layout t (Mark r k q) s g f is = absurd (true≢false (sym is))
one_has layout t (Look r m) s g f is = absurd (true≢false (sym is))
one_has layout t (PageAt p o) s g f is = absurd (true≢false (sym is))
one_has layout t (LookGroup r j m) s g f is = absurd (true≢false (sym is))
one_has layout t (CloseGroup r j c) s g f is =
    let same = and_true (j == g) (r == s) is in
    subst (λ (z : ℕ). HasGroup layout z g) (eqb-true r s same.1)
    (subst (λ (z : ℕ). HasGroup layout r z) (eqb-true j g same.0) f.0.group)

closed_has : (layout : Layout) (t : TableState) (es : List Entry) (s g : ℕ) → AllCallsFit layout t es → 0 < closings s g es
    → HasGroup layout s g
closed_has layout t [] s g f some = absurd (omega arith)
closed_has layout t (e ∷ es) s g f some =
    two (closes s g e) refl (λ more. closed_has layout (after t e) es s g f.1 more)
  where
    two : (b : Bool) → closes s g e ≡ b → (0 < closings s g es → HasGroup layout s g) → HasGroup layout s g
    two true is rest = one_has layout t e s g f.0 is
    two false is rest = let none : digit (closes s g e) ≡ 0 = ap digit is in rest (omega arith)

-- where groups are closed as often as they are filled, no others are closed
pub never_closed : (layout : Layout) (log : List Entry) (s g : ℕ) → IsLegal layout log
    → closings s g log ≡ fillings s g log
    → (HasGroup layout s g → is_full layout s g (is_blank_slot (slots layout s)) ≡ true) → closings s g log ≡ 0
never_closed layout log s g legal closed blank = two (closings s g log) refl
  where
    two : (n : ℕ) → closings s g log ≡ n → closings s g log ≡ 0
    two zero none = none
    two (suc n) some =
        let has = closed_has layout (start layout) log s g legal (omega arith) in
        let none = never_filled layout log s g legal has (blank has) in
        omega arith
