-- When two placings are the same, and where one isn't.
use Rattle.std.proofs.Common.{rules, arith, Bool, true, false, true≢false, ◌&&◌, ◌==◌, ◌≡◌, ◌≢◌, ◌↔◌, ◌∙◌, ap, sym, subst, refl, ℕ, ◌+◌, ◌<◌, ◌≤◌, List, Option, Some, Decides, IsTrue, slice_get, ⊎_elim, eq-or-lt_of_le}
use Rattle.std.specs.Prelude.{ℤ}
use Rattle.std.specs.Ordering.{int_eq}
use Rattle.std.proofs.lemmas.Bool.Decides.{Decides-eqb, Decides-int_eq}
use mathlib.Core.Bool.{beq}
use denote.Enum.Bare.{sameb, same_true, true_same}
use Rattle.lengths.specs.contracts.unit.Unit.{the_type as units}
use Rattle.lengths.specs.declared.unit.Unit.{Unit}
use Rattle.pagespec.specs.declared.item.Item.{Item}
use Rattle.pagespec.specs.declared.item.Measure.{Measure}
use Rattle.pagespec.specs.contracts.item.Turn.{the_type as turns}
use Rattle.rules.specs.Papers.{Paper}
use Rattle.sheet_plan.specs.declared.made.Placing.{Placing}

-- ---- each part by its test

both : {P Q : Type 0} (s t : Bool) → Decides s P → Decides t Q → Decides (s && t) (P × Q)
both true t p q = (λ h. (p.0 refl, q.0 h), λ h. q.1 h.1)
both false t p q = (λ h. absurd (true≢false (sym h)), λ h. absurd (true≢false (sym (p.1 h.0))))

of_parts : {P Q : Type 0} (t : Bool) → Decides t P → (P → Q) → (Q → P) → Decides t Q
of_parts t d f g = (λ h. f (d.0 h), λ q. d.1 (g q))

flags : (a b : Bool) → Decides (beq a b) (a ≡ b)
flags true true = (λ e. refl, λ e. refl)
flags true false = (λ e. sym e, λ e. sym e)
flags false true = (λ e. e, λ e. e)
flags false false = (λ e. refl, λ e. refl)

abbrev measure_test : Measure → Measure → Bool
measure_test a b = int_eq a.number b.number && sameb units a.unit b.unit

measures : (a b : Measure) → Decides (measure_test a b) (a ≡ b)
measures a b =
    of_parts (measure_test a b)
    (both (int_eq a.number b.number) (sameb units a.unit b.unit) (Decides-int_eq a.number b.number) (same_true units (search rules) a.unit b.unit, true_same units a.unit b.unit))
    (λ h. ap (λ (n : ℤ). record { number = n; unit = a.unit }) h.0 ∙ ap (λ (u : Unit). record { number = b.number; unit = u }) h.1)
    (λ e. (ap (λ (m : Measure). m.number) e, ap (λ (m : Measure). m.unit) e))

abbrev item_test : Item → Item → Bool
item_test a b =
    (a.page == b.page) && (beq a.from_end b.from_end && (sameb turns a.turn b.turn && (int_eq a.scale b.scale && (measure_test a.offset.0 b.offset.0 && measure_test a.offset.1 b.offset.1))))

abbrev AreItems : Item → Item → Type 0
AreItems a b = (a.page ≡ b.page) × ((a.from_end ≡ b.from_end) × ((a.turn ≡ b.turn) × ((a.scale ≡ b.scale) × ((a.offset.0 ≡ b.offset.0) × (a.offset.1 ≡ b.offset.1)))))

items_are : (a b : Item) → AreItems a b → a ≡ b
items_are a b h i = record { page = h.0 i; from_end = h.1.0 i; turn = h.1.1.0 i; scale = h.1.1.1.0 i; offset = (h.1.1.1.1.0 i, h.1.1.1.1.1 i) }

items : (a b : Item) → Decides (item_test a b) (a ≡ b)
items a b =
    of_parts (item_test a b)
    (both _ _ (Decides-eqb a.page b.page)
    (both _ _ (flags a.from_end b.from_end)
    (both _ _ (same_true turns (search rules) a.turn b.turn, true_same turns a.turn b.turn)
    (both _ _ (Decides-int_eq a.scale b.scale)
    (both _ _ (measures a.offset.0 b.offset.0) (measures a.offset.1 b.offset.1))))))
    (items_are a b)
    (λ e. (ap (λ (x : Item). x.page) e, (ap (λ (x : Item). x.from_end) e, (ap (λ (x : Item). x.turn) e, (ap (λ (x : Item). x.scale) e, (ap (λ (x : Item). x.offset.0) e, ap (λ (x : Item). x.offset.1) e))))))

abbrev paper_test : Paper → Paper → Bool
paper_test p q = int_eq p.width q.width && int_eq p.height q.height

papers : (p q : Paper) → Decides (paper_test p q) (p ≡ q)
papers p q =
    of_parts (paper_test p q) (both _ _ (Decides-int_eq p.width q.width) (Decides-int_eq p.height q.height))
    (λ h. λ i. record { width = h.0 i; height = h.1 i })
    (λ e. (ap (λ (x : Paper). x.width) e, ap (λ (x : Paper). x.height) e))

-- two placings by the tests of all their parts
pub placings : (a b : Placing) (t : Bool) → t ≡ (item_test a.item b.item && paper_test a.paper b.paper) → IsTrue t ↔ a ≡ b
placings a b t is =
    let d = of_parts {Q = a ≡ b} (item_test a.item b.item && paper_test a.paper b.paper) (both _ _ (items a.item b.item) (papers a.paper b.paper))
    (λ h. λ i. record { item = h.0 i; paper = h.1 i })
    (λ e. (ap (λ (x : Placing). x.item) e, ap (λ (x : Placing). x.paper) e)) in
    (λ h. d.0 (sym is ∙ h), λ e. is ∙ d.1 e)

-- ---- where a placing isn't

-- not at a place that isn't that of it
pub not_at : {P : Type 0} (t : Bool) (o : Option P) (x : P) → (IsTrue t ↔ o ≡ Some x) → t ≡ false → o ≢ Some x
not_at true o x is off e = true≢false off
not_at false o x is off e = true≢false (sym (is.1 e))

-- one place more
pub none_more : {P : Type 0} (xs : List P) (x : P) (n : ℕ) → ((k : ℕ) → k < n → slice_get xs k ≢ Some x) → slice_get xs n ≢ Some x
    → (k : ℕ) → k < n + 1 → slice_get xs k ≢ Some x
none_more xs x n before here k lt e =
    let le : k ≤ n = omega (arith, lt) in
    ⊎_elim (λ same. here (subst (λ i. slice_get xs i ≡ Some x) same e)) (λ less. before k less e) (eq-or-lt_of_le le)
