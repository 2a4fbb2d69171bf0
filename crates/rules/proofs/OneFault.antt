-- A text has at most one answer: its result, or one fault.
use Rattle.std.proofs.Common.{arith, ◌≡◌, ℕ, List, refl, sym, ap, ◌∙◌, Option, Some, None, length, Bool, true, false, true≢false, inl, inr}
use Rattle.std.specs.Prelude.{◌<◌, ◌≤◌, ◌⊎◌, Ok, Err}
use Rattle.rules.specs.Specification.{WrittenSpec, IsSpec, Spec, settled}
use Rattle.rules.specs.Admissible.{Fault, TooLong, Syntax, TooLarge, ModuloZero, PageOutOfBlock, ScaleZero, Repeated, TooManySlots, TooManyGroups, fault_of, Takes, Refuses, OneAnswer}
use Rattle.rules.proofs.OneSpec.{one_reading}

-- the fault of a text that has a meaning
abbrev HasFault : ℕ → List ℕ → Fault → Type 0
HasFault most text fault = (length text ≤ 65_536) × (spec : WrittenSpec) × IsSpec text spec × (fault_of most spec ≡ Some fault)

same_some : (f g : Fault) → Some f ≡ Some g → f ≡ g
same_some f g e = cc

one_of_tree : (most : ℕ) (text : List ℕ) (f g : Fault) → HasFault most text f → HasFault most text g → f ≡ g
one_of_tree most text f g (n, a, h, e) (m, b, k, e') = same_some f g (sym e ∙ (ap (λ z. fault_of most z) (one_reading text a b h k) ∙ e'))

abbrev is_told : Option Fault → Bool
is_told None = false
is_told (Some f) = true

some_no_none : (f : Fault) → Some f ≡ None → ⊥
some_no_none f e = true≢false (ap is_told e)

-- what is taken has no fault
pub taken_not_refused : (most : ℕ) (text : List ℕ) (f : Fault) (a b : WrittenSpec) → IsSpec text a → fault_of most a ≡ None → IsSpec text b → fault_of most b ≡ Some f → ⊥
taken_not_refused most text f a b h e k e' = some_no_none f (sym e' ∙ (ap (λ z. fault_of most z) (one_reading text b a k h) ∙ e))

-- the three ways to be refused
abbrev IsLong : List ℕ → Fault → Type 0
IsLong text f = (f ≡ TooLong) × (65_536 < length text)

abbrev StandsForNothing : List ℕ → Fault → Type 0
StandsForNothing text f = (f ≡ Syntax) × (length text ≤ 65_536) × ((spec : WrittenSpec) → IsSpec text spec → ⊥)

ways : (most : ℕ) (text : List ℕ) (f : Fault) → Refuses most text f → IsLong text f ⊎ (StandsForNothing text f ⊎ HasFault most text f)
ways most text TooLong r = inl (refl, r)
ways most text Syntax r = inr (inl (refl, r.0, r.1))
ways most text TooLarge r = inr (inr r)
ways most text ModuloZero r = inr (inr r)
ways most text (PageOutOfBlock i) r = inr (inr r)
ways most text (ScaleZero i) r = inr (inr r)
ways most text (Repeated i) r = inr (inr r)
ways most text (TooManySlots g) r = inr (inr r)
ways most text TooManyGroups r = inr (inr r)

not_both : (n : ℕ) → 65_536 < n → n ≤ 65_536 → ⊥
not_both n l m = omega (arith, l, m)

one_fault : (most : ℕ) (text : List ℕ) (f g : Fault) → IsLong text f ⊎ (StandsForNothing text f ⊎ HasFault most text f) → IsLong text g ⊎ (StandsForNothing text g ⊎ HasFault most text g) → f ≡ g
one_fault most text f g (inl (e, l)) (inl (e', l')) = e ∙ sym e'
one_fault most text f g (inl (e, l)) (inr (inl (e', s, n))) = absurd (not_both (length text) l s)
one_fault most text f g (inl (e, l)) (inr (inr (s, b, k, e'))) = absurd (not_both (length text) l s)
one_fault most text f g (inr (inl (e, s, n))) (inl (e', l)) = absurd (not_both (length text) l s)
one_fault most text f g (inr (inl (e, s, n))) (inr (inl (e', s', n'))) = e ∙ sym e'
one_fault most text f g (inr (inl (e, s, n))) (inr (inr (s', b, k, e'))) = absurd (n b k)
one_fault most text f g (inr (inr (s, a, h, e))) (inl (e', l)) = absurd (not_both (length text) l s)
one_fault most text f g (inr (inr (s, a, h, e))) (inr (inl (e', s', n))) = absurd (n a h)
one_fault most text f g (inr (inr h)) (inr (inr k)) = one_of_tree most text f g h k

not_refused : (most : ℕ) (text : List ℕ) (spec : Spec) (f : Fault) → Takes most text spec → IsLong text f ⊎ (StandsForNothing text f ⊎ HasFault most text f) → ⊥
not_refused most text spec f (s, a, h, e, t) (inl (e', l)) = not_both (length text) l s
not_refused most text spec f (s, a, h, e, t) (inr (inl (e', s', n))) = n a h
not_refused most text spec f (s, a, h, e, t) (inr (inr (s', b, k, e'))) = taken_not_refused most text f a b h e k e'

pub one_answer : OneAnswer
one_answer most text (Ok x) (Ok y) (s, a, h, e, t) (s', b, k, e', t') = ap Ok (t ∙ (ap settled (one_reading text a b h k) ∙ sym t'))
one_answer most text (Ok x) (Err g) h r = absurd (not_refused most text x g h (ways most text g r))
one_answer most text (Err f) (Ok y) r h = absurd (not_refused most text y f h (ways most text f r))
one_answer most text (Err f) (Err g) r q = ap Err (one_fault most text f g (ways most text f r) (ways most text g q))
