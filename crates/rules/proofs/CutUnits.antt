-- The units that a text is cut into are the units of the text.
use Rattle.std.proofs.Common.{arith, ◌≡◌, ℕ, zero, suc, ◌+◌, ◌<◌, ◌≤◌, List, [], ◌∷◌, Bool, true, false, not, refl, sym, subst, true≢false, ◌∙◌, ap, length, take, drop, length-drop}
use Rattle.std.specs.Prelude.{Result, Ok, Err, if◌then◌else◌, ◌==◌, ◌&&◌, nat_eq, cond}
use Rattle.std.specs.List.{starts_with, prefix_len}
use Rattle.rules.specs.Units.{TextUnit, BlockFault, FaultyBlock, is_end, content_of, end_len, line_len, first_unit, block, cut_from, at_byte, AreUnits, CutIsUnits, ◌>>=◌, begins_block, data_len, fields}

one_or_two : (t : Bool) → 0 < (if t then 2 else 1)
one_or_two true = omega arith
one_or_two false = omega arith

end_some : (b : ℕ) (bs : List ℕ) → 0 < end_len (b ∷ bs)
end_some b bs = one_or_two ((b == 13) && starts_with nat_eq bs (10 ∷ []))

taken_some : (m b : ℕ) (bs : List ℕ) → 0 < m → 0 < length (take m (b ∷ bs))
taken_some zero b bs e = omega (arith, e)
taken_some (suc m) b bs e = omega arith

plus_some : (a b : ℕ) → 0 < a → 0 < a + b
plus_some a b l = omega (arith, l)

none_before : (n : ℕ) → 0 < n → 0 < 0 + n
none_before n l = omega (arith, l)

line_of : (t : Bool) (k b : ℕ) (bs : List ℕ) → 0 < (let n = length (take (cond t (1 + k) 0) (b ∷ bs)) in n + end_len (drop n (b ∷ bs)))
line_of true k b bs = plus_some _ _ (taken_some (1 + k) b bs (omega arith))
line_of false k b bs = none_before (end_len (b ∷ bs)) (end_some b bs)

line_some : (b : ℕ) (bs : List ℕ) → 0 < line_len (b ∷ bs)
line_some b bs = line_of (not (is_end b)) (prefix_len (λ x. not (is_end x)) bs) b bs

abbrev pub is_good : {A E : Type 0} → Result A E → Bool
is_good (Ok x) = true
is_good (Err e) = false

pub apart_results : {A E : Type 0} (e : E) (x : A) → Err e ≡ Ok x → ⊥
apart_results e x f = true≢false (sym (ap is_good f))

pub same_ok : {A E : Type 0} (x y : A) → ◌≡◌ {A = Result A E} (Ok x) (Ok y) → x ≡ y
same_ok x y e = cc

unit_of : (t : Bool) (d : Result ℕ BlockFault) (b : ℕ) (bs content : List ℕ) (n : ℕ) (u : TextUnit) → 0 < n
    → (if t then block (b ∷ bs) n d else Ok (record { content = content; bytes = take n (b ∷ bs); is_block = false })) ≡ Ok u → 0 < length u.bytes
unit_of true (Ok k) b bs content n u l e = subst (λ z. 0 < length z.bytes) (same_ok _ u e) (taken_some (n + k) b bs (omega (arith, l)))
unit_of true (Err f) b bs content n u l e = absurd (apart_results f u e)
unit_of false d b bs content n u l e = subst (λ z. 0 < length z.bytes) (same_ok _ u e) (taken_some n b bs l)

pub unit_some : (b : ℕ) (bs : List ℕ) (u : TextUnit) → first_unit (b ∷ bs) ≡ Ok u → 0 < length u.bytes
unit_some b bs u e =
    let content = content_of (b ∷ bs) in
    unit_of (begins_block content) (data_len content (drop (line_len (b ∷ bs)) (b ∷ bs)) (fields content)) b bs content (line_len (b ∷ bs)) u (line_some b bs) e

pub shorter : (n k : ℕ) (text : List ℕ) → 0 < n → length text ≤ suc k → length (drop n text) ≤ k
shorter n k text l e = omega (arith, l, e, length-drop n text)

-- the rest, cut after the first unit
abbrev with_first : TextUnit → Result (List TextUnit) FaultyBlock → Result (List TextUnit) FaultyBlock
with_first u rest = rest >>= λ us. Ok (u ∷ us)

sound_rest : (u : TextUnit) (us : List TextUnit) (r : Result (List TextUnit) FaultyBlock) (P : List TextUnit → Type 0) → ((vs : List TextUnit) → r ≡ Ok vs → P (u ∷ vs)) → with_first u r ≡ Ok us → P us
sound_rest u us (Ok vs) P h e = subst P (same_ok (u ∷ vs) us e) (h vs refl)
sound_rest u us (Err f) P h e = absurd (apart_results f us e)

sound_step : (k at b : ℕ) (bs : List ℕ) (us : List TextUnit) (r : Result TextUnit BlockFault)
    → ((at : ℕ) (text : List ℕ) (vs : List TextUnit) → length text ≤ k → cut_from k at text ≡ Ok vs → AreUnits text vs)
    → length (b ∷ bs) ≤ suc k → first_unit (b ∷ bs) ≡ r
    → (at_byte at r >>= λ u. cut_from k (at + length u.bytes) (drop (length u.bytes) (b ∷ bs)) >>= λ vs. Ok (u ∷ vs)) ≡ Ok us → AreUnits (b ∷ bs) us
sound_step k at b bs us (Err f) ih l f' e = absurd (apart_results _ us e)
sound_step k at b bs us (Ok u) ih l f e =
    sound_rest u us (cut_from k (at + length u.bytes) (drop (length u.bytes) (b ∷ bs))) (λ z. AreUnits (b ∷ bs) z)
    (λ vs c. (omega arith, f, ih (at + length u.bytes) (drop (length u.bytes) (b ∷ bs)) vs (shorter (length u.bytes) k (b ∷ bs) (unit_some b bs u f) l) c)) e

pub none_below : 0 < 0 → ⊥
none_below e = omega (arith, e)

pub none_fits : (n : ℕ) → suc n ≤ 0 → ⊥
none_fits n e = omega (arith, e)

sound : (most at : ℕ) (text : List ℕ) (us : List TextUnit) → length text ≤ most → cut_from most at text ≡ Ok us → AreUnits text us
sound zero at [] us l e = subst (λ z. AreUnits [] z) (same_ok [] us e) refl
sound zero at (b ∷ bs) us l e = absurd (none_fits (length bs) l)
sound (suc k) at [] us l e = subst (λ z. AreUnits [] z) (same_ok [] us e) refl
sound (suc k) at (b ∷ bs) us l e = sound_step k at b bs us (first_unit (b ∷ bs)) (λ a t vs m c. sound k a t vs m c) l refl e

whole : (most at : ℕ) (text : List ℕ) (us : List TextUnit) → length text ≤ most → AreUnits text us → cut_from most at text ≡ Ok us
whole zero at text [] l e = rw e refl
whole (suc k) at text [] l e = rw e refl
whole zero at [] (u ∷ us) l (some, e, m) = absurd (none_below some)
whole (suc k) at [] (u ∷ us) l (some, e, m) = absurd (none_below some)
whole zero at (b ∷ bs) (u ∷ us) l (some, e, m) = absurd (none_fits (length bs) l)
whole (suc k) at (b ∷ bs) (u ∷ us) l (some, e, m) =
    let more = whole k (at + length u.bytes) (drop (length u.bytes) (b ∷ bs)) us (shorter (length u.bytes) k (b ∷ bs) (unit_some b bs u e) l) m in
    ap (λ z. at_byte at z >>= λ v. cut_from k (at + length v.bytes) (drop (length v.bytes) (b ∷ bs)) >>= λ vs. Ok (v ∷ vs)) e ∙ ap (λ z. with_first u z) more

pub cut_is_units : CutIsUnits
cut_is_units text us = ((λ e. sound (length text) 0 text us (omega arith) e), (λ m. whole (length text) 0 text us (omega arith) m))
