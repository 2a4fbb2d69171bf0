-- Where a reader is stuck, and where one is that calls it.
use Rattle.std.proofs.Common.{inl, inr, arith, ◌≡◌, ℕ, ◌≤◌, List, [], ◌∷◌, ◌++◌, refl, sym, ap, subst, ◌∙◌, append_assoc, length, take, min}
use Rattle.std.proofs.Math.Nat.{min-eq_left, min-eq_right}
use Rattle.std.proofs.lemmas.Bool.{cases_lt}
use Rattle.std.proofs.lemmas.List.{length-append}
use Rattle.pagespec.specs.Places.{IsStuck}
use Rattle.pagespec.proofs.NumberPlaces.{Alike, alike_heads}

-- a text with the same bytes up to the place, and the next one, begins with the same byte
stuck_alike : (bytes front back tail after : List ℕ) (b : ℕ) → bytes ≡ front ++ back → back ≡ b ∷ tail → Alike bytes (front ++ b ∷ after)
stuck_alike bytes front back tail after b split e = alike_heads front tail after b ∙ ap (take 1) (sym (split ∙ ap (λ x. front ++ x) e))

-- a reader that calls another one after these bytes
pub stuck_behind : (Begun Fails Begins Ends : List ℕ → Type 0) (p bytes : List ℕ) (left : ℕ)
    → ((t : List ℕ) → Begun t → (m : List ℕ) × Begins (p ++ (t ++ m))) → ((u : List ℕ) → Alike bytes u → Fails u → Ends (p ++ u))
    → IsStuck Begun Fails bytes left → IsStuck Begins Ends (p ++ bytes) left
stuck_behind Begun Fails Begins Ends p bytes left begins ends s =
    let (m, text) = begins (s.front ++ s.more) s.begun in
    record {
      front = p ++ s.front;
      back = s.back;
      split = ap (λ x. p ++ x) s.split ∙ sym (append_assoc p s.front s.back);
      left_is = s.left_is;
      more = s.more ++ m;
      begun = subst Begins (ap (λ x. p ++ x) (append_assoc s.front s.more m) ∙ sym (append_assoc p s.front (s.more ++ m))) text;
      fails = λ b tail e after.
          subst Ends (sym (append_assoc p s.front (b ∷ after)))
          (ends (s.front ++ b ∷ after) (stuck_alike bytes s.front s.back tail after b s.split e) (s.fails b tail e after));
    }

-- one that calls it at once
pub stuck_there : (Begun Fails Begins Ends : List ℕ → Type 0) (bytes : List ℕ) (left : ℕ)
    → ((t : List ℕ) → Begun t → (m : List ℕ) × Begins (t ++ m)) → ((u : List ℕ) → Alike bytes u → Fails u → Ends u)
    → IsStuck Begun Fails bytes left → IsStuck Begins Ends bytes left
stuck_there Begun Fails Begins Ends bytes left begins ends s = stuck_behind Begun Fails Begins Ends [] bytes left begins ends s

-- at the first byte
pub stuck_first : (Begun Fails : List ℕ → Type 0) (bytes more : List ℕ) → Begun more → ((b : ℕ) (tail : List ℕ) → bytes ≡ b ∷ tail → (after : List ℕ) → Fails (b ∷ after)) → IsStuck Begun Fails bytes (length bytes)
stuck_first Begun Fails bytes more begun fails = record { front = []; back = bytes; split = refl; left_is = refl; more = more; begun = begun; fails = fails }

-- the longer of two beginnings of a text begins with the shorter one, and with the byte after that
record Longer (one back other after : List ℕ) (b : ℕ) : Type 0 where
  c : ℕ
  rest : List ℕ
  more : List ℕ
  back_is : back ≡ c ∷ rest
  same : other ++ b ∷ after ≡ one ++ c ∷ more

longer : (one back other tail after : List ℕ) (b : ℕ) → one ++ back ≡ other ++ b ∷ tail → length (b ∷ tail) ≤ length back → Longer one back other after b
longer [] back [] tail after b e h = record { c = b; rest = tail; more = after; back_is = e; same = refl }
longer [] back (x ∷ other) tail after b e h = record { c = x; rest = other ++ b ∷ tail; more = other ++ b ∷ after; back_is = e; same = refl }
longer (y ∷ one) back [] tail after b e h = absurd (omega (arith, h, ap length e, length-append one back))
longer (y ∷ one) back (x ∷ other) tail after b e h =
    let first : y ≡ x = cc (e) in
    let behind_is : one ++ back ≡ other ++ b ∷ tail = cc (e) in
    let l = longer one back other tail after b behind_is h in
    record { c = l.c; rest = l.rest; more = l.more; back_is = l.back_is; same = ap (λ z. z ∷ (other ++ b ∷ after)) (sym first) ∙ ap (λ z. y ∷ z) l.same }

misses : (Misses : List ℕ → Type 0) (one back other after : List ℕ) (b : ℕ) → Longer one back other after b
    → ((c : ℕ) (rest : List ℕ) → back ≡ c ∷ rest → (u : List ℕ) → Misses (one ++ c ∷ u)) → Misses (other ++ b ∷ after)
misses Misses one back other after b l fails = subst Misses (sym l.same) (fails l.c l.rest l.back_is l.more)

-- of two readers that are stuck, the one that goes at least as far as the other
stuck_far : (Begun Fails Starts Misses Begins Ends : List ℕ → Type 0) (bytes : List ℕ) (far near : ℕ) → far ≤ near
    → ((t : List ℕ) → Begun t → (m : List ℕ) × Begins (t ++ m)) → ((u : List ℕ) → Fails u → Misses u → Ends u)
    → IsStuck Begun Fails bytes far → IsStuck Starts Misses bytes near → IsStuck Begins Ends bytes far
stuck_far Begun Fails Starts Misses Begins Ends bytes far near few begins ends a b =
    let (m, text) = begins (a.front ++ a.more) a.begun in
    record {
      front = a.front;
      back = a.back;
      split = a.split;
      left_is = a.left_is;
      more = a.more ++ m;
      begun = subst Begins (append_assoc a.front a.more m) text;
      fails = λ x tail is after.
          let l = longer b.front b.back a.front tail after x (sym b.split ∙ (a.split ∙ ap (λ z. a.front ++ z) is)) (omega (arith, few, a.left_is, b.left_is, ap length is)) in
          ends (a.front ++ x ∷ after) (a.fails x tail is after) (misses Misses b.front b.back a.front after x l (λ c rest e u. b.fails c rest e u));
    }

-- a reader that tries both
pub stuck_farther : (Begun Fails Starts Misses Begins Ends : List ℕ → Type 0) (bytes : List ℕ) (one other left : ℕ)
    → ((t : List ℕ) → Begun t → (m : List ℕ) × Begins (t ++ m)) → ((t : List ℕ) → Starts t → (m : List ℕ) × Begins (t ++ m)) → ((u : List ℕ) → Fails u → Misses u → Ends u)
    → IsStuck Begun Fails bytes one → IsStuck Starts Misses bytes other → left ≡ min one other → IsStuck Begins Ends bytes left
stuck_farther Begun Fails Starts Misses Begins Ends bytes one other left begun starts ends a b e = elim (cases_lt one other) [
  | inl less ↦ (
      let few : one ≤ other = omega (arith, less) in
      subst (λ n. IsStuck Begins Ends bytes n) (sym (e ∙ min-eq_left few)) (stuck_far Begun Fails Starts Misses Begins Ends bytes one other few begun ends a b)
      )
  | inr few ↦ subst (λ n. IsStuck Begins Ends bytes n) (sym (e ∙ min-eq_right few)) (stuck_far Starts Misses Begun Fails Begins Ends bytes other one few starts (λ u x y. ends u y x) b a)
]
