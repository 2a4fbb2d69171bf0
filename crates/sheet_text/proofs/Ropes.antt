-- Texts in pieces: what appending does to their bytes.
use Rattle.std.proofs.Common.{if◌then◌else◌, Bool, true, false, ℕ, suc, List, [], ◌∷◌, ◌+◌, ◌-◌, ◌<◌, ◌≤◌, ◌++◌, ◌≡◌, ap, sym, subst, refl, ◌∙◌, length, take, drop, arith, append_assoc, length-append, length-drop}
use Rattle.std.specs.Prelude.{sum_by, slice_index_or, Result, Ok, Err, OnOk, OnErr, is_ok}
use Rattle.std.proofs.lemmas.List.{take-append-le, drop-append-le, take-append-drop, append-nil}
use Rattle.std.proofs.Math.Seq.{take-length, drop-cons}
use Rattle.std.proofs.lemmas.List.Sums.{sum_by-append}
use Rattle.std.proofs.Math.ListN.{drop_of_length-le}
use Rattle.sheet_text.specs.declared.rope.Borrowed.{Borrowed}
use Rattle.sheet_text.specs.Ropes.{woven, AreInPlace}

-- the slices lie between the two places
pub ascends : (first last : ℕ) (ss : List Borrowed) → AreInPlace first last ss → first ≤ last
ascends first last [] h = h
ascends first last (s ∷ ss) h = let rest = ascends s.at last ss h.2 in omega (arith, h.0)

-- a later end does as well
pub in_place_later : (first last end : ℕ) (ss : List Borrowed) → last ≤ end → AreInPlace first last ss → AreInPlace first end ss
in_place_later first last end [] later h = omega (arith, h)
in_place_later first last end (s ∷ ss) later h = (h.0, h.1, in_place_later s.at last end ss later h.2)

-- more bytes of its own
pub woven_more : (from last : ℕ) (own : List ℕ) (ss : List Borrowed) (more : List ℕ) → last ≡ from + length own → AreInPlace from last ss
    → woven from (own ++ more) ss ≡ woven from own ss ++ more
woven_more from last own [] more end h = refl
woven_more from last own (s ∷ ss) more end h =
    let up : s.at ≤ last = ascends s.at last ss h.2 in
    let within : s.at - from ≤ length own = omega (arith, h.0) in
    let rest_len : length (drop (s.at - from) own) ≡ length own - (s.at - from) = length-drop (s.at - from) own in
    let rest_end : last ≡ s.at + length (drop (s.at - from) own) = omega (arith, h.0) in
    ap (λ x. x ++ s.bytes.now ++ woven s.at (drop (s.at - from) (own ++ more)) ss) (take-append-le (s.at - from) own more within)
    ∙ ap (λ x. take (s.at - from) own ++ s.bytes.now ++ woven s.at x ss) (drop-append-le (s.at - from) own more within)
    ∙ ap (λ x. take (s.at - from) own ++ s.bytes.now ++ x) (woven_more s.at last (drop (s.at - from) own) ss more rest_end h.2)
    ∙ simp append_assoc

-- one slice more, after all
pub in_place_more : (first last : ℕ) (ss : List Borrowed) (s : Borrowed) → s.at ≡ last → 0 < length s.bytes.now → AreInPlace first last ss → AreInPlace first last (ss ++ s ∷ [])
in_place_more first last [] s at some h = (omega (arith, at, h), some, omega (arith, at))
in_place_more first last (r ∷ rs) s at some h = (h.0, h.1, in_place_more r.at last rs s at some h.2)

pub woven_slice : (from last : ℕ) (own : List ℕ) (ss : List Borrowed) (s : Borrowed) → last ≡ from + length own → s.at ≡ last → AreInPlace from last ss
    → woven from own (ss ++ s ∷ []) ≡ woven from own ss ++ s.bytes.now
woven_slice from last own [] s end at h =
    let all : s.at - from ≡ length own = omega (arith, at, end) in
    let front : take (s.at - from) own ≡ own = ap (λ n. take n own) all ∙ take-length own in
    let rest : drop (s.at - from) own ≡ [] = drop_of_length-le own (omega (arith, all)) in
    ap (λ x. x ++ s.bytes.now ++ drop (s.at - from) own) front ∙ ap (λ x. own ++ s.bytes.now ++ x) rest ∙ append-nil (own ++ s.bytes.now)
woven_slice from last own (r ∷ rs) s end at h =
    let up : r.at ≤ last = ascends r.at last rs h.2 in
    let rest_len : length (drop (r.at - from) own) ≡ length own - (r.at - from) = length-drop (r.at - from) own in
    let rest_end : last ≡ r.at + length (drop (r.at - from) own) = omega (arith, h.0) in
    ap (λ x. take (r.at - from) own ++ r.bytes.now ++ x) (woven_slice r.at last (drop (r.at - from) own) rs s rest_end at h.2) ∙ simp append_assoc

-- the bytes of slices
abbrev pub bytes_of : List Borrowed → ℕ
bytes_of ss = sum_by (λ s. length s.bytes.now) ss

pub length_woven : (from : ℕ) (own : List ℕ) (ss : List Borrowed) → length (woven from own ss) ≡ length own + bytes_of ss
length_woven from own [] = omega arith
length_woven from own (s ∷ ss) =
    let front = take (s.at - from) own in
    let rest = drop (s.at - from) own in
    let ih : length (woven s.at rest ss) ≡ length rest + bytes_of ss = length_woven s.at rest ss in
    let parts : length front + length rest ≡ length own = sym (length-append front rest) ∙ ap (λ x. length x) (take-append-drop (s.at - from) own) in
    let one : length (woven from own (s ∷ ss)) ≡ length (front ++ s.bytes.now) + length (woven s.at rest ss) = length-append (front ++ s.bytes.now) (woven s.at rest ss) in
    let two = length-append front s.bytes.now in
    let sums : bytes_of (s ∷ ss) ≡ (0 + length s.bytes.now) + bytes_of ss = sum_by-append (λ x. length x.bytes.now) (s ∷ []) ss in
    omega (arith, ih, parts, one, two, sums)

-- the slice at this index is the first of those from it on
pub first_of : (n : ℕ) (ss : List Borrowed) (d : Borrowed) → n < length ss → drop n ss ≡ slice_index_or ss n d ∷ drop (n + 1) ss
first_of n ss d h = let next : suc n ≡ n + 1 = omega arith in drop-cons ss n d h ∙ ap (λ k. slice_index_or ss n d ∷ drop k ss) next

-- the bytes before it are left
pub front_within : (from n : ℕ) (own : List ℕ) (ss : List Borrowed) (d : Borrowed) → n < length ss → AreInPlace from (from + length own) (drop n ss)
    → (slice_index_or ss n d).at - from ≤ length own
front_within from n own ss d h placed =
    let here : AreInPlace from (from + length own) (slice_index_or ss n d ∷ drop (n + 1) ss) = subst (λ xs. AreInPlace from (from + length own) xs) (first_of n ss d h) placed in
    let up = ascends (slice_index_or ss n d).at (from + length own) (drop (n + 1) ss) here.2 in
    omega (arith, here.0, up)

-- an append makes a list no shorter, whether it succeeds or not
pub grown : (t : Bool) (new old more : List ℕ) → new ≡ (if t then old ++ more else old) → length old ≤ length new
grown true new old more is = let n = ap (λ x. length x) is in let m = length-append old more in omega (arith, n, m)
grown false new old more is = let n = ap (λ x. length x) is in omega (arith, n)

-- appended if it succeeded
pub woven_grown : (inside_own : List ℕ) (ss : List Borrowed) (value new more : List ℕ) → woven 0 inside_own ss ≡ value → new ≡ inside_own ++ more
    → AreInPlace 0 (length inside_own) ss → woven 0 new ss ≡ value ++ more
woven_grown own ss value new more view is placed =
    ap (λ x. woven 0 x ss) is ∙ woven_more 0 (length own) own ss more (omega arith) placed ∙ ap (λ x. x ++ more) view

pub appended : {E : Type 0} (r : Result (Unit {0}) E) (own : List ℕ) (ss : List Borrowed) (value new more : List ℕ) → woven 0 own ss ≡ value
    → new ≡ (if is_ok r then own ++ more else own) → AreInPlace 0 (length own) ss → OnOk r (woven 0 new ss ≡ value ++ more)
appended (Ok u) own ss value new more view is placed = woven_grown own ss value new more view is placed
appended (Err e) own ss value new more view is placed = tt

-- a slice was put after all that was there
pub put_behind : (own : List ℕ) (ss new : List Borrowed) (s : Borrowed) (value : List ℕ) → woven 0 own ss ≡ value → new ≡ ss ++ s ∷ [] → s.at ≡ length own
    → AreInPlace 0 (length own) ss → woven 0 own new ≡ value ++ s.bytes.now
put_behind own ss new s value view is at placed =
    ap (λ x. woven 0 own x) is ∙ woven_slice 0 (length own) own ss s (omega arith) at placed ∙ ap (λ x. x ++ s.bytes.now) view

pub placed_behind : (own : List ℕ) (ss new : List Borrowed) (s : Borrowed) → new ≡ ss ++ s ∷ [] → s.at ≡ length own → 0 < length s.bytes.now
    → AreInPlace 0 (length own) ss → AreInPlace 0 (length own) new
placed_behind own ss new s is at some placed =
    subst (λ x. AreInPlace 0 (length own) x) (sym is) (in_place_more 0 (length own) ss s at some placed)

-- the same of an append whose clauses speak of success and refusal apart
pub kept_or_more : {E : Type 0} (r : Result (Unit {0}) E) (own new more : List ℕ) → OnOk r (new ≡ own ++ more) → OnErr r (new ≡ own) → length own ≤ length new
kept_or_more (Ok u) own new more is same = grown true new own more is
kept_or_more (Err e) own new more is same = grown false new own more same

pub closed : {E : Type 0} (r : Result (Unit {0}) E) (own : List ℕ) (ss : List Borrowed) (value new more : List ℕ) → woven 0 own ss ≡ value
    → OnOk r (new ≡ own ++ more) → AreInPlace 0 (length own) ss → OnOk r (woven 0 new ss ≡ value ++ more)
closed (Ok u) own ss value new more view is placed = woven_grown own ss value new more view is placed
closed (Err e) own ss value new more view is placed = tt

-- the bytes of the slices from this one on
pub bytes_from : (n : ℕ) (ss : List Borrowed) (d : Borrowed) → n < length ss → bytes_of (drop n ss) ≡ length (slice_index_or ss n d).bytes.now + bytes_of (drop (n + 1) ss)
bytes_from n ss d h =
    let one = slice_index_or ss n d in
    let sums : bytes_of (one ∷ drop (n + 1) ss) ≡ (0 + length one.bytes.now) + bytes_of (drop (n + 1) ss) = sum_by-append (λ x. length x.bytes.now) (one ∷ []) (drop (n + 1) ss) in
    ap (λ xs. bytes_of xs) (first_of n ss d h) ∙ omega (arith, sums)

pub no_bytes_behind : (n : ℕ) (ss : List Borrowed) → length ss ≤ n → bytes_of (drop n ss) ≡ 0
no_bytes_behind n ss h = ap (λ xs. bytes_of xs) (drop_of_length-le ss h)

-- one slice more is counted, or can't be
pub counted_on : (n : ℕ) (ss : List Borrowed) (d : Borrowed) (count : ℕ) {next total : ℕ} → n < length ss → count + length (slice_index_or ss n d).bytes.now ≡ next
    → count + bytes_of (drop n ss) ≡ total → next + bytes_of (drop (n + 1) ss) ≡ total
counted_on n ss d count h step all = let left = bytes_from n ss d h in omega (arith, left, step, all)

pub not_counted : (n : ℕ) (ss : List Borrowed) (d : Borrowed) (count : ℕ) {most total : ℕ} → n < length ss → (count + length (slice_index_or ss n d).bytes.now < suc most → ⊥)
    → count + bytes_of (drop n ss) ≡ total → most < total
not_counted n ss d count h step all = let left = bytes_from n ss d h in omega (arith, left, step, all)
