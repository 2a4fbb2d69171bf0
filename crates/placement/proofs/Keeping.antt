-- Appends one after another keep what was there at the start.
use Rattle.std.proofs.Common.{ℕ, List, ◌≡◌, ◌+◌, ◌<◌, ◌≤◌, ◌++◌, length, vec_len, vec_capacity, [], sym, ◌∙◌, ap, append_assoc, append-nil, arith}
use Rattle.std.specs.Prelude.{Result, Ok, Err, OnOk, OnErr}
use Rattle.std.proofs.lemmas.List.{length-append}
use Rattle.std.specs.declared.vec.Vec.{Vec}
use Rattle.std.specs.declared.alloc.Global.{Global}
use Rattle.placement.specs.Kept.{Keeps}

pub keeps_more : (old middle new : Vec ℕ Global) → Keeps old middle → Keeps middle new → Keeps old new
keeps_more old middle new first second = record {
  added = first.added ++ second.added;
  parts = second.parts ∙ (ap (λ m. m ++ second.added) first.parts ∙ append_assoc old.items first.added second.added);
  room = let f = first.room in let s = second.room in omega arith;
}

-- what a call leaves that appends a text or nothing
pub printed_keeps : {T E : Type 0} (old new : Vec ℕ Global) (r : Result T E) (text : List ℕ) → OnOk r (new.items ≡ old.items ++ text) → OnErr r (new.items ≡ old.items)
    → vec_capacity old ≤ vec_capacity new → Keeps old new
printed_keeps old new (Ok x) text appended unchanged room = record { added = text; parts = appended; room = room }
printed_keeps old new (Err e) text appended unchanged room = record { added = []; parts = unchanged ∙ sym (append-nil old.items); room = room }

-- a last part for which there is no room has none after the parts before it either
pub full_behind : (old middle : Vec ℕ Global) (last all : List ℕ) → Keeps old middle → middle.items ++ last ≡ old.items ++ all
    → vec_capacity middle < vec_len middle + length last → vec_capacity old < vec_len old + length all
full_behind old middle last all kept joined full =
    let room = kept.room in
    let both : length (middle.items ++ last) ≡ length (old.items ++ all) = ap length joined in
    let left : length (middle.items ++ last) ≡ length middle.items + length last = length-append middle.items last in
    let right : length (old.items ++ all) ≡ length old.items + length all = length-append old.items all in
    omega arith

-- ---- a part before the last for which there is no room
pub record Grown (old new : Vec ℕ Global) (most : ℕ) : Type 0 where
  pub room : vec_capacity old ≤ vec_capacity new
  pub len : vec_len new ≡ vec_len old + most

pub grown : (old new : Vec ℕ Global) (part : List ℕ) → Keeps old new → new.items ≡ old.items ++ part → Grown old new (length part)
grown old new part kept is = record {
  room = kept.room;
  len =
      let all : length new.items ≡ length (old.items ++ part) = ap length is in
      let parts : length (old.items ++ part) ≡ length old.items + length part = length-append old.items part in
      omega arith;
}

pub grown_more : (old middle new : Vec ℕ Global) (most : ℕ) (part : List ℕ) → Grown old middle most → Keeps middle new → new.items ≡ middle.items ++ part
    → Grown old new (most + length part)
grown_more old middle new most part before kept is = record {
  room = let a = before.room in let b = kept.room in omega arith;
  len =
      let all : length new.items ≡ length (middle.items ++ part) = ap length is in
      let parts : length (middle.items ++ part) ≡ length middle.items + length part = length-append middle.items part in
      let first = before.len in
      omega arith;
}

-- what holds whenever there is an error
pub on_err : {T E : Type 0} {P : Type 0} (r : Result T E) → P → OnErr r P
on_err (Ok x) p = tt
on_err (Err e) p = p

pub full_first : (old : Vec ℕ Global) (part all : ℕ) → vec_capacity old < vec_len old + part → part ≤ all → vec_capacity old < vec_len old + all
full_first old part all full fits = omega arith

pub full_later : (old middle : Vec ℕ Global) (most part all : ℕ) → Grown old middle most → vec_capacity middle < vec_len middle + part → most + part ≤ all
    → vec_capacity old < vec_len old + all
full_later old middle most part all before full fits = let room = before.room in let len = before.len in omega arith

-- each part of a text but the last is no longer than the text
pub fit_two : (all a b : List ℕ) → a ++ b ≡ all → length a ≤ length all
fit_two all a b is =
    let whole : length (a ++ b) ≡ length all = ap length is in
    let one : length (a ++ b) ≡ length a + length b = length-append a b in
    omega arith

pub fit_three : (all a b c : List ℕ) → (a ++ b) ++ c ≡ all → (length a ≤ length all) × (length a + length b ≤ length all)
fit_three all a b c is =
    let whole : length ((a ++ b) ++ c) ≡ length all = ap length is in
    let two : length ((a ++ b) ++ c) ≡ length (a ++ b) + length c = length-append (a ++ b) c in
    let one : length (a ++ b) ≡ length a + length b = length-append a b in
    (omega arith, omega arith)

pub fit_four : (all a b c d : List ℕ) → ((a ++ b) ++ c) ++ d ≡ all
    → (length a ≤ length all) × (length a + length b ≤ length all) × ((length a + length b) + length c ≤ length all)
fit_four all a b c d is =
    let whole : length (((a ++ b) ++ c) ++ d) ≡ length all = ap length is in
    let three : length (((a ++ b) ++ c) ++ d) ≡ length ((a ++ b) ++ c) + length d = length-append ((a ++ b) ++ c) d in
    let two : length ((a ++ b) ++ c) ≡ length (a ++ b) + length c = length-append (a ++ b) c in
    let one : length (a ++ b) ≡ length a + length b = length-append a b in
    (omega arith, omega arith, omega arith)

pub fit_five : (all a b c d e : List ℕ) → (((a ++ b) ++ c) ++ d) ++ e ≡ all
    → (length a ≤ length all) × (length a + length b ≤ length all) × ((length a + length b) + length c ≤ length all)
    × (((length a + length b) + length c) + length d ≤ length all)
fit_five all a b c d e is =
    let whole : length ((((a ++ b) ++ c) ++ d) ++ e) ≡ length all = ap length is in
    let four : length ((((a ++ b) ++ c) ++ d) ++ e) ≡ length (((a ++ b) ++ c) ++ d) + length e = length-append (((a ++ b) ++ c) ++ d) e in
    let three : length (((a ++ b) ++ c) ++ d) ≡ length ((a ++ b) ++ c) + length d = length-append ((a ++ b) ++ c) d in
    let two : length ((a ++ b) ++ c) ≡ length (a ++ b) + length c = length-append (a ++ b) c in
    let one : length (a ++ b) ≡ length a + length b = length-append a b in
    (omega arith, omega arith, omega arith, omega arith)
