-- Outputs that report a name and the bytes after it.
use Rattle.std.proofs.Common.{◌≡◌, ◌∙◌, ℕ, ◌+◌, ◌-◌, ◌++◌, ◌==◌, ◌≤◌, min, List, [], ◌∷◌, Bool, true, false, Option, Some, None, Result, Ok, Err, ap, append-nil, append_assoc, arith, length, map, refl, sym, take}
use Rattle.std.specs.Prelude.{if◌then◌else◌, is_some}
use Rattle.std.specs.Io.KnownBytes.{Appends, Keeps, WriteAppends, append_known}
use Rattle.std.proofs.lemmas.Bool.{false≢true, ne_eqb}
use Rattle.std.proofs.lemmas.List.{length-append, length-take, take-take}
use Rattle.std.proofs.Math.Seq.{take-append-add, take-append_seam}
use Rattle.world.specs.Outputs.{reported_bytes, named, spelled, reported_if}

some_same : (xs ys : List ℕ) → Some xs ≡ Some ys → xs ≡ ys
some_same xs ys e = cc

-- ---- the bytes after a name

pub bytes_grown : (told bytes more : List ℕ) → reported_bytes told ≡ Some bytes → reported_bytes (told ++ more) ≡ Some (bytes ++ more)
bytes_grown [] bytes more e = cc
bytes_grown (b ∷ bs) bytes more e = by_test (b == 0) (λ h. ap (λ xs. Some (xs ++ more)) (some_same bs bytes h)) (λ h. bytes_grown bs bytes more h) e
  where
    by_test : (t : Bool) → (Some bs ≡ Some bytes → Some (bs ++ more) ≡ Some (bytes ++ more)) → (reported_bytes bs ≡ Some bytes → reported_bytes (bs ++ more) ≡ Some (bytes ++ more))
        → (if t then Some bs else reported_bytes bs) ≡ Some bytes → (if t then Some (bs ++ more) else reported_bytes (bs ++ more)) ≡ Some (bytes ++ more)
    by_test true here there h = here h
    by_test false here there h = there h

if_false : (t : Bool) (x y : Option (List ℕ)) → t ≡ false → (if t then x else y) ≡ y
if_false false x y is = refl
if_false true x y is = absurd (false≢true (sym is))

after_name : (name bytes : List ℕ) → reported_bytes ((map (λ byte. byte + 1) name ++ 0 ∷ []) ++ bytes) ≡ Some bytes
after_name [] bytes = refl
after_name (b ∷ bs) bytes = if_false ((b + 1) == 0) _ _ (ne_eqb (b + 1) 0 (λ e. omega (arith, e))) ∙ after_name bs bytes

pub spelled_bytes : (name : Option (List ℕ)) (bytes : List ℕ) → reported_bytes (spelled name ++ bytes) ≡ Some bytes
spelled_bytes None bytes = refl
spelled_bytes (Some name) bytes = after_name name bytes

found : (option : Option (List ℕ)) → is_some option ≡ true → (bytes : List ℕ) × (option ≡ Some bytes)
found None e = absurd (false≢true e)
found (Some bytes) e = (bytes, refl)

-- ---- what is reported, if it begins with a name

if_true : (b : Bool) (xs : List ℕ) → b ≡ true → (if b then Some xs else None) ≡ Some xs
if_true true xs is = refl
if_true false xs is = absurd (false≢true is)

if_same : (b : Bool) (xs ys : List ℕ) → (if b then Some xs else None) ≡ Some ys → (b ≡ true) × (xs ≡ ys)
if_same true xs ys e = (refl, some_same xs ys e)
if_same false xs ys e = cc

-- an output to which nothing was written
pub named_fresh : (name : Option (List ℕ)) (reports_outputs : Bool) → named (reported_if reports_outputs name []) ≡ reported_if reports_outputs name []
named_fresh name false = refl
named_fresh name true = if_true (is_some (reported_bytes (spelled name ++ []))) (spelled name ++ []) (ap is_some (spelled_bytes name []))

grown_if : (b c : Bool) (xs ys bs : List ℕ) → (b ≡ true → c ≡ true) → ys ≡ xs ++ bs → Appends (if b then Some xs else None) (if c then Some ys else None) bs
grown_if false c xs ys bs same e = tt
grown_if true true xs ys bs same e = e
grown_if true false xs ys bs same e = absurd (false≢true (same refl))

pub named_grown : (old new : Option (List ℕ)) (bs : List ℕ) → Appends old new bs → Appends (named old) (named new) bs
named_grown None new bs h = tt
named_grown (Some xs) None bs h = absurd h
named_grown (Some xs) (Some ys) bs h =
    grown_if (is_some (reported_bytes xs)) (is_some (reported_bytes ys)) xs ys bs
    (λ is. let front = found (reported_bytes xs) is in ap is_some (ap reported_bytes h ∙ bytes_grown xs front.0 bs front.1)) h

pub named_kept : (old new : Option (List ℕ)) → Keeps old new → Keeps (named old) (named new)
named_kept None new h = tt
named_kept (Some xs) None h = absurd h
named_kept (Some xs) (Some ys) h = kept_if (is_some (reported_bytes xs)) (is_some (reported_bytes ys)) xs ys (ap (λ l. is_some (reported_bytes l)) h) h
  where
    kept_if : (b c : Bool) (xs ys : List ℕ) → c ≡ b → ys ≡ xs → Keeps (if b then Some xs else None) (if c then Some ys else None)
    kept_if false c xs ys same e = tt
    kept_if true true xs ys same e = e
    kept_if true false xs ys same e = absurd (false≢true same)

-- a write
pub named_written : {E : Type 0} (old new : Option (List ℕ)) (r : Result ℕ E) (bs : List ℕ) → WriteAppends old new r bs → WriteAppends (named old) (named new) r bs
named_written old new (Ok n) bs h = named_grown old new (take n bs) h
named_written old new (Err e) bs h = named_kept old new h

-- ---- with what waits behind it

back_if : (b : Bool) (all xs : List ℕ) → Keeps (Some all) (append_known (if b then Some xs else None) []) → Keeps (Some all) (Some xs)
back_if true all xs h = sym (append-nil xs) ∙ h
back_if false all xs h = absurd h

-- what is kept with a name, and nothing behind it, is kept
pub unnamed_kept : (all out : Option (List ℕ)) → Keeps all (append_known (named out) []) → Keeps all out
unnamed_kept None out h = tt
unnamed_kept (Some all) None h = absurd h
unnamed_kept (Some all) (Some xs) h = back_if (is_some (reported_bytes xs)) all xs h

-- a front of a start and a part of a text that ends so many bytes before its end is the start and a front of the part
fits : (start part xs rest all : List ℕ) (n : ℕ) → length xs ≡ length start + n → all ≡ start ++ part → all ≡ xs ++ rest → xs ≡ start ++ take n part
fits start part xs rest all n long began split =
    sym (take-append_seam xs rest) ∙ ap (take (length xs)) (sym split ∙ began) ∙ ap (λ k. take k (start ++ part)) long ∙ take-append-add start part n

split_if : (b : Bool) (xs all waiting : List ℕ) → Some all ≡ append_known (if b then Some xs else None) waiting → (b ≡ true) × (all ≡ xs ++ waiting)
split_if true xs all waiting e = (refl, some_same all (xs ++ waiting) e)
split_if false xs all waiting e = cc

-- Of an output of this name that took the first bytes of a text, some of which wait: it has the others.
pub named_front : (name : Option (List ℕ)) (k : ℕ) (text waiting : List ℕ) (all out : Option (List ℕ)) → k ≤ length text
    → Appends (Some (spelled name ++ [])) all (take k text) → all ≡ append_known (named out) waiting
    → (k - length waiting ≤ length text) × (out ≡ Some ((spelled name ++ []) ++ take (k - length waiting) text))
named_front name k text waiting None out within h is = absurd h
named_front name k text waiting (Some all) None within h is = cc
named_front name k text waiting (Some all) (Some xs) within h is =
    let parts = split_if (is_some (reported_bytes xs)) xs all waiting is in
    let part = take k text in
    let start = spelled name ++ [] in
    let front = found (reported_bytes xs) parts.0 in
    let handed : reported_bytes all ≡ Some part = ap reported_bytes (h ∙ append_assoc (spelled name) [] part) ∙ spelled_bytes name part in
    let cut : part ≡ front.0 ++ waiting = some_same part (front.0 ++ waiting) (sym handed ∙ ap reported_bytes parts.1 ∙ bytes_grown xs front.0 waiting front.1) in
    let whole : length start + length part ≡ length xs + length waiting = sym (length-append start part) ∙ ap length (sym h) ∙ ap length parts.1 ∙ length-append xs waiting in
    let shares : length part ≡ length front.0 + length waiting = ap length cut ∙ length-append front.0 waiting in
    let short : length part ≡ min k (length text) = length-take k text in
    let long : length xs ≡ length start + (k - length waiting) = omega (arith, whole, shares, short, within) in
    let fewer : k - length waiting ≤ k = omega arith in
    (omega (arith, within), ap Some (fits start part xs waiting all (k - length waiting) long h parts.1 ∙ ap (λ ys. start ++ ys) (take-take (k - length waiting) k text fewer)))
