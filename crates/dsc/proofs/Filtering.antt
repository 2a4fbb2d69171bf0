-- What is kept, run by run.
use Rattle.std.specs.Prelude.{Result, Ok, Err, not}
use Rattle.std.proofs.Common.{append_assoc, append-nil, length-append, Bool, true, false, if◌then◌else◌, ◌≡◌, ℕ, suc, ◌+◌, ◌-◌, ◌<◌, List, [], ◌∷◌, ◌++◌, length, take, drop, get_or, refl, ap, arith, sym, ◌∙◌}
use Rattle.std.proofs.Math.Seq.{take-add}
use Rattle.rules.specs.Bytes.{line}
use Rattle.rules.specs.Units.{TextUnit, is_end, FaultyBlock, cut}
use Rattle.rules.specs.Parts.{NestedUnit, nested, bytes_of}
use Rattle.rules.specs.Filters.{kept_after, kept, ended}
use Rattle.rules.specs.Dress.{lines_text}
use Rattle.rules.specs.MadeOutput.{drops_with}
use Rattle.dsc.specs.Units.{or_none, units_of}
use Rattle.dsc.specs.Filters.{drops_of, is_dropped, of_units, filter_on}
use Rattle.dsc.specs.declared.filters.Drops.{Drops}
use Rattle.dsc.specs.declared.filters.Drops.TheVariants.{DocumentSetup, SetupAndPapers}
use Rattle.dsc.specs.Views.{at_depth}
use Rattle.dsc.specs.Walks.{WalkPlace, past_unit, IsPieceOf}
use Rattle.dsc.proofs.PlainUnits.{plain_kept}
use Rattle.dsc.proofs.Walking.{Follows, piece_on, piece_front}

pub run_grows : (kept run : List ℕ) (n m : ℕ) → kept ++ take (n + m) run ≡ (kept ++ take n run) ++ take m (drop n run)
run_grows kept run n m = ap (λ t. kept ++ t) (take-add n m run) ∙ sym (append_assoc kept (take n run) (take m (drop n run)))

kept_bytes : (drops : Drops) (was : Bool) (u : NestedUnit) (us front : List NestedUnit) (t : Bool) → is_dropped drops was u ≡ t
    → bytes_of (kept_after was (drops_of drops) (u ∷ us)) ≡ (if t then bytes_of (kept_after true (drops_of drops) us) else u.unit.bytes ++ bytes_of (kept_after false (drops_of drops) us))
kept_bytes drops was u us front true e = ap (λ q. bytes_of (if q then kept_after true (drops_of drops) us else u ∷ kept_after false (drops_of drops) us)) e
kept_bytes drops was u us front false e = ap (λ q. bytes_of (if q then kept_after true (drops_of drops) us else u ∷ kept_after false (drops_of drops) us)) e

pub kept_step : (drops : Drops) (was : Bool) (u : NestedUnit) (us : List NestedUnit) (front : List ℕ) (t : Bool) → is_dropped drops was u ≡ t
    → (front ++ (if t then [] else u.unit.bytes)) ++ bytes_of (kept_after t (drops_of drops) us) ≡ front ++ bytes_of (kept_after was (drops_of drops) (u ∷ us))
kept_step drops was u us front true e =
    ap (λ t. t ++ bytes_of (kept_after true (drops_of drops) us)) (append-nil front) ∙ ap (λ t. front ++ t) (sym (kept_bytes drops was u us [] true e))
kept_step drops was u us front false e =
    append_assoc front u.unit.bytes (bytes_of (kept_after false (drops_of drops) us)) ∙ ap (λ t. front ++ t) (sym (kept_bytes drops was u us [] false e))

-- what was kept, and whether the unit before was dropped
record Sifted : Type 0 where
  pub front : List ℕ
  pub was : Bool

abbrev makes : Drops → Sifted → List NestedUnit → List ℕ
makes drops s us = s.front ++ bytes_of (kept_after s.was (drops_of drops) us)

abbrev next : Drops → Sifted → NestedUnit → Sifted
next drops s u = let t = is_dropped drops s.was u in record { front = s.front ++ (if t then [] else u.unit.bytes); was = t }

abbrev pass : Sifted → List ℕ → Sifted
pass s bytes = record { front = s.front ++ bytes; was = false }

follows : (drops : Drops) → Follows (makes drops) (next drops) pass
follows drops = record {
  one = λ s u us. kept_step drops s.was u us s.front (is_dropped drops s.was u) refl;
  plain = λ s u h. ap (λ t. record { front = s.front ++ (if t then [] else u.unit.bytes); was = t }) (plain_kept drops s.was u h);
  both = λ s a b. ap (λ t. record { front = t; was = false }) (append_assoc s.front a b);
}

-- in terms of a loop: one more unit is kept or dropped
pub filter_more : (drops : Drops) (was dropped : Bool) (front new : List ℕ) (p q : WalkPlace) (u : TextUnit) (whole : Result (List ℕ) FaultyBlock)
    → 0 < length p.rest → IsPieceOf u p.rest → q ≡ past_unit u p → dropped ≡ is_dropped drops was (at_depth p.depth u)
    → new ≡ front ++ (if dropped then [] else take (length u.bytes) p.rest)
    → filter_on drops front was p.depth p.at p.rest ≡ whole → filter_on drops new dropped q.depth q.at q.rest ≡ whole
filter_more drops was dropped front new p q u whole some piece b dr nw i =
    let r : WalkPlace = past_unit u p in
    let v : NestedUnit = at_depth p.depth u in
    ap (λ t. filter_on drops new dropped t.depth t.at t.rest) b
    ∙ ap (λ t. filter_on drops t dropped r.depth r.at r.rest) (nw ∙ ap (λ t. front ++ (if dropped then [] else t)) (sym (piece_front u p.rest piece.is)))
    ∙ ap (λ t. filter_on drops (front ++ (if t then [] else u.bytes)) t r.depth r.at r.rest) dr
    ∙ piece_on (follows drops) (record { front = front; was = was }) p.depth p.at p.rest u some piece.is ∙ i

-- the last byte
step_back : (b c : ℕ) (bs : List ℕ) (d : ℕ) → get_or (b ∷ c ∷ bs) (length (b ∷ c ∷ bs) - 1) d ≡ get_or (c ∷ bs) (length (c ∷ bs) - 1) d
step_back b c bs d =
    let e : suc (suc (length bs)) - 1 ≡ suc (length bs) = omega arith in
    let f : suc (length bs) - 1 ≡ length bs = omega arith in
    ap (λ k. get_or (b ∷ c ∷ bs) k d) e ∙ ap (λ k. get_or (c ∷ bs) k d) (sym f)

pub ended_at : (xs : List ℕ) (d : ℕ) (t : Bool) → 0 < length xs → is_end (get_or xs (length xs - 1) d) ≡ t → ended xs ≡ (if t then xs else xs ++ 10 ∷ [])
ended_at [] d t h e = absurd (omega (arith, h))
ended_at (b ∷ []) d true h e = rw e refl
ended_at (b ∷ []) d false h e = rw e refl
ended_at (b ∷ c ∷ bs) d true h e = ap (λ t. b ∷ t) (ended_at (c ∷ bs) d true (omega arith) (ap is_end (sym (step_back b c bs d)) ∙ e))
ended_at (b ∷ c ∷ bs) d false h e = ap (λ t. b ∷ t) (ended_at (c ∷ bs) d false (omega arith) (ap is_end (sym (step_back b c bs d)) ∙ e))

pub end_wanted : (xs : List ℕ) (byte : ℕ) (d : ℕ) (t : Bool) → 0 < length xs → byte ≡ get_or xs (length xs - 1) d → t ≡ is_end byte → ended xs ≡ (if not t then xs ++ 10 ∷ [] else xs)
end_wanted xs byte d true h e w = ended_at xs d true h (ap is_end (sym e) ∙ sym w)
end_wanted xs byte d false h e w = ended_at xs d false h (ap is_end (sym e) ∙ sym w)

-- a header's part that is cut without a fault
pub header_found : (drops : Drops) (front text : List ℕ) → cut text ≡ Ok (or_none (cut text)) → filter_on drops front false 0 0 text ≡ Ok (front ++ bytes_of (kept (drops_of drops) (units_of text)))
header_found drops front text c = ap (of_units (λ us. front ++ bytes_of (kept_after false (drops_of drops) (nested us)))) c

-- lines have a text, if there are any
pub without_lines : (rows : List (List ℕ)) → length (lines_text rows) ≡ 0 → drops_of DocumentSetup ≡ drops_with rows
without_lines [] e = refl
without_lines (l ∷ ls) e = absurd (let whole = length-append (line l) (lines_text ls) in let one = length-append l (10 ∷ []) in omega (arith, whole, one, e))

pub with_some_lines : (rows : List (List ℕ)) → 0 < length (lines_text rows) → drops_of SetupAndPapers ≡ drops_with rows
with_some_lines [] e = absurd (omega (arith, e))
with_some_lines (l ∷ ls) e = refl

abbrev kept_or : Result (List ℕ) FaultyBlock → List ℕ
kept_or (Ok x) = x
kept_or (Err e) = []

pub same_found : (r : Result (List ℕ) FaultyBlock) (x y : List ℕ) → r ≡ Ok x → r ≡ Ok y → x ≡ y
same_found r x y e f = ap kept_or (sym e ∙ f)

pub no_fault : (r : Result (List ℕ) FaultyBlock) (x : List ℕ) (e : FaultyBlock) → r ≡ Ok x → r ≡ Err e → ⊥
no_fault (Ok v) x e f g = cc
no_fault (Err d) x e f g = cc
