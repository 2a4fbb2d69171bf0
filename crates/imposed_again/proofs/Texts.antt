-- Units one after the other.
use Rattle.std.specs.Prelude.{Ok, flat_map, map}
use Rattle.std.proofs.lemmas.Bool.{eqb-true}
use Rattle.std.proofs.lemmas.Grind.{flat_map-append}
use Rattle.dsc.proofs.Cases.{by_test}
use Rattle.std.proofs.Common.{eqb, ◌&&◌, true, false, append_assoc, ◌≡◌, ℕ, ◌<◌, List, [], ◌∷◌, ◌++◌, length, drop, refl, ap, arith, length-append, sym, ◌∙◌, subst}
use Rattle.std.proofs.lemmas.List.{append-nil}
use Rattle.std.proofs.Math.Seq.{drop-append_seam}
use Rattle.rules.specs.Bytes.{line}
use Rattle.rules.specs.Units.{is_end, TextUnit, first_unit, cut, AreUnits}
use Rattle.rules.proofs.CutUnits.{cut_is_units, unit_some}
use Rattle.rules.proofs.Whole.{units_make_text}
use Rattle.imposed_again.specs.Seams.{joined, no_ends, IsLine, line_unit, AreLines, LinesPutIn, UnitsJoin, UnitStays, lf, ends}
use Rattle.imposed_again.proofs.LinesMeet.{ends_drop, clash}
use Rattle.imposed_again.proofs.UnitsMeet.{not_end, unit_same, first_line}

pub are_units : (text : List ℕ) (us : List TextUnit) → cut text ≡ Ok us → AreUnits text us
are_units text us e = (cut_is_units text us).0 e

pub units_are : (text : List ℕ) (us : List TextUnit) → AreUnits text us → cut text ≡ Ok us
units_are text us e = (cut_is_units text us).1 e

pub joined_is : (text : List ℕ) (us : List TextUnit) → AreUnits text us → joined us ≡ text
joined_is text us h = units_make_text text us (units_are text us h)

pub some_unit : (text : List ℕ) (u : TextUnit) → 0 < length text → first_unit text ≡ Ok u → 0 < length u.bytes
some_unit [] u l e = absurd (omega (arith, l))
some_unit (b ∷ bs) u l e = unit_some b bs u e

pub rest_of : (a b r : List ℕ) → drop (length a) ((a ++ b) ++ r) ≡ b ++ r
rest_of a b r = ap (drop (length a)) (append_assoc a b r) ∙ drop-append_seam a (b ++ r)

-- units stay before another text, if it begins with no line feed, or the first one did
pub stay_before : (us : List TextUnit) (r s : List ℕ) (vs ws : List TextUnit) → AreUnits (joined us ++ r) (us ++ vs) → (lf s ≡ true → lf r ≡ true)
    → (r ≡ [] → 0 < length (joined us) → ends (joined us) ≡ true) → AreUnits s ws → AreUnits (joined us ++ s) (us ++ ws)
stay_before [] r s vs ws h j k m = m
stay_before (u ∷ us) r s vs ws h j k m =
    let x : List ℕ = u.bytes ++ joined us in
    let some : 0 < length u.bytes = some_unit (x ++ r) u h.0 h.1 in
    let size = length-append u.bytes (joined us) in
    let here : 0 < length x = omega (arith, some, size) in
    let tail : AreUnits (joined us ++ r) (us ++ vs) = subst (λ t. AreUnits t (us ++ vs)) (rest_of u.bytes (joined us) r) h.2 in
    let last : r ≡ [] → 0 < length (joined us) → ends (joined us) ≡ true =
    λ e l. subst (λ t. ends t ≡ true) (drop-append_seam u.bytes (joined us)) (ends_drop (length u.bytes) x (k e here) (subst (λ t. 0 < length t) (sym (drop-append_seam u.bytes (joined us))) l)) in (
      omega (arith, here, length-append x s),
      unit_same x r s u h.1 (omega (arith, size)) j (λ e. k e here),
      subst (λ t. AreUnits t (us ++ ws)) (sym (rest_of u.bytes (joined us) s)) (stay_before us r s vs ws tail j last m),
    )

-- a text that ends with a line end, followed by another
pub units_join : (a b : List ℕ) (us vs : List TextUnit) → AreUnits a us → (0 < length a → ends a ≡ true) → lf b ≡ false → AreUnits b vs → AreUnits (a ++ b) (us ++ vs)
units_join a b us vs h e f m =
    let whole : joined us ≡ a = joined_is a us h in
    let alone : AreUnits (joined us ++ []) (us ++ []) = subst (λ t. AreUnits t (us ++ [])) (sym (append-nil (joined us) ∙ whole)) (subst (AreUnits a) (sym (append-nil us)) h) in
    subst (λ t. AreUnits (t ++ b) (us ++ vs)) whole
    (stay_before us [] b [] vs alone (λ t. clash (lf b) t f) (λ _ l. subst (λ t. ends t ≡ true) (sym whole) (e (subst (λ t. 0 < length t) whole l))) m)

-- the text has these units, whatever follows it
abbrev pub Goes : List ℕ → List TextUnit → Type 0
Goes text us = (r : List ℕ) (vs : List TextUnit) → AreUnits r vs → AreUnits (text ++ r) (us ++ vs)

pub goes_append : (a b : List ℕ) (us vs : List TextUnit) → Goes a us → Goes b vs → Goes (a ++ b) (us ++ vs)
goes_append a b us vs g h r ws m =
    subst (λ t. AreUnits t ((us ++ vs) ++ ws)) (sym (append_assoc a b r)) (subst (AreUnits (a ++ (b ++ r))) (sym (append_assoc us vs ws)) (g (b ++ r) (vs ++ ws) (h r ws m)))

pub goes_line : (c : List ℕ) → IsLine c → Goes (line c) (line_unit c ∷ [])
goes_line c h r vs m =
    (omega (arith, length-append (line c) r, length-append c (10 ∷ [])), first_line c r h, subst (λ t. AreUnits t vs) (sym (drop-append_seam (line c) r)) m)

pub goes_lines : (cs : List (List ℕ)) → AreLines cs → Goes (flat_map line cs) (map line_unit cs)
goes_lines [] h r vs m = m
goes_lines (c ∷ cs) h r vs m = goes_append (line c) (flat_map line cs) (line_unit c ∷ []) (map line_unit cs) (goes_line c h.0) (goes_lines cs h.1) r vs m

-- Inserted lines.

begins_other : (c r : List ℕ) → 0 < length c → no_ends c ≡ true → lf (c ++ r) ≡ false
begins_other [] r l h = absurd (omega (arith, l))
begins_other (b ∷ bs) r l h = by_test (eqb 10 b)
    (λ is. clash (is_end b) (subst (λ k. is_end k ≡ true) (eqb-true 10 b is) refl) (not_end (is_end b) (no_ends bs) h))
    (λ isnt. ap (λ t. t && true) isnt)

pub units_behind : (us : List TextUnit) (r : List ℕ) (vs : List TextUnit) → AreUnits (joined us ++ r) (us ++ vs) → AreUnits r vs
units_behind [] r vs h = h
units_behind (u ∷ us) r vs h = units_behind us r vs (subst (λ t. AreUnits t (us ++ vs)) (rest_of u.bytes (joined us) r) h.2)

pub joined_append : (us vs : List TextUnit) → joined (us ++ vs) ≡ joined us ++ joined vs
joined_append us vs = flat_map-append (λ u. u.bytes) us vs

some_text : (us : List TextUnit) → 0 < length us → AreUnits (joined us) us → joined us ≡ [] → ⊥
some_text [] l h e = omega (arith, l)
some_text (u ∷ us) l h e = let some = h.0 in let size : length (joined (u ∷ us)) ≡ 0 = ap length e in omega (arith, some, size)

pub lines_put_in : LinesPutIn
lines_put_in front back first more e l k h =
    let new : List ℕ = flat_map line (first ∷ more) in
    let all : AreUnits (joined front ++ joined back) (front ++ back) = subst (λ t. AreUnits t (front ++ back)) (joined_append front back) (are_units (joined (front ++ back)) (front ++ back) e) in
    let rest : AreUnits (joined back) back = units_behind front (joined back) back all in
    let behind : AreUnits (new ++ joined back) (map line_unit (first ∷ more) ++ back) = goes_lines (first ∷ more) h (joined back) back rest in
    let other : lf (new ++ joined back) ≡ false =
    ap lf (append_assoc (line first) (flat_map line more) (joined back) ∙ append_assoc first (10 ∷ []) (flat_map line more ++ joined back)) ∙ begins_other first (10 ∷ (flat_map line more ++ joined back)) k h.0.0 in
    units_are (joined front ++ (new ++ joined back)) (front ++ (map line_unit (first ∷ more) ++ back))
    (stay_before front (joined back) (new ++ joined back) back (map line_unit (first ∷ more) ++ back) all (λ t. clash (lf (new ++ joined back)) t other) (λ z _. absurd (some_text back l rest z)) behind)

pub units_joined : UnitsJoin
units_joined a b us vs e f g h = units_are (a ++ b) (us ++ vs) (units_join a b us vs (are_units a us e) g h (are_units b vs f))

pub unit_stays : UnitStays
unit_stays = unit_same
