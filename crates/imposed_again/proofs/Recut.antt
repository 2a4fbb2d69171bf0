-- Units, some of which were left out, joined and cut again.
use mathlib.Core.Logic.{◌⊎◌, inl, inr}
use Rattle.std.specs.Prelude.{Result, Ok, Option, Some, None, if◌then◌else◌}
use Rattle.std.proofs.Common.{eqb, ◌&&◌, Bool, true, false, append_assoc, ◌≡◌, ℕ, ◌<◌, List, [], ◌∷◌, ◌++◌, length, drop, refl, ap, arith, length-append, sym, ◌∙◌, subst}
use Rattle.std.proofs.lemmas.Bool.{eqb-true}
use Rattle.std.proofs.lemmas.List.{append-nil}
use Rattle.std.proofs.Math.Seq.{drop-append_seam, take-append_seam}
use Rattle.rules.specs.Units.{TextUnit, BlockFault, first_unit, AreUnits}
use Rattle.rules.specs.Parts.{NestedUnit, depth_after}
use Rattle.dsc.proofs.Cases.{by_test}
use Rattle.dsc.proofs.Fronts.{first_unit-take}
use Rattle.imposed_again.specs.Seams.{joined, passes, line_unit, lf}
use Rattle.imposed_again.proofs.LinesMeet.{clash}
use Rattle.imposed_again.proofs.UnitsMeet.{unit_same, fed, fed_unit, first_line}
use Rattle.imposed_again.proofs.Splits.{at_depth}
use Rattle.imposed_again.proofs.Texts.{some_unit, rest_of}

-- the unit can be followed by a percent sign, and so by anything but a line feed
abbrev pub Stands : TextUnit → Type 0
Stands u = first_unit (u.bytes ++ 37 ∷ []) ≡ Ok u

-- each is the unit of its bytes, and all but the last can be followed by more
abbrev pub Row : List TextUnit → Type 0
Row [] = Unit {0}
Row (u ∷ us) = (0 < length u.bytes) × (first_unit u.bytes ≡ Ok u) × (0 < length us → Stands u) × Row us

-- the same, but the last may lack an end before a line feed
abbrev pub Loose : List TextUnit → Type 0
Loose [] = Unit {0}
Loose (u ∷ us) = (0 < length u.bytes) × (first_unit u.bytes ≡ Ok u) × (0 < length us → lf (joined us) ≡ false → Stands u) × Loose us

abbrev pub feed_unit : TextUnit
feed_unit = line_unit []

pub loose : (us : List TextUnit) → Row us → Loose us
loose [] h = tt
loose (u ∷ us) h = (h.0, h.1, (λ l _. h.2 l), loose us h.3)

-- a row followed by a line feed
pub loose_feed : (us : List TextUnit) → Row us → Loose (us ++ feed_unit ∷ [])
loose_feed [] h = (omega arith, first_line [] [] (refl, refl), (λ l _. absurd (omega (arith, l))), tt)
loose_feed (u ∷ []) h = (h.0, h.1, (λ _ e. clash true refl e), loose_feed [] tt)
loose_feed (u ∷ v ∷ us) h = (h.0, h.1, (λ _ _. h.2 (omega arith)), loose_feed (v ∷ us) h.3)

front_of : (x r : List ℕ) (u : TextUnit) → u.bytes ≡ x → first_unit (x ++ r) ≡ Ok u → first_unit x ≡ Ok u
front_of x r u b e = sym (ap first_unit (take-append_seam x r)) ∙ first_unit-take (x ++ r) u (length x) e (let size : length u.bytes ≡ length x = ap length b in omega (arith, size))

-- the units of a text are such a row
pub row_of : (us : List TextUnit) (r : List ℕ) (vs : List TextUnit) → AreUnits (joined us ++ r) (us ++ vs) → Row us
row_of [] r vs h = tt
row_of (u ∷ us) r vs h =
    let tail : AreUnits (joined us ++ r) (us ++ vs) = subst (λ t. AreUnits t (us ++ vs)) (rest_of u.bytes (joined us) r) h.2 in
    let here : first_unit (u.bytes ++ (joined us ++ r)) ≡ Ok u = sym (ap first_unit (append_assoc u.bytes (joined us) r)) ∙ h.1 in (
      some_unit ((u.bytes ++ joined us) ++ r) u h.0 h.1,
      front_of u.bytes (joined us ++ r) u refl here,
      (λ l. unit_same u.bytes (joined us ++ r) (37 ∷ []) u here (omega arith) (λ e. cc) (λ e. absurd (none us r vs l tail e))),
      row_of us r vs tail,
    )
  where
    none : (us : List TextUnit) (r : List ℕ) (vs : List TextUnit) → 0 < length us → AreUnits (joined us ++ r) (us ++ vs) → joined us ++ r ≡ [] → ⊥
    none [] r vs l m e = omega (arith, l)
    none (w ∷ us) r vs l m e = let some = m.0 in let size : length (joined (w ∷ us) ++ r) ≡ 0 = ap length e in omega (arith, some, size)

-- the test depends on a unit's content and kind, not on its bytes; and an empty line doesn't pass it
pub record Blind (t : NestedUnit → Bool) : Type 0 where
  pub fed_too : (d : ℕ) (u : TextUnit) → t (at_depth d (fed u)) ≡ t (at_depth d u)
  pub empty_line : (d : ℕ) → t (at_depth d (line_unit [])) ≡ false

abbrev pub head_of : List TextUnit → Option (List ℕ × Bool)
head_of [] = None
head_of (u ∷ us) = Some (u.content, u.is_block)

-- the units into which the row is cut
pub record Recut (t : NestedUnit → Bool) (us : List TextUnit) : Type 0 where
  pub units : List TextUnit
  pub are : AreUnits (joined us) units
  pub same : (d : ℕ) → passes t d units ≡ passes t d us
  pub first : head_of units ≡ head_of us

goes_on : (u : TextUnit) (us : List TextUnit) (t : NestedUnit → Bool) → 0 < length u.bytes → first_unit (u.bytes ++ joined us) ≡ Ok u → Recut t us → Recut t (u ∷ us)
goes_on u us t some e c =
    record {
      units = u ∷ c.units;
      are = (omega (arith, some, length-append u.bytes (joined us)), e, subst (λ x. AreUnits x c.units) (sym (drop-append_seam u.bytes (joined us))) c.are);
      same = λ d. ap (λ r. if t (at_depth d u) then None else r) (c.same (depth_after d u));
      first = refl;
    }

and_first : (a b : Bool) → (a && b) ≡ true → a ≡ true
and_first true b e = refl
and_first false b e = e

lf_first : (x : List ℕ) → lf x ≡ true → x ≡ 10 ∷ drop 1 x
lf_first [] e = cc
lf_first (b ∷ bs) e = ap (λ k. k ∷ bs) (sym (eqb-true 10 b (and_first (eqb 10 b) true e)))

same_unit : {u v : TextUnit} (r : Result TextUnit BlockFault) → r ≡ Ok u → r ≡ Ok v → u ≡ v
same_unit r e f = cc

-- the unit takes the line feed of an empty line
takes_feed : (u : TextUnit) (us : List TextUnit) (t : NestedUnit → Bool) (ys : List ℕ) (vs : List TextUnit) → Blind t → joined us ≡ 10 ∷ ys → first_unit (u.bytes ++ 10 ∷ ys) ≡ Ok (fed u)
    → AreUnits (10 ∷ ys) vs → ((d : ℕ) → passes t d vs ≡ passes t d us) → Recut t (u ∷ us)
takes_feed u us t ys [] b j e m s = cc
takes_feed u us t ys (v ∷ vs) b j e m s =
    let is : v ≡ line_unit [] = same_unit (first_unit (10 ∷ ys)) m.1 (first_line [] ys (refl, refl)) in
    let after : AreUnits ys vs = subst (λ w. AreUnits (drop (length w.bytes) (10 ∷ ys)) vs) is m.2 in
    let skip : (d : ℕ) → passes t d (v ∷ vs) ≡ passes t d vs = λ d. ap (λ w. passes t d (w ∷ vs)) is ∙ ap (λ c. if c then None else passes t d vs) (b.empty_line d) in
    record {
      units = fed u ∷ vs;
      are = subst (λ x. AreUnits (u.bytes ++ x) (fed u ∷ vs)) (sym j)
          (omega (arith, length-append u.bytes (10 ∷ ys)), e, subst (λ x. AreUnits x vs) (sym (ap (drop (length (fed u).bytes)) (sym (append_assoc u.bytes (10 ∷ []) ys)) ∙ drop-append_seam (fed u).bytes ys)) after);
      same = λ d. ap (λ c. if c then None else passes t (depth_after d u) vs) (b.fed_too d u)
          ∙ ap (λ r. if t (at_depth d u) then None else r) (sym (skip (depth_after d u)) ∙ s (depth_after d u));
      first = refl;
    }

meets : (u : TextUnit) (us : List TextUnit) (t : NestedUnit → Bool) (ys : List ℕ) → Blind t → 0 < length u.bytes → joined us ≡ 10 ∷ ys → Recut t us
    → ((first_unit (u.bytes ++ 10 ∷ ys) ≡ Ok u) ⊎ (first_unit (u.bytes ++ 10 ∷ ys) ≡ Ok (fed u))) → Recut t (u ∷ us)
meets u us t ys b some j c (inl p) = goes_on u us t some (ap (λ x. first_unit (u.bytes ++ x)) j ∙ p) c
meets u us t ys b some j c (inr p) = takes_feed u us t ys c.units b j p (subst (λ x. AreUnits x c.units) j c.are) c.same

-- a row, joined, is cut into units that pass and nest in the same way. An empty line is lost where its line feed
-- follows a line that ends with CR
pub recut : (t : NestedUnit → Bool) → Blind t → (us : List TextUnit) → Loose us → Recut t us
recut t b [] h = record { units = []; are = refl; same = λ d. refl; first = refl }
recut t b (u ∷ []) h = goes_on u [] t h.0 (ap first_unit (append-nil u.bytes) ∙ h.1) (record { units = []; are = refl; same = λ d. refl; first = refl })
recut t b (u ∷ v ∷ us) h =
    let later : Recut t (v ∷ us) = recut t b (v ∷ us) h.3 in
    let text : List ℕ = joined (v ∷ us) in
    by_test (lf text)
    (λ is. meets u (v ∷ us) t (drop 1 text) b h.0 (lf_first text is) later (fed_unit u.bytes (drop 1 text) u h.1 refl))
    (λ isnt. goes_on u (v ∷ us) t h.0 (unit_same u.bytes (37 ∷ []) text u (h.2 (omega arith) isnt) (omega arith) (λ e. clash (lf text) e isnt) (λ e. cc)) later)
