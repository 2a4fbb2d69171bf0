-- The cut of a text is refused for its first faulty block.
use Rattle.std.proofs.Common.{arith, ◌≡◌, ℕ, zero, suc, ◌+◌, ◌<◌, ◌≤◌, List, [], ◌∷◌, refl, sym, subst, ◌∙◌, ap, length, drop, length-drop, drop-drop}
use Rattle.std.specs.Prelude.{Result, Ok, Err}
use Rattle.rules.specs.Units.{TextUnit, BlockFault, FaultyBlock, BeginsWith, IsFirstFault, CutFaults, first_unit, cut_from, at_byte, ◌>>=◌}
use Rattle.rules.proofs.CutUnits.{apart_results, none_below, none_fits, shorter, unit_some}

same_err : {A E : Type 0} (e f : E) → ◌≡◌ {A = Result A E} (Err e) (Err f) → e ≡ f
same_err e f p = cc

-- the bytes of the units
abbrev size : List TextUnit → ℕ
size [] = 0
size (u ∷ us) = length u.bytes + size us

behind : (us : List TextUnit) (text rest : List ℕ) → BeginsWith us text rest → rest ≡ drop (size us) text
behind [] text rest h = h
behind (u ∷ us) text rest (some, e, m) = behind us (drop (length u.bytes) text) rest m ∙ drop-drop (size us) (length u.bytes) text

-- what a refused cut has found: units, and a faulty block after them
record Found (at : ℕ) (text : List ℕ) (block : FaultyBlock) : Type 0 where
  units : List TextUnit
  rest : List ℕ
  before : BeginsWith units text rest
  some : 0 < length rest
  faulty : first_unit rest ≡ Err block.fault
  place : block.at ≡ at + size units

-- one unit more in front
one_more : (at b : ℕ) (bs : List ℕ) (u : TextUnit) (block : FaultyBlock) → first_unit (b ∷ bs) ≡ Ok u → Found (at + length u.bytes) (drop (length u.bytes) (b ∷ bs)) block → Found at (b ∷ bs) block
one_more at b bs u block e f =
    let place = f.place in
    record { units = u ∷ f.units; rest = f.rest; before = (omega arith, e, f.before); some = f.some; faulty = f.faulty; place = omega (arith, place) }

found_rest : (u : TextUnit) (block : FaultyBlock) (r : Result (List TextUnit) FaultyBlock) (P : Type 0) → (r ≡ Err block → P) → (r >>= λ us. Ok (u ∷ us)) ≡ Err block → P
found_rest u block (Ok us) P h e = absurd (apart_results block (u ∷ us) (sym e))
found_rest u block (Err f) P h e = h (ap Err (same_err f block e))

found_step : (k at b : ℕ) (bs : List ℕ) (block : FaultyBlock) (r : Result TextUnit BlockFault)
    → ((at : ℕ) (text : List ℕ) → length text ≤ k → cut_from k at text ≡ Err block → Found at text block)
    → length (b ∷ bs) ≤ suc k → first_unit (b ∷ bs) ≡ r
    → (at_byte at r >>= λ u. cut_from k (at + length u.bytes) (drop (length u.bytes) (b ∷ bs)) >>= λ us. Ok (u ∷ us)) ≡ Err block → Found at (b ∷ bs) block
found_step k at b bs block (Ok u) ih l f e =
    found_rest u block (cut_from k (at + length u.bytes) (drop (length u.bytes) (b ∷ bs))) (Found at (b ∷ bs) block)
    (λ c. one_more at b bs u block f (ih (at + length u.bytes) (drop (length u.bytes) (b ∷ bs)) (shorter (length u.bytes) k (b ∷ bs) (unit_some b bs u f) l) c)) e
found_step k at b bs block (Err fault) ih l f e =
    subst (λ z. Found at (b ∷ bs) z) (same_err (record { at = at; fault = fault }) block e)
    (record { units = []; rest = b ∷ bs; before = refl; some = omega arith; faulty = f; place = omega arith })

found : (most at : ℕ) (text : List ℕ) (block : FaultyBlock) → length text ≤ most → cut_from most at text ≡ Err block → Found at text block
found zero at [] block l e = absurd (apart_results block [] (sym e))
found zero at (b ∷ bs) block l e = absurd (none_fits (length bs) l)
found (suc k) at [] block l e = absurd (apart_results block [] (sym e))
found (suc k) at (b ∷ bs) block l e = found_step k at b bs block (first_unit (b ∷ bs)) (λ a t m c. found k a t block m c) l refl e

is_first : (text : List ℕ) (block : FaultyBlock) → Found 0 text block → IsFirstFault text block
is_first text block f =
    let place = f.place in
    let some = f.some in
    let at : block.at ≡ size f.units = omega (arith, place) in
    let rest : f.rest ≡ drop block.at text = behind f.units text f.rest f.before ∙ ap (λ n. drop n text) (sym at) in
    let left = ap length rest in
    record {
      units = f.units;
      before = subst (λ z. BeginsWith f.units text z) rest f.before;
      within = omega (arith, some, left, length-drop block.at text);
      faulty = ap first_unit (sym rest) ∙ f.faulty;
    }

faults : (most at : ℕ) (us : List TextUnit) (text rest : List ℕ) (fault : BlockFault) → length text ≤ most → BeginsWith us text rest → 0 < length rest → first_unit rest ≡ Err fault
    → cut_from most at text ≡ Err (record { at = at + size us; fault = fault })
faults most at us [] rest fault l h some e = absurd (none_left us rest h some)
  where
    none_left : (us : List TextUnit) (rest : List ℕ) → BeginsWith us [] rest → 0 < length rest → ⊥
    none_left [] rest h some = none_below (subst (λ z. 0 < length z) h some)
    none_left (u ∷ us) rest (more, e, m) some = none_below more
faults zero at us (b ∷ bs) rest fault l h some e = absurd (none_fits (length bs) l)
faults (suc k) at [] (b ∷ bs) rest fault l h some e =
    ap (λ z. at_byte at z >>= λ v. cut_from k (at + length v.bytes) (drop (length v.bytes) (b ∷ bs)) >>= λ vs. Ok (v ∷ vs)) (ap first_unit (sym h) ∙ e)
    ∙ ap (λ n. Err (record { at = n; fault = fault })) (omega arith)
faults (suc k) at (u ∷ us) (b ∷ bs) rest fault l (more, f, m) some e =
    ap (λ z. at_byte at z >>= λ v. cut_from k (at + length v.bytes) (drop (length v.bytes) (b ∷ bs)) >>= λ vs. Ok (v ∷ vs)) f
    ∙ ap (λ z. z >>= λ vs. Ok (u ∷ vs))
    (faults k (at + length u.bytes) us (drop (length u.bytes) (b ∷ bs)) rest fault (shorter (length u.bytes) k (b ∷ bs) (unit_some b bs u f) l) m some e)
    ∙ ap (λ n. Err (record { at = n; fault = fault })) (omega arith)

refused : (text : List ℕ) (block : FaultyBlock) → IsFirstFault text block → cut_from (length text) 0 text ≡ Err block
refused text block f =
    let rest : drop block.at text ≡ drop (size f.units) text = behind f.units text (drop block.at text) f.before in
    let left = ap length rest in
    let within = f.within in
    let place : 0 + size f.units ≡ block.at = omega (arith, left, within, length-drop block.at text, length-drop (size f.units) text) in
    faults (length text) 0 f.units text (drop block.at text) block.fault (omega arith) f.before (omega (arith, within, length-drop block.at text)) f.faulty
    ∙ ap (λ n. Err (record { at = n; fault = block.fault })) place

pub cut_faults : CutFaults
cut_faults text block = ((λ e. is_first text block (found (length text) 0 text block (omega arith) e)), (λ f. refused text block f))
