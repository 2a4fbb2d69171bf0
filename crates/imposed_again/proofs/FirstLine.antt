-- The first line of a text of PostScript.
use Rattle.std.specs.Prelude.{Ok, codes, not}
use Rattle.std.specs.List.{starts_with, take_while}
use Rattle.std.proofs.Common.{nat_eq, ◌==◌, ◌||◌, ◌&&◌, cond, Bool, true, false, ◌≡◌, ℕ, zero, suc, ◌-◌, ◌≤◌, List, [], ◌∷◌, ◌++◌, length, take, drop, refl, ap, arith, sym, ◌∙◌}
use Rattle.std.proofs.lemmas.List.{take-append-drop}
use Rattle.std.proofs.lemmas.List.Sums.{take_while-cons}
use Rattle.std.proofs.lemmas.Slice.Eq.{bytes_eq-Decides}
use Rattle.rules.specs.Units.{TextUnit, is_end, is_blank, first_unit, content_of, line_len, key, has_key, is_comment}
use Rattle.rules.specs.Parts.{NestedUnit, begins_page, is_outermost_line}
use Rattle.dsc.proofs.Rows.{unit-front}
use Rattle.imposed_again.proofs.Keys.{key_is}
use Rattle.imposed_again.proofs.LinesMeet.{go_line}
use Rattle.imposed_again.proofs.Splits.{at_depth}
use Rattle.imposed_again.proofs.UnitsMeet.{unit_content}

pub and_first : (a b : Bool) → (a && b) ≡ true → a ≡ true
and_first true b e = refl
and_first false b e = e

pub and_second : (a b : Bool) → (a && b) ≡ true → b ≡ true
and_second true b e = e
and_second false b e = cc

pub page_named : (u : NestedUnit) → begins_page u ≡ true → key u.unit.content ≡ codes "%%Page"
page_named u h = key_is (codes "%%Page") u.unit.content (and_first (has_key (codes "%%Page" ∷ []) u.unit.content) _ (and_second (is_outermost_line u) (is_comment (codes "%%Page") u.unit.content) h))

pub two_on : (text : List ℕ) → starts_with nat_eq text (codes "%!") ≡ true → text ≡ 37 ∷ 33 ∷ drop 2 text
two_on text h = sym (take-append-drop 2 text) ∙ ap (λ t. t ++ drop 2 text) (sym ((bytes_eq-Decides (codes "%!") (take 2 text)).0 h))

two_of : (q : ℕ → Bool) (rest : List ℕ) → q 37 ≡ true → q 33 ≡ true → take_while q (37 ∷ 33 ∷ rest) ≡ 37 ∷ 33 ∷ take_while q rest
two_of q rest a b =
    take_while-cons q 37 (33 ∷ rest) ∙ ap (λ t. cond t (37 ∷ take_while q (33 ∷ rest)) []) a
    ∙ ap (λ t. 37 ∷ t) (take_while-cons q 33 rest ∙ ap (λ t. cond t (33 ∷ take_while q rest) []) b)

-- a first unit whose key and bytes begin as a text of PostScript does
pub record IsFirst (u : TextUnit) : Type 0 where
  pub more : List ℕ
  pub named : key u.content ≡ 37 ∷ 33 ∷ more
  pub rest : List ℕ
  pub written : u.bytes ≡ 37 ∷ 33 ∷ rest

pub taken_two : (k : ℕ) (r : List ℕ) → 2 ≤ k → take k (37 ∷ 33 ∷ r) ≡ 37 ∷ 33 ∷ take (k - 2) r
taken_two zero r h = absurd (omega (arith, h))
taken_two (suc zero) r h = absurd (omega (arith, h))
taken_two (suc (suc k)) r h = ap (λ j. 37 ∷ 33 ∷ take j r) (let e : k ≡ suc (suc k) - 2 = omega arith in e)

pub first_is : (text : List ℕ) (u : TextUnit) → starts_with nat_eq text (codes "%!") ≡ true → first_unit text ≡ Ok u → IsFirst u
first_is text u h e =
    let c = unit_content text u e in
    let r : List ℕ = drop 2 text in
    let two : text ≡ 37 ∷ 33 ∷ r = two_on text h in
    let content : u.content ≡ 37 ∷ 33 ∷ content_of r = c.0 ∙ ap content_of two ∙ two_of (λ b. not (is_end b)) r refl refl in
    let size : line_len text ≡ suc (suc (line_len r)) = ap line_len two ∙ go_line 37 (33 ∷ r) refl ∙ ap suc (go_line 33 r refl) in
    let long : 2 ≤ length u.bytes = (let l = c.1 in omega (arith, l, size)) in
    record {
      more = key (content_of r);
      named = ap key content ∙ two_of (λ b. not (is_blank b || (b == 58))) (content_of r) refl refl;
      rest = take (length u.bytes - 2) r;
      written = unit-front text u e ∙ ap (take (length u.bytes)) two ∙ taken_two (length u.bytes) r long;
    }

pub line_two : (text : List ℕ) → starts_with nat_eq text (codes "%!") ≡ true → 2 ≤ line_len text
line_two text h =
    let r : List ℕ = drop 2 text in
    let size : line_len text ≡ suc (suc (line_len r)) = ap line_len (two_on text h) ∙ go_line 37 (33 ∷ r) refl ∙ ap suc (go_line 33 r refl) in
    omega (arith, size)

pub first_no_page : (u : TextUnit) (d : ℕ) → IsFirst u → begins_page (at_depth d u) ≡ true → ⊥
first_no_page u d f h = let same : 37 ∷ 33 ∷ f.more ≡ codes "%%Page" = sym f.named ∙ page_named (at_depth d u) h in cc
