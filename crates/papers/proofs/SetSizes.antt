-- Each sheet begins with its own page size.
use mathlib.Core.Logic.{◌⊎◌, inl, inr}
use Rattle.std.specs.Prelude.{codes, map, slice_get, ◌&&◌, ◌||◌, if◌then◌else◌}
use Rattle.std.specs.List.{list_any}
use Rattle.std.specs.Ordering.{int_eq}
use Rattle.std.proofs.Common.{◌≡◌, ℕ, zero, suc, List, [], ◌∷◌, ◌++◌, Bool, true, false, true≢false, Some, take, refl, sym, ap, subst, ◌∙◌}
use Rattle.std.proofs.lemmas.Bool.Decides.{Decides-int_eq}
use Rattle.std.proofs.lemmas.List.Folds.{list_any-append}
use Rattle.lengths.proofs.Numbers.{some_same}
use Rattle.rules.specs.Numbers.{points_text, printed}
use Rattle.rules.specs.Papers.{Paper}
use Rattle.rules.specs.Made.{MadeSheet}
use Rattle.papers.specs.SetSizes.{SetLast, SizeIsSet, StayAsSet}
use Rattle.papers.specs.Reported.{different_from, in_print, is_reported_alike, papers_reported, sheet_lines, size_text, reporting_of}
use Rattle.papers.proofs.Covered.{by_test}

-- ---- papers that are reported alike
both_true : (a b : Bool) → (a && b) ≡ true → (a ≡ true) × (b ≡ true)
both_true true b e = (refl, e)
both_true false b e = absurd (true≢false (sym e))

both : (a b : Bool) → a ≡ true → b ≡ true → (a && b) ≡ true
both true b e f = f
both false b e f = e

-- they have the same sides in print
pub alike_sides : (a b : Paper) → is_reported_alike a b ≡ true → (in_print a.width ≡ in_print b.width) × (in_print a.height ≡ in_print b.height)
alike_sides a b e =
    let w = both_true (int_eq (in_print a.width) (in_print b.width)) (int_eq (in_print a.height) (in_print b.height)) e in
    ((Decides-int_eq (in_print a.width) (in_print b.width)).0 w.0, (Decides-int_eq (in_print a.height) (in_print b.height)).0 w.1)

alike_size : (a b : Paper) → is_reported_alike a b ≡ true → size_text a ≡ size_text b
alike_size a b e =
    let same = alike_sides a b e in
    ap (λ x. printed 5 x ++ (codes " " ++ points_text a.height)) same.0 ∙ ap (λ y. points_text b.width ++ (codes " " ++ printed 5 y)) same.1

pub alike_itself : (a : Paper) → is_reported_alike a a ≡ true
alike_itself a = both (int_eq (in_print a.width) (in_print a.width)) (int_eq (in_print a.height) (in_print a.height))
    ((Decides-int_eq (in_print a.width) (in_print a.width)).1 refl) ((Decides-int_eq (in_print a.height) (in_print a.height)).1 refl)

-- ---- all papers are among those that are reported
first_or : (b c : Bool) → b ≡ true → (b || c) ≡ true
first_or true c e = refl
first_or false c e = absurd (true≢false (sym e))

second_or : (b c : Bool) → c ≡ true → (b || c) ≡ true
second_or true c e = refl
second_or false c e = e

abbrev chosen : List Paper → Paper → List Paper → Bool → List Paper
chosen found p ps b = if b then different_from found ps else different_from (found ++ p ∷ []) ps

found_stays : (t : Paper → Bool) (found ps : List Paper) → list_any t found ≡ true → list_any t (different_from found ps) ≡ true
found_stays t found [] e = e
found_stays t found (p ∷ ps) e = by_test (list_any (is_reported_alike p) found)
    (λ is. ap (λ b. list_any t (chosen found p ps b)) is ∙ found_stays t found ps e)
    (λ isnt. ap (λ b. list_any t (chosen found p ps b)) isnt
    ∙ found_stays t (found ++ p ∷ []) ps (list_any-append t found (p ∷ []) ∙ first_or (list_any t found) (list_any t (p ∷ [])) e))

added : (p : Paper) (found : List Paper) → list_any (is_reported_alike p) (found ++ p ∷ []) ≡ true
added p found =
    list_any-append (is_reported_alike p) found (p ∷ [])
    ∙ second_or (list_any (is_reported_alike p) found) (is_reported_alike p p || false) (first_or (is_reported_alike p p) false (alike_itself p))

is_among : (found all : List Paper) (s : ℕ) (q : Paper) → slice_get all s ≡ Some q → list_any (is_reported_alike q) (different_from found all) ≡ true
is_among found [] s q e = cc
is_among found (p ∷ ps) zero q e =
    subst (λ r. list_any (is_reported_alike r) (different_from found (p ∷ ps)) ≡ true) (some_same p q e)
    (by_test (list_any (is_reported_alike p) found)
    (λ is. ap (λ b. list_any (is_reported_alike p) (chosen found p ps b)) is ∙ found_stays (is_reported_alike p) found ps is)
    (λ isnt. ap (λ b. list_any (is_reported_alike p) (chosen found p ps b)) isnt ∙ found_stays (is_reported_alike p) (found ++ p ∷ []) ps (added p found)))
is_among found (p ∷ ps) (suc s) q e = by_test (list_any (is_reported_alike p) found)
    (λ is. ap (λ b. list_any (is_reported_alike q) (chosen found p ps b)) is ∙ is_among found ps s q e)
    (λ isnt. ap (λ b. list_any (is_reported_alike q) (chosen found p ps b)) isnt ∙ is_among (found ++ p ∷ []) ps s q e)

paper_at : (all : List MadeSheet) (s : ℕ) (sheet : MadeSheet) → slice_get all s ≡ Some sheet → slice_get (map (λ it. it.paper) all) s ≡ Some sheet.paper
paper_at [] s sheet e = cc
paper_at (x ∷ all) zero sheet e = ap (λ it. Some it.paper) (some_same x sheet e)
paper_at (x ∷ all) (suc s) sheet e = paper_at all s sheet e

pub is_told : (all : List MadeSheet) (s : ℕ) (sheet : MadeSheet) → slice_get all s ≡ Some sheet
    → list_any (is_reported_alike sheet.paper) (papers_reported (map (λ it. it.paper) all)) ≡ true
is_told all s sheet e = is_among [] (map (λ it. it.paper) all) s sheet.paper (paper_at all s sheet e)

-- ---- so a sheet sets its own, or all have one
alone : (b : Bool) → (b || false) ≡ true → b ≡ true
alone true e = refl
alone false e = e

by_papers : (told : List Paper) (s : ℕ) (p q : Paper) → list_any (is_reported_alike p) told ≡ true → list_any (is_reported_alike q) told ≡ true
    → SetLast p ((reporting_of told).start s p) ⊎ StayAsSet p ((reporting_of told).start s p) q
by_papers [] s p q e f = absurd (true≢false (sym e))
by_papers (r ∷ []) s p q e f = inr (refl, alike_size q r (alone (is_reported_alike q r) f) ∙ sym (alike_size p r (alone (is_reported_alike p r) e)))
by_papers (r ∷ t ∷ told) s p q e f = inl (take 3 (sheet_lines p), refl)

pub size_is_set : SizeIsSet
size_is_set all s t sheet other e f =
    by_papers (papers_reported (map (λ it. it.paper) all)) s sheet.paper other.paper (is_told all s sheet e) (is_told all t other f)
