-- Preamble, sheets and trailer, joined, are cut into the same parts again.
use Rattle.std.specs.Prelude.{Ok, Option, Some, None, codes, decimal, map, flat_map, not, if◌then◌else◌}
use Rattle.std.specs.Str.{bytes_eq}
use Rattle.std.proofs.Common.{◌==◌, ◌||◌, ◌&&◌, Bool, true, false, append_assoc, ◌≡◌, ℕ, zero, suc, ◌<◌, ◌≤◌, List, [], ◌∷◌, ◌++◌, length, refl, ap, arith, length-append, sym, ◌∙◌, subst}
use Rattle.std.proofs.lemmas.List.{append-nil}
use Rattle.std.proofs.lemmas.Slice.Eq.{bytes_eq-Decides}
use Rattle.rules.specs.Bytes.{line}
use Rattle.rules.specs.Units.{TextUnit, first_unit, AreUnits, key, has_key, is_comment}
use Rattle.rules.specs.Parts.{NestedUnit, depth_after, nested_from, nested, begins_page, begins_trailer, up_to, starting_at, preamble, page_run, trailer, split_pages, bytes_of, pages, is_outermost_line}
use Rattle.rules.specs.Filters.{ended, kept, kept_after, drops_in_header, with_count}
use Rattle.dsc.proofs.Cases.{by_test}
use Rattle.dsc.proofs.PartMarks.{exclusive}
use Rattle.dsc.proofs.Alone.{nested-bytes}
use Rattle.dsc.specs.Units.{or_none, units_of}
use Rattle.std.proofs.lemmas.Bool.{eqb-true, ne_eqb}
use Rattle.imposed_again.specs.Seams.{joined, passes, line_unit, no_ends, lf}
use Rattle.imposed_again.specs.Again.{open_depth, AreShut}
use Rattle.imposed_again.proofs.UnitsMeet.{first_line}
use Rattle.imposed_again.proofs.Texts.{Goes, goes_append, units_join, joined_is, units_are}
use Rattle.imposed_again.proofs.Splits.{at_depth, Through, same_some, passes_cons, passes_append, Opens, up_to_passed, from_passed, up_to_open, from_open}
use Rattle.imposed_again.proofs.Recut.{Row, Stands, Recut, recut, loose, head_of}
use Rattle.imposed_again.proofs.Keeps.{is_dropped, kept_units, kept_bytes, kept_row, kept_passes, mild_with, header_key}
use Rattle.imposed_again.proofs.Plainly.{text as plain, ◌then◌, number}
use Rattle.imposed_again.proofs.Pieces.{begins_part, Made, Sheet}
use Rattle.imposed_again.proofs.Pages.{make, page_blind, part_blind, nothing_and}
use Rattle.imposed_again.proofs.FirstLine.{and_second}

-- Sheets in a row.

pub passes_either : (p q : NestedUnit → Bool) (d : ℕ) (us : List TextUnit) (e : ℕ) → passes (λ u. p u || q u) d us ≡ Some e → (passes p d us ≡ Some e) × (passes q d us ≡ Some e)
passes_either p q d [] e h = (h, h)
passes_either p q d (u ∷ us) e h =
    let w = passes_cons (λ u. p u || q u) d u us e h in
    let n = neither (p (at_depth d u)) (q (at_depth d u)) w.0 in
    let i = passes_either p q (depth_after d u) us e w.1 in
    (ap (λ b. if b then None else passes p (depth_after d u) us) n.0 ∙ i.0, ap (λ b. if b then None else passes q (depth_after d u) us) n.1 ∙ i.1)
  where
    neither : (a b : Bool) → (a || b) ≡ false → (a ≡ false) × (b ≡ false)
    neither true b e = cc
    neither false b e = (refl, e)

split_passed : (d : ℕ) (us vs : List TextUnit) (e : ℕ) → passes begins_page d us ≡ Some e → split_pages (nested_from d (us ++ vs)) ≡ split_pages (nested_from e vs)
split_passed d [] vs e h = ap (λ k. split_pages (nested_from k vs)) (let f : d ≡ e = cc in f)
split_passed d (u ∷ us) vs e h =
    let w = passes_cons begins_page d u us e h in
    let more : List NestedUnit = nested_from (depth_after d u) (us ++ vs) in
    ap (λ b. if b then (at_depth d u ∷ up_to begins_page more) ∷ split_pages more else split_pages more) w.0 ∙ split_passed (depth_after d u) us vs e w.1

abbrev pub EachSheet : Type 0 → List (List ℕ) → Type 0
EachSheet c [] = Unit {0}
EachSheet c (t ∷ ts) = Sheet c t × EachSheet c ts

pub record Sheets (c : Type 0) (ts : List (List ℕ)) : Type 0 where
  pub units : List TextUnit
  pub goes : Goes (flat_map (λ t. t) ts) units
  pub through : Through begins_trailer units
  pub shut : c → (passes begins_trailer 0 units ≡ Some 0) × AreShut ts
  pub opens : Opens begins_page 0 units
  pub none : length ts ≡ 0 → units ≡ []
  pub some : 0 < length ts → 0 < length units
  pub starts : (r : List ℕ) → 0 < length ts → lf (flat_map (λ t. t) ts ++ r) ≡ false
  -- how many pages they are, from any depth; and which pages, if they are shut
  pub few : (d : ℕ) → length (split_pages (nested_from d units)) ≤ length ts
  pub fewer : (d : ℕ) → 0 < d → 0 < length ts → length (split_pages (nested_from d units)) < length ts
  pub seen : 0 < length ts → 0 < length (split_pages (nested_from 0 units))
  pub parts : AreShut ts → map bytes_of (split_pages (nested_from 0 units)) ≡ ts
  pub exact : length (split_pages (nested_from 0 units)) ≡ length ts → AreShut ts

no_sheets : (c : Type 0) → Sheets c []
no_sheets c =
    record {
      units = [];
      goes = λ r vs m. m;
      through = λ d. (d, refl);
      shut = λ _. (refl, tt);
      opens = tt;
      none = λ _. refl;
      some = λ l. l;
      starts = λ r l. absurd (omega (arith, l));
      few = λ d. omega arith;
      fewer = λ d h l. l;
      seen = λ l. l;
      parts = λ _. refl;
      exact = λ _. tt;
    }

sheet_are : (t : List ℕ) (us : List TextUnit) → Goes t us → AreUnits t us
sheet_are t us g = subst (λ x. AreUnits x us) (append-nil t) (subst (AreUnits (t ++ [])) (append-nil us) (g [] [] refl))

-- the depth after units that pass a test
pub depth_is : (t : NestedUnit → Bool) (d : ℕ) (us : List TextUnit) (e : ℕ) → passes t d us ≡ Some e → 0 < length us → open_depth (nested_from d us) ≡ e
depth_is t d [] e h l = absurd (omega (arith, l))
depth_is t d (u ∷ []) e h l = let w = passes_cons t d u [] e h in same_some (depth_after d u) e w.1
depth_is t d (u ∷ v ∷ us) e h l = let w = passes_cons t d u (v ∷ us) e h in depth_is t (depth_after d u) (v ∷ us) e w.1 (omega arith)

-- the depth after a sheet
sheet_depth : (c : Type 0) (t : List ℕ) (s : Sheet c t) (e : ℕ) → passes begins_part 0 s.rest ≡ Some e → open_depth (units_of t) ≡ e
sheet_depth c t s e h =
    let w = passes_either begins_page begins_trailer 0 s.rest e h in
    ap (λ r. open_depth (nested (or_none r))) (units_are t (s.page ∷ s.rest) (sheet_are t (s.page ∷ s.rest) s.goes))
    ∙ depth_is begins_trailer 0 (s.page ∷ s.rest) e
    (ap (λ b. if b then None else passes begins_trailer (depth_after 0 s.page) s.rest) (exclusive (at_depth 0 s.page) s.begins) ∙ ap (λ d. passes begins_trailer d s.rest) (s.outside 0) ∙ w.1) (omega arith)

no_trailer : (c : Type 0) (t : List ℕ) (s : Sheet c t) (d : ℕ) → begins_trailer (at_depth d s.page) ≡ false
no_trailer c t s d = by_test (d == 0)
    (λ is. subst (λ k. begins_trailer (at_depth k s.page) ≡ false) (sym (eqb-true d 0 is)) (exclusive (at_depth 0 s.page) s.begins))
    (λ isnt. ap (λ b. (b && not s.page.is_block) && has_key (codes "%%Trailer" ∷ codes "%%EOF" ∷ []) s.page.content) isnt)

no_page : (d : ℕ) (u : TextUnit) → 0 < d → begins_page (at_depth d u) ≡ false
no_page d u l = ap (λ b. (b && not u.is_block) && is_comment (codes "%%Page") u.content) (ne_eqb d 0 (omega (arith, l)))

-- after the page line
inner_split : (c : Type 0) (t : List ℕ) (s : Sheet c t) (us : List TextUnit) (d : ℕ) → split_pages (nested_from (depth_after d s.page) (s.rest ++ us)) ≡ split_pages (nested_from (s.through d).0 us)
inner_split c t s us d =
    ap (λ k. split_pages (nested_from k (s.rest ++ us))) (s.outside d)
    ∙ split_passed d s.rest us (s.through d).0 (passes_either begins_page begins_trailer d s.rest (s.through d).0 (s.through d).1).0

abbrev counted : Bool → ℕ → ℕ
counted b n = if b then suc n else n

how_many : (c : Type 0) (t : List ℕ) (s : Sheet c t) (us : List TextUnit) (d : ℕ)
    → length (split_pages (nested_from d (s.page ∷ (s.rest ++ us)))) ≡ counted (begins_page (at_depth d s.page)) (length (split_pages (nested_from (s.through d).0 us)))
how_many c t s us d =
    turn (begins_page (at_depth d s.page)) (at_depth d s.page ∷ up_to begins_page (nested_from (depth_after d s.page) (s.rest ++ us))) (split_pages (nested_from (depth_after d s.page) (s.rest ++ us)))
    ∙ ap (λ ps. counted (begins_page (at_depth d s.page)) (length ps)) (inner_split c t s us d)
  where
    turn : (b : Bool) (p : List NestedUnit) (ps : List (List NestedUnit)) → length (if b then p ∷ ps else ps) ≡ counted b (length ps)
    turn true p ps = refl
    turn false p ps = refl

counted_most : (b : Bool) (n m : ℕ) → n ≤ m → counted b n ≤ suc m
counted_most true n m h = omega (arith, h)
counted_most false n m h = omega (arith, h)

not_some : (d : ℕ) → (0 < d → ⊥) → d ≡ 0
not_some zero h = refl
not_some (suc d) h = absurd (h (omega arith))

-- if each but the last is shut, the first is shut, or it is the last
first_shut : (c : Type 0) (t : List ℕ) (ts : List (List ℕ)) (s : Sheet c t) (m : Sheets c ts) → AreShut (t ∷ ts) → Opens begins_page (s.through 0).0 m.units × (map bytes_of (split_pages (nested_from (s.through 0).0 m.units)) ≡ ts)
first_shut c t [] s m h = let n : m.units ≡ [] = m.none refl in
    (subst (Opens begins_page (s.through 0).0) (sym n) tt, ap (λ us. map bytes_of (split_pages (nested_from (s.through 0).0 us))) n)
first_shut c t (v ∷ ts) s m h =
    let e : (s.through 0).0 ≡ 0 = sym (sheet_depth c t s (s.through 0).0 (s.through 0).1) ∙ h.0 in
    (subst (λ k. Opens begins_page k m.units) (sym e) m.opens, ap (λ k. map bytes_of (split_pages (nested_from k m.units))) e ∙ m.parts h.1)

exact_by : (c : Type 0) (t : List ℕ) (ts : List (List ℕ)) (s : Sheet c t) (m : Sheets c ts) → length (split_pages (nested_from (s.through 0).0 m.units)) ≡ length ts → AreShut (t ∷ ts)
exact_by c t [] s m h = tt
exact_by c t (v ∷ ts) s m h =
    let e : (s.through 0).0 ≡ 0 = not_some (s.through 0).0 (λ l. let f = m.fewer (s.through 0).0 l (omega arith) in omega (arith, f, h)) in
    (sheet_depth c t s (s.through 0).0 (s.through 0).1 ∙ e, m.exact (sym (ap (λ k. length (split_pages (nested_from k m.units))) e) ∙ h))

shut_by : (c : Type 0) (t : List ℕ) (ts : List (List ℕ)) (s : Sheet c t) → c → AreShut ts → AreShut (t ∷ ts)
shut_by c t [] s x h = tt
shut_by c t (v ∷ ts) s x h = (sheet_depth c t s 0 (s.shut x), h)

more_sheets : (c : Type 0) (t : List ℕ) (ts : List (List ℕ)) → Sheet c t → Sheets c ts → Sheets c (t ∷ ts)
more_sheets c t ts s m =
    let rest : List TextUnit = s.rest ++ m.units in
    let e : ℕ = (s.through 0).0 in
    let w = passes_either begins_page begins_trailer 0 s.rest e (s.through 0).1 in
    let inner : List NestedUnit = nested_from (depth_after 0 s.page) rest in
    let same : inner ≡ nested_from 0 rest = ap (λ d. nested_from d rest) (s.outside 0) in
    let line : (d : ℕ) (k : ℕ) → passes begins_trailer d rest ≡ Some k → passes begins_trailer d (s.page ∷ rest) ≡ Some k =
    λ d k h. ap (λ b. if b then None else passes begins_trailer (depth_after d s.page) rest) (no_trailer c t s d) ∙ ap (λ x. passes begins_trailer x rest) (s.outside d) ∙ h in
    let bytes : s.page.bytes ++ joined s.rest ≡ t = joined_is t (s.page ∷ s.rest) (sheet_are t (s.page ∷ s.rest) s.goes) in
    record {
      units = s.page ∷ rest;
      goes = goes_append t (flat_map (λ t. t) ts) (s.page ∷ s.rest) m.units s.goes m.goes;
      through = λ d.
          let b = passes_either begins_page begins_trailer d s.rest (s.through d).0 (s.through d).1 in
          let n = m.through (s.through d).0 in
          (n.0, line d n.0 (passes_append begins_trailer d s.rest m.units (s.through d).0 b.1 ∙ n.1));
      shut = λ x.
          let b = passes_either begins_page begins_trailer 0 s.rest 0 (s.shut x) in
          let n = m.shut x in
          (line 0 0 (passes_append begins_trailer 0 s.rest m.units 0 b.1 ∙ n.0), shut_by c t ts s x n.1);
      opens = s.begins;
      none = λ h. absurd (omega (arith, h));
      some = λ l. omega arith;
      starts = λ r l. ap lf (append_assoc t (flat_map (λ t. t) ts) r) ∙ s.starts (flat_map (λ t. t) ts ++ r);
      few = λ d.
          let h = how_many c t s m.units d in
          let k = counted_most (begins_page (at_depth d s.page)) (length (split_pages (nested_from (s.through d).0 m.units))) (length ts) (m.few (s.through d).0) in
          omega (arith, h, k);
      fewer = λ d l _.
          let h : length (split_pages (nested_from d (s.page ∷ rest))) ≡ length (split_pages (nested_from (s.through d).0 m.units)) =
          how_many c t s m.units d ∙ ap (λ b. counted b (length (split_pages (nested_from (s.through d).0 m.units)))) (no_page d s.page l) in
          let k = m.few (s.through d).0 in
          omega (arith, h, k);
      seen = λ _.
          let h : length (split_pages (nested_from 0 (s.page ∷ rest))) ≡ suc (length (split_pages (nested_from e m.units))) = how_many c t s m.units 0 ∙ ap (λ b. counted b (length (split_pages (nested_from e m.units)))) s.begins in
          omega (arith, h);
      parts = λ h.
          let f = first_shut c t ts s m h in
          let page : up_to begins_page (nested_from 0 rest) ≡ nested_from 0 s.rest =
          up_to_passed begins_page 0 s.rest m.units e w.0 ∙ ap (λ us. nested_from 0 s.rest ++ us) (up_to_open begins_page e m.units f.0) ∙ append-nil (nested_from 0 s.rest) in
          ap (λ b. map bytes_of (if b then (at_depth 0 s.page ∷ up_to begins_page inner) ∷ split_pages inner else split_pages inner)) s.begins
          ∙ ap (λ us. map bytes_of ((at_depth 0 s.page ∷ up_to begins_page us) ∷ split_pages us)) same
          ∙ ap (λ us. (s.page.bytes ++ bytes_of us) ∷ map bytes_of (split_pages (nested_from 0 rest))) page
          ∙ ap (λ x. (s.page.bytes ++ x) ∷ map bytes_of (split_pages (nested_from 0 rest))) (nested-bytes 0 s.rest)
          ∙ ap (λ x. x ∷ map bytes_of (split_pages (nested_from 0 rest))) bytes
          ∙ ap (λ ps. t ∷ map bytes_of ps) (split_passed 0 s.rest m.units e w.0) ∙ ap (λ xs. t ∷ xs) f.1;
      exact = λ h.
          let k : length (split_pages (nested_from 0 (s.page ∷ rest))) ≡ suc (length (split_pages (nested_from e m.units))) = how_many c t s m.units 0 ∙ ap (λ b. counted b (length (split_pages (nested_from e m.units)))) s.begins in
          exact_by c t ts s m (omega (arith, h, k));
    }

pub all_sheets : (c : Type 0) (ts : List (List ℕ)) → EachSheet c ts → Sheets c ts
all_sheets c [] h = no_sheets c
all_sheets c (t ∷ ts) h = more_sheets c t ts h.0 (all_sheets c ts h.1)

-- The trailer.

-- there is a trailer only under the condition
pub record Trailing (c : Type 0) (text : List ℕ) : Type 0 where
  pub units : List TextUnit
  pub are : AreUnits text units
  pub opens : Opens begins_trailer 0 units
  pub where_shut : 0 < length units → c

trailer_key : (u : NestedUnit) → begins_trailer u ≡ true → header_key (key u.unit.content) ≡ false
trailer_key u h =
    let k : List ℕ = key u.unit.content in
    let named : has_key (codes "%%Trailer" ∷ codes "%%EOF" ∷ []) u.unit.content ≡ true = and_second (is_outermost_line u) (has_key (codes "%%Trailer" ∷ codes "%%EOF" ∷ []) u.unit.content) h in
    by_test (bytes_eq k (codes "%%Trailer"))
    (λ is. ap header_key ((bytes_eq-Decides k (codes "%%Trailer")).0 is))
    (λ isnt. ap header_key ((bytes_eq-Decides k (codes "%%EOF")).0 (or_none (bytes_eq k (codes "%%EOF")) (sym (ap (λ t. t || (bytes_eq k (codes "%%EOF") || false)) isnt) ∙ named))))
  where
    or_none : (a : Bool) → (a || false) ≡ true → a ≡ true
    or_none true e = refl
    or_none false e = e

pub not_dropped : (drops : List ℕ → Bool) (u : NestedUnit) → drops u.unit.content ≡ false → is_dropped false drops u ≡ false
not_dropped drops u h = ap (λ t. (is_outermost_line u && t) || false) h ∙ ap (λ t. t || false) (nothing_and (is_outermost_line u))

abbrev content_or : Option (List ℕ × Bool) → List ℕ × Bool
content_or None = ([], false)
content_or (Some p) = p

same_head : (us : List TextUnit) (u : TextUnit) → head_of us ≡ Some (u.content, u.is_block) → begins_trailer (at_depth 0 u) ≡ true → Opens begins_trailer 0 us
same_head [] u e h = cc
same_head (v ∷ us) u e h = ap (λ p. not (content_or p).1 && has_key (codes "%%Trailer" ∷ codes "%%EOF" ∷ []) (content_or p).0) e ∙ h

pub trailer_made : (c : Type 0) (us : List TextUnit) → Row us → Opens begins_trailer 0 us → (0 < length us → c) → Trailing c (bytes_of (kept drops_in_header (nested_from 0 us)))
trailer_made c [] r h x = record { units = []; are = refl; opens = tt; where_shut = x }
trailer_made z (u ∷ us) r h x =
    let ks : List TextUnit = kept_units false drops_in_header 0 (u ∷ us) in
    let first : ks ≡ u ∷ kept_units false drops_in_header (depth_after 0 u) us =
    ap (λ b. if b then kept_units true drops_in_header (depth_after 0 u) us else u ∷ kept_units false drops_in_header (depth_after 0 u) us) (not_dropped drops_in_header (at_depth 0 u) (trailer_key (at_depth 0 u) h)) in
    let c : Recut begins_part ks = recut begins_part part_blind ks (loose ks (kept_row false drops_in_header 0 (u ∷ us) r)) in
    record {
      units = c.units;
      are = subst (λ t. AreUnits t c.units) (sym (kept_bytes false drops_in_header 0 (u ∷ us))) c.are;
      opens = same_head c.units u (c.first ∙ ap head_of first) h;
      where_shut = λ _. x (omega arith);
    }

-- The preamble.

abbrev pub count_content : ℕ → List ℕ
count_content n = codes "%%Pages: " ++ decimal n

pub count_whole : (n : ℕ) → no_ends (count_content n) ≡ true
count_whole n = (plain (codes "%%Pages: ") refl then number n).is

pub count_text : (n : ℕ) (u : TextUnit) (us : List TextUnit) → drops_in_header u.content ≡ false
    → with_count n (kept drops_in_header (nested_from 0 (u ∷ us))) ≡ joined (u ∷ line_unit (count_content n) ∷ kept_units false drops_in_header (depth_after 0 u) us)
count_text n u us h =
    let d : ℕ = depth_after 0 u in
    let c : List ℕ = count_content n in
    ap (λ b. with_count n (if b then kept_after true drops_in_header (nested_from d us) else at_depth 0 u ∷ kept_after false drops_in_header (nested_from d us))) (not_dropped drops_in_header (at_depth 0 u) h)
    ∙ ap (λ t. u.bytes ++ line c ++ t) (kept_bytes false drops_in_header d us) ∙ append_assoc u.bytes (line c) (joined (kept_units false drops_in_header d us))

pub preamble_made : (n : ℕ) (u : TextUnit) (us : List TextUnit) → Row (u ∷ us) → Stands u → drops_in_header u.content ≡ false → passes begins_page 0 (u ∷ us) ≡ Some 0
    → Made begins_page 0 (ended (with_count n (kept drops_in_header (nested_from 0 (u ∷ us)))))
preamble_made n u us r s h p =
    let c : List ℕ = count_content n in
    let d : ℕ = depth_after 0 u in
    let ks : List TextUnit = kept_units false drops_in_header d us in
    let w = passes_cons begins_page 0 u us 0 p in
    let alone : first_unit (line c) ≡ Ok (line_unit c) = sym (ap first_unit (append-nil (line c))) ∙ first_line c [] (count_whole n, refl) in
    let row : Row (u ∷ line_unit c ∷ ks) =
    (r.0, r.1, (λ _. s), (omega (arith, length-append c (10 ∷ [])), alone, (λ _. first_line c (37 ∷ []) (count_whole n, refl)), kept_row false drops_in_header d us r.3)) in
    let passing : passes begins_page 0 (u ∷ line_unit c ∷ ks) ≡ Some 0 =
    ap (λ b. if b then None else passes begins_page d (line_unit c ∷ ks)) w.0
    ∙ ap (λ b. if b then None else passes begins_page d ks) (nothing_and ((d == 0) && true))
    ∙ kept_passes begins_page false drops_in_header d us 0 (mild_with []) w.1 in
    subst (λ t. Made begins_page 0 (ended t)) (sym (count_text n u us h)) (make begins_page (u ∷ line_unit c ∷ ks) 0 page_blind row passing)

-- All of it.

opens_append : (t : NestedUnit → Bool) (d : ℕ) (us vs : List TextUnit) → Opens t d us → 0 < length us → Opens t d (us ++ vs)
opens_append t d [] vs h l = absurd (omega (arith, l))
opens_append t d (u ∷ us) vs h l = h

pub record Assembled (k : Type 0) (a : List ℕ) (ts : List (List ℕ)) (c : List ℕ) : Type 0 where
  pub units : List TextUnit
  pub are : AreUnits ((a ++ flat_map (λ t. t) ts) ++ c) units
  pub first : bytes_of (preamble (nested units)) ≡ a
  pub last : bytes_of (trailer (nested units)) ≡ c
  pub seen : 0 < length (pages (nested units))
  pub few : length (pages (nested units)) ≤ length ts
  pub middle : AreShut ts → pages (nested units) ≡ ts
  pub exact : length (pages (nested units)) ≡ length ts → AreShut ts
  pub stays_shut : k → open_depth (page_run (nested units)) ≡ 0

-- where the trailer begins at this depth, which is 0 under the condition
trailer_opens : (k : Type 0) (d : ℕ) (us : List TextUnit) → Opens begins_trailer 0 us → (0 < length us → k) → (k → d ≡ 0) → Opens begins_trailer d us
trailer_opens k d [] o x y = tt
trailer_opens k d (u ∷ us) o x y = subst (λ e. begins_trailer (at_depth e u) ≡ true) (sym (y (x (omega arith)))) o

map_size : {X Y : Type 0} (f : X → Y) (xs : List X) → length (map f xs) ≡ length xs
map_size f [] = refl
map_size f (x ∷ xs) = ap suc (map_size f xs)

pub assembled : (k : Type 0) (a : List ℕ) (ts : List (List ℕ)) (c : List ℕ) → Made begins_page 0 a → Sheets k ts → 0 < length ts → Trailing k c → Assembled k a ts c
assembled k a ts c m s l t =
    let more : List TextUnit = s.units ++ t.units in
    let all : List TextUnit = m.units ++ more in
    let bs : List ℕ = flat_map (λ t. t) ts in
    let e : ℕ = (s.through 0).0 in
    let end : k → e ≡ 0 = λ x. same_some e 0 (sym (s.through 0).1 ∙ (s.shut x).0) in
    let close : Opens begins_trailer e t.units = trailer_opens k e t.units t.opens t.where_shut end in
    let opens : Opens begins_page 0 more = opens_append begins_page 0 s.units t.units s.opens (s.some l) in
    let before : preamble (nested all) ≡ nested_from 0 m.units =
    up_to_passed begins_page 0 m.units more 0 m.passing ∙ ap (λ us. nested_from 0 m.units ++ us) (up_to_open begins_page 0 more opens) ∙ append-nil (nested_from 0 m.units) in
    let from : starting_at begins_page (nested all) ≡ nested_from 0 more = from_passed begins_page 0 m.units more 0 m.passing ∙ from_open begins_page 0 more opens in
    let run : page_run (nested all) ≡ nested_from 0 s.units =
    ap (up_to begins_trailer) from ∙ up_to_passed begins_trailer 0 s.units t.units e (s.through 0).1
    ∙ ap (λ us. nested_from 0 s.units ++ us) (up_to_open begins_trailer e t.units close) ∙ append-nil (nested_from 0 s.units) in
    let behind : trailer (nested all) ≡ nested_from e t.units =
    ap (starting_at begins_trailer) from ∙ from_passed begins_trailer 0 s.units t.units e (s.through 0).1 ∙ from_open begins_trailer e t.units close in
    let size : length (pages (nested all)) ≡ length (split_pages (nested_from 0 s.units)) = ap (λ us. length (map bytes_of (split_pages us))) run ∙ map_size bytes_of (split_pages (nested_from 0 s.units)) in
    let seen = s.seen l in
    let few = s.few 0 in
    record {
      units = all;
      are = subst (λ x. AreUnits x all) (sym (append_assoc a bs c)) (units_join a (bs ++ c) m.units more m.are m.ended (s.starts c l) (s.goes c t.units t.are));
      first = ap bytes_of before ∙ nested-bytes 0 m.units ∙ joined_is a m.units m.are;
      last = ap bytes_of behind ∙ nested-bytes e t.units ∙ joined_is c t.units t.are;
      seen = omega (arith, size, seen);
      few = omega (arith, size, few);
      middle = λ h. ap (λ us. map bytes_of (split_pages us)) run ∙ s.parts h;
      exact = λ h. s.exact (sym size ∙ h);
      stays_shut = λ x. ap open_depth run ∙ depth_is begins_trailer 0 s.units 0 (s.shut x).0 (s.some l);
    }
