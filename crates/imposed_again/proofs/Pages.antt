-- The pages of a document have bodies that fit on a sheet.
use mathlib.Core.Logic.{◌⊎◌, inl, inr}
use Rattle.std.specs.Prelude.{Some, None, Ok, codes, map, not, if◌then◌else◌}
use Rattle.std.specs.List.{list_any}
use Rattle.std.specs.Str.{bytes_eq}
use Rattle.std.proofs.Common.{◌==◌, ◌||◌, ◌&&◌, Bool, true, false, append_assoc, ◌≡◌, ℕ, zero, suc, ◌<◌, List, [], ◌∷◌, ◌++◌, length, refl, ap, arith, length-append, sym, ◌∙◌, subst}
use Rattle.std.proofs.lemmas.List.{append-nil}
use Rattle.std.proofs.Math.Seq.{drop-append_seam, take-append_seam}
use Rattle.rules.specs.Units.{TextUnit, is_end, first_unit, AreUnits, key, is_comment, ◌>>=◌}
use Rattle.rules.specs.Parts.{NestedUnit, depth_after, nested_from, nested, begins_page, begins_trailer, up_to, split_pages, bytes_of, is_outermost_line}
use Rattle.rules.specs.Filters.{ended, kept, drops_in_page, prepared}
use Rattle.rules.specs.Output.{body_text}
use Rattle.dsc.proofs.Cases.{by_test}
use Rattle.dsc.proofs.Fronts.{first_unit-take}
use Rattle.std.proofs.lemmas.Bool.{eqb-true}
use Rattle.dsc.proofs.Alone.{nested-bytes}
use Rattle.imposed_again.specs.Seams.{joined, passes, ends}
use Rattle.imposed_again.proofs.FirstLine.{and_first, page_named}
use Rattle.imposed_again.proofs.Texts.{units_are, rest_of, joined_append}
use Rattle.imposed_again.proofs.Splits.{at_depth, passes_cons, passes_append, same_some, Opens, Split, split, up_to_passed, up_to_open}
use Rattle.imposed_again.proofs.Recut.{Row, row_of, Blind, Recut, recut, loose, loose_feed, feed_unit}
use Rattle.imposed_again.proofs.Keeps.{is_dropped, kept_units, kept_bytes, kept_row, kept_passes, page_mild, depth_stays, page_key}
use Rattle.imposed_again.proofs.Pieces.{begins_part, Made, Body, no_body, AllBodies}

-- What is made of a row: its bytes, followed by a line end.

ended_cases : (t : List ℕ) → ((ended t ≡ t) × (0 < length t → ends t ≡ true)) ⊎ (ended t ≡ t ++ 10 ∷ [])
ended_cases [] = inl (refl, λ l. absurd (omega (arith, l)))
ended_cases (b ∷ []) = by_test (is_end b)
    (λ is. inl (ap (λ t. if t then b ∷ [] else b ∷ 10 ∷ []) is, λ l. is))
    (λ isnt. inr (ap (λ t. if t then b ∷ [] else b ∷ 10 ∷ []) isnt))
ended_cases (b ∷ c ∷ bs) = more (ended_cases (c ∷ bs))
  where
    more : (((ended (c ∷ bs) ≡ c ∷ bs) × (0 < length (c ∷ bs) → ends (c ∷ bs) ≡ true)) ⊎ (ended (c ∷ bs) ≡ c ∷ bs ++ 10 ∷ []))
        → ((ended (b ∷ c ∷ bs) ≡ b ∷ c ∷ bs) × (0 < length (b ∷ c ∷ bs) → ends (b ∷ c ∷ bs) ≡ true)) ⊎ (ended (b ∷ c ∷ bs) ≡ b ∷ c ∷ bs ++ 10 ∷ [])
    more (inl p) = inl (ap (λ t. b ∷ t) p.0, λ l. p.1 (omega arith))
    more (inr p) = inr (ap (λ t. b ∷ t) p)

ends_feed : (t : List ℕ) → ends (t ++ 10 ∷ []) ≡ true
ends_feed [] = refl
ends_feed (b ∷ []) = refl
ends_feed (b ∷ c ∷ bs) = ends_feed (c ∷ bs)

make_by : (t : NestedUnit → Bool) (us : List TextUnit) (d : ℕ) → Blind t → Row us → passes t 0 us ≡ Some d
    → (((ended (joined us) ≡ joined us) × (0 < length (joined us) → ends (joined us) ≡ true)) ⊎ (ended (joined us) ≡ joined us ++ 10 ∷ [])) → Made t d (ended (joined us))
make_by t us d b r h (inl p) =
    let c : Recut t us = recut t b us (loose us r) in
    subst (Made t d) (sym p.0) (record { units = c.units; are = c.are; ended = p.1; passing = c.same 0 ∙ h })
make_by t us d b r h (inr p) =
    let c : Recut t (us ++ feed_unit ∷ []) = recut t b (us ++ feed_unit ∷ []) (loose_feed us r) in
    subst (Made t d) (sym p)
    (record {
      units = c.units;
      are = subst (λ x. AreUnits x c.units) (joined_append us (feed_unit ∷ [])) c.are;
      ended = λ l. ends_feed (joined us);
      passing = c.same 0 ∙ passes_append t 0 us (feed_unit ∷ []) d h ∙ ap (λ k. if k then None else Some d) (b.empty_line d);
    })

pub make : (t : NestedUnit → Bool) (us : List TextUnit) (d : ℕ) → Blind t → Row us → passes t 0 us ≡ Some d → Made t d (ended (joined us))
make t us d b r h = make_by t us d b r h (ended_cases (joined us))

nothing_or : (a : Bool) → ((a && false) || (a && false)) ≡ false
nothing_or true = refl
nothing_or false = refl

pub nothing_and : (a : Bool) → (a && false) ≡ false
nothing_and true = refl
nothing_and false = refl

pub part_blind : Blind begins_part
part_blind = record { fed_too = λ d u. refl; empty_line = λ d. nothing_or ((d == 0) && true) }

pub page_blind : Blind begins_page
page_blind = record { fed_too = λ d u. refl; empty_line = λ d. nothing_and ((d == 0) && true) }

-- A page's line.

pub page_depth : (d : ℕ) (u : TextUnit) → begins_page (at_depth d u) ≡ true → d ≡ 0
page_depth d u h = eqb-true d 0 (and_first (d == 0) (not u.is_block) (and_first (is_outermost_line (at_depth d u)) (is_comment (codes "%%Page") u.content) h))

pub page_outside : (u : TextUnit) → begins_page (at_depth 0 u) ≡ true → depth_after 0 u ≡ 0
page_outside u h =
    let named : key u.content ≡ codes "%%Page" = page_named (at_depth 0 u) h in
    depth_stays 0 u (ap (λ k. list_any (bytes_eq k) (codes "%%BeginDocument" ∷ [])) named) (ap (λ k. list_any (bytes_eq k) (codes "%%EndDocument" ∷ [])) named)

page_dropped : (u : NestedUnit) → begins_page u ≡ true → is_dropped false drops_in_page u ≡ true
page_dropped u h =
    ap (λ t. (t && drops_in_page u.unit.content) || false) (and_first (is_outermost_line u) (is_comment (codes "%%Page") u.unit.content) h)
    ∙ ap (λ k. page_key k || false) (page_named u h)

-- the body of a page that can be cut alone
page_body : (c : Type 0) (u : TextUnit) (us : List TextUnit) (d : ℕ) → (c → d ≡ 0) → AreUnits (joined (u ∷ us)) (u ∷ us) → Row (u ∷ us) → begins_page (at_depth 0 u) ≡ true → passes begins_part 0 us ≡ Some d → Body c (body_text (prepared (joined (u ∷ us))))
page_body c u us d z m r h p =
    let ks : List TextUnit = kept_units true drops_in_page 0 us in
    let inner : kept_units false drops_in_page 0 (u ∷ us) ≡ ks =
    ap (λ b. if b then kept_units true drops_in_page (depth_after 0 u) us else u ∷ kept_units false drops_in_page (depth_after 0 u) us) (page_dropped (at_depth 0 u) h)
    ∙ ap (λ d. kept_units true drops_in_page d us) (page_outside u h) in
    let text : body_text (prepared (joined (u ∷ us))) ≡ ended (joined ks) =
    ap (λ c. body_text (c >>= λ vs. Ok (ended (bytes_of (kept drops_in_page (nested vs)))))) (units_are (joined (u ∷ us)) (u ∷ us) m)
    ∙ ap ended (kept_bytes false drops_in_page 0 (u ∷ us) ∙ ap joined inner) in
    subst (Body c) (sym text) (record { depth = d; made = make begins_part ks d part_blind (kept_row true drops_in_page 0 us r.3) (kept_passes begins_part true drops_in_page 0 us d page_mild p); shut = z })

-- All pages.

pub units_front : (us : List TextUnit) (r : List ℕ) (vs : List TextUnit) → AreUnits (joined us ++ r) (us ++ vs) → AreUnits (joined us) us
units_front [] r vs h = refl
units_front (u ∷ us) r vs h =
    let x : List ℕ = u.bytes ++ joined us in
    let tail : AreUnits (joined us ++ r) (us ++ vs) = subst (λ t. AreUnits t (us ++ vs)) (rest_of u.bytes (joined us) r) h.2 in
    let row = row_of (u ∷ us) r vs h in (
      omega (arith, row.0, length-append u.bytes (joined us)),
      sym (ap first_unit (take-append_seam x r)) ∙ first_unit-take (x ++ r) u (length x) h.1 (omega (arith, length-append u.bytes (joined us))),
      subst (λ t. AreUnits t us) (sym (drop-append_seam u.bytes (joined us))) (units_front us r vs tail),
    )

front_too : (us vs : List TextUnit) (r : List ℕ) (ws : List TextUnit) → AreUnits (joined (us ++ vs) ++ r) ((us ++ vs) ++ ws) → AreUnits (joined us ++ (joined vs ++ r)) (us ++ (vs ++ ws))
front_too us vs r ws h =
    subst (λ t. AreUnits t (us ++ (vs ++ ws))) (ap (λ t. t ++ r) (joined_append us vs) ∙ append_assoc (joined us) (joined vs) r)
    (subst (AreUnits (joined (us ++ vs) ++ r)) (append_assoc us vs ws) h)

pub passes_front : (t : NestedUnit → Bool) (d : ℕ) (us vs : List TextUnit) (e : ℕ) → passes t d (us ++ vs) ≡ Some e → (k : ℕ) × (passes t d us ≡ Some k) × (passes t k vs ≡ Some e)
passes_front t d [] vs e h = (d, refl, h)
passes_front t d (u ∷ us) vs e h =
    let w = passes_cons t d u (us ++ vs) e h in
    let i = passes_front t (depth_after d u) us vs e w.1 in
    (i.0, ap (λ b. if b then None else passes t (depth_after d u) us) w.0 ∙ i.1, i.2)

passes_both : (p q : NestedUnit → Bool) (d : ℕ) (us : List TextUnit) (e k : ℕ) → passes p d us ≡ Some e → passes q d us ≡ Some k → (passes (λ u. p u || q u) d us ≡ Some e) × (e ≡ k)
passes_both p q d [] e k h g = (h, cc)
passes_both p q d (u ∷ us) e k h g =
    let v = passes_cons p d u us e h in
    let w = passes_cons q d u us k g in
    let i = passes_both p q (depth_after d u) us e k v.1 w.1 in
    (ap (λ b. if b || q (at_depth d u) then None else passes (λ u. p u || q u) (depth_after d u) us) v.0 ∙ ap (λ b. if b then None else passes (λ u. p u || q u) (depth_after d u) us) w.0 ∙ i.0, i.1)

open_zero : (e k : ℕ) (us : List TextUnit) → Opens begins_page e us → passes begins_trailer e us ≡ Some k → k ≡ 0 → e ≡ 0
open_zero e k [] o h z = same_some e k h ∙ z
open_zero e k (u ∷ us) o h z = page_depth e u o

abbrev pub EachBody : Type 0 → List (List ℕ) → Type 0
EachBody c [] = Unit {0}
EachBody c (page ∷ pages) = Body c (body_text (prepared page)) × EachBody c pages

one_page : (c : Type 0) (z d : ℕ) (u : TextUnit) (us : List TextUnit) (r : List ℕ) (vs : List TextUnit) → (c → z ≡ 0) → AreUnits (joined (u ∷ us) ++ r) ((u ∷ us) ++ vs) → passes begins_trailer (depth_after d u) us ≡ Some z
    → begins_page (at_depth d u) ≡ true → Split begins_page (depth_after d u) us → Body c (body_text (prepared (bytes_of (at_depth d u ∷ up_to begins_page (nested_from (depth_after d u) us)))))
one_page c z d u us r vs y m h is s =
    let e : ℕ = depth_after d u in
    let outside : d ≡ 0 = page_depth d u is in
    let is0 : begins_page (at_depth 0 u) ≡ true = subst (λ k. begins_page (at_depth k u) ≡ true) outside is in
    let zeroth : e ≡ 0 = ap (λ k. depth_after k u) outside ∙ page_outside u is0 in
    let head : up_to begins_page (nested_from e us) ≡ nested_from e s.front =
    ap (λ ws. up_to begins_page (nested_from e ws)) s.whole ∙ up_to_passed begins_page e s.front s.back s.behind s.passing
    ∙ ap (λ ws. nested_from e s.front ++ ws) (up_to_open begins_page s.behind s.back s.opens) ∙ append-nil (nested_from e s.front) in
    let text : bytes_of (at_depth d u ∷ up_to begins_page (nested_from e us)) ≡ joined (u ∷ s.front) = ap (λ ws. u.bytes ++ bytes_of ws) head ∙ ap (λ t. u.bytes ++ t) (nested-bytes e s.front) in
    let whole : AreUnits (joined ((u ∷ s.front) ++ s.back) ++ r) (((u ∷ s.front) ++ s.back) ++ vs) = subst (λ ws. AreUnits (joined (u ∷ ws) ++ r) ((u ∷ ws) ++ vs)) s.whole m in
    let front : AreUnits (joined (u ∷ s.front) ++ (joined s.back ++ r)) ((u ∷ s.front) ++ (s.back ++ vs)) = front_too (u ∷ s.front) s.back r vs whole in
    let f = passes_front begins_trailer e s.front s.back z (sym (ap (passes begins_trailer e) s.whole) ∙ h) in
    let b = passes_both begins_page begins_trailer e s.front s.behind f.0 s.passing f.1 in
    let none : c → s.behind ≡ 0 = λ x. open_zero s.behind z s.back s.opens (ap (λ k. passes begins_trailer k s.back) b.1 ∙ f.2) (y x) in
    let passing : passes begins_part 0 s.front ≡ Some s.behind = sym (ap (λ k. passes begins_part k s.front) zeroth) ∙ b.0 in
    subst (λ t. Body c (body_text (prepared t))) (sym text)
    (page_body c u s.front s.behind none (units_front (u ∷ s.front) (joined s.back ++ r) (s.back ++ vs) front) (row_of (u ∷ s.front) (joined s.back ++ r) (s.back ++ vs) front) is0 passing)

-- the pages of these units: none leaves an embedded document open, if these units leave none open
pub pages_good : (c : Type 0) (z d : ℕ) (us : List TextUnit) (r : List ℕ) (vs : List TextUnit) → (c → z ≡ 0) → AreUnits (joined us ++ r) (us ++ vs) → passes begins_trailer d us ≡ Some z → EachBody c (map bytes_of (split_pages (nested_from d us)))
pages_good c z d [] r vs y m h = tt
pages_good c z d (u ∷ us) r vs y m h =
    let e : ℕ = depth_after d u in
    let w = passes_cons begins_trailer d u us z h in
    let tail : AreUnits (joined us ++ r) (us ++ vs) = subst (λ t. AreUnits t (us ++ vs)) (rest_of u.bytes (joined us) r) m.2 in
    let later : EachBody c (map bytes_of (split_pages (nested_from e us))) = pages_good c z e us r vs y tail w.1 in
    by_test (begins_page (at_depth d u))
    (λ is. subst (λ b. EachBody c (map bytes_of (if b then (at_depth d u ∷ up_to begins_page (nested_from e us)) ∷ split_pages (nested_from e us) else split_pages (nested_from e us)))) (sym is)
    (one_page c z d u us r vs y m w.1 is (split begins_page e us), later))
    (λ isnt. subst (λ b. EachBody c (map bytes_of (if b then (at_depth d u ∷ up_to begins_page (nested_from e us)) ∷ split_pages (nested_from e us) else split_pages (nested_from e us)))) (sym isnt) later)

pub all_bodies : (c : Type 0) (pages : List (List ℕ)) → EachBody c pages → AllBodies c pages
all_bodies c [] h p = no_body c
all_bodies c (page ∷ pages) h zero = h.0
all_bodies c (page ∷ pages) h (suc p) = all_bodies c pages h.1 p
