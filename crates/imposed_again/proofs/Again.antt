-- What a run wrote of a document is a document again.
use mathlib.Core.Logic.{inl, inr}
use Rattle.std.specs.Prelude.{Option, Some, None, Result, Ok, codes, map, flat_map, not}
use Rattle.std.specs.List.{starts_with, enumerate_from}
use Rattle.std.proofs.Common.{nat_eq, ◌==◌, Bool, true, false, append_assoc, ◌≡◌, ℕ, zero, suc, ◌+◌, ◌-◌, ◌*◌, ◌<◌, ◌≤◌, List, [], ◌∷◌, ◌++◌, length, refl, ap, arith, length-append, sym, ◌∙◌, subst}
use Rattle.std.proofs.lemmas.List.{append-nil}
use Rattle.std.proofs.lemmas.Nat.{le-div}
use Rattle.std.proofs.lemmas.Bool.{ltb-false, eqb-true}
use Rattle.rules.specs.Units.{TextUnit, AreUnits, has_key, cut}
use Rattle.rules.specs.Parts.{NestedUnit, depth_after, nested_from, nested, begins_page, begins_trailer, up_to, starting_at, preamble, page_run, trailer, split_pages, bytes_of, pages, is_outermost_line}
use Rattle.rules.specs.Filters.{ended, kept, drops_in_header, with_count, preamble_text, trailer_text}
use Rattle.rules.specs.Specification.{Spec, WrittenSpec, WrittenItem, IsSpec, AreGroups, settled_item}
use Rattle.rules.specs.Admissible.{IsAdmissible, Fault, fault_of, any_too_large, else_first, only_if, TooLarge, ModuloZero}
use Rattle.rules.specs.Sheets.{Slot, blocks}
use Rattle.rules.specs.Signatures.{AreSidesIfGiven, row_len, entry_in, sheets_in}
use Rattle.rules.specs.Output.{Frame, sheet_text, output}
use Rattle.rules.specs.Run.{document_of, most_input_bytes, most_pages, most_sheets, PlanFault, PlanTooManyPages, TooManySheets, TooManyPlaces, plan_in}
use Rattle.rules.proofs.Counts.{sheet_count}
use Rattle.rules.proofs.Signatures.{whole_signatures}
use Rattle.rules.specs.MadeOutput.{drops_with}
use Rattle.dsc.specs.Units.{or_none, units_of}
use Rattle.dsc.proofs.Reading.{accepted_cut, accepted_opening}
use Rattle.dsc.proofs.PartMarks.{exclusive}
use Rattle.imposed_again.specs.Seams.{joined, line_unit, passes}
use Rattle.imposed_again.specs.Again.{open_depth, sheet_texts, written, AreShut, IsAgain, WrittenIsDocument, SheetsShut, TrailerShuts, MakesSheets, ImposedAgain}
use Rattle.imposed_again.proofs.LinesMeet.{clash}
use Rattle.imposed_again.proofs.Texts.{are_units, units_behind, joined_append, joined_is}
use Rattle.imposed_again.proofs.Splits.{at_depth, same_some, Opens, Split, split, up_to_passed, from_passed, up_to_open, from_open}
use Rattle.imposed_again.proofs.Recut.{Row, row_of}
use Rattle.imposed_again.proofs.Keeps.{header_key, paper_key, kept_units}
use Rattle.imposed_again.proofs.Pieces.{Made, AllBodies, sheet}
use Rattle.imposed_again.proofs.FirstLine.{and_first, IsFirst, first_is, first_no_page}
use Rattle.imposed_again.proofs.Accepted.{let_through, some_of, some_pages, accept}
use Rattle.imposed_again.proofs.Pages.{page_depth, EachBody, pages_good, all_bodies}
use Rattle.imposed_again.proofs.Assembly.{depth_is, count_content, count_text, EachSheet, Sheets, all_sheets, Trailing, trailer_made, preamble_made, Assembled, assembled}

-- The parts of a document as units.

pub record Parts (us : List TextUnit) : Type 0 where
  pub pre : List TextUnit
  pub run : List TextUnit
  pub rest : List TextUnit
  pub whole : us ≡ pre ++ (run ++ rest)
  pub before : passes begins_page 0 pre ≡ Some 0
  pub depth : ℕ
  pub inside : passes begins_trailer 0 run ≡ Some depth
  pub some : 0 < length run
  pub opens : Opens begins_trailer 0 rest
  pub closes : 0 < length rest → depth ≡ 0
  pub starts : Opens begins_page 0 run
  pub preamble_is : preamble (nested us) ≡ nested_from 0 pre
  pub run_is : page_run (nested us) ≡ nested_from 0 run
  pub trailer_is : trailer (nested us) ≡ nested_from 0 rest

-- there are units before the first one that passes, if the first unit doesn't
front_some : (t : NestedUnit → Bool) (d : ℕ) (u : TextUnit) (us front back : List TextUnit) (behind : ℕ) → u ∷ us ≡ front ++ back → passes t d front ≡ Some behind → Opens t behind back → t (at_depth d u) ≡ false → 0 < length front
front_some t d u us (v ∷ front) back behind e p o h = omega arith
front_some t d u us [] back behind e p o h = clash (t (at_depth d u)) (subst (λ k. t (at_depth k u) ≡ true) (sym (same_some d behind p)) (subst (Opens t behind) (sym e) o)) h

opens_front : (t : NestedUnit → Bool) (d : ℕ) (us vs : List TextUnit) → Opens t d (us ++ vs) → Opens t d us
opens_front t d [] vs h = tt
opens_front t d (u ∷ us) vs h = h

-- a trailer begins at depth 0
trailer_depth : (u : NestedUnit) → begins_trailer u ≡ true → u.depth ≡ 0
trailer_depth u h = eqb-true u.depth 0 (and_first (u.depth == 0) (not u.unit.is_block) (and_first (is_outermost_line u) (has_key (codes "%%Trailer" ∷ codes "%%EOF" ∷ []) u.unit.content) h))

closes_at : (d : ℕ) (us : List TextUnit) → Opens begins_trailer d us → 0 < length us → d ≡ 0
closes_at d [] o l = absurd (omega (arith, l))
closes_at d (u ∷ us) o l = trailer_depth (at_depth d u) o

opens_at : (d : ℕ) (us : List TextUnit) → Opens begins_trailer d us → Opens begins_trailer 0 us
opens_at d [] o = tt
opens_at d (u ∷ us) o = subst (λ k. begins_trailer (at_depth k u) ≡ true) (trailer_depth (at_depth d u) o) o

trailer_at : (d : ℕ) (us : List TextUnit) → Opens begins_trailer d us → nested_from d us ≡ nested_from 0 us
trailer_at d [] o = refl
trailer_at d (u ∷ us) o = ap (λ k. nested_from k (u ∷ us)) (trailer_depth (at_depth d u) o)

parts_of : (us : List TextUnit) (s : Split begins_page 0 us) (v : TextUnit) (vs : List TextUnit) → s.back ≡ v ∷ vs → Parts us
parts_of us s v vs e =
    let b : ℕ = s.behind in
    let opens : begins_page (at_depth b v) ≡ true = subst (Opens begins_page b) e s.opens in
    let outside : b ≡ 0 = page_depth b v opens in
    let z : Split begins_trailer b (v ∷ vs) = split begins_trailer b (v ∷ vs) in
    let some : 0 < length z.front = front_some begins_trailer b v vs z.front z.back z.behind z.whole z.passing z.opens (exclusive (at_depth b v) opens) in
    let all : us ≡ s.front ++ (v ∷ vs) = s.whole ∙ ap (λ ws. s.front ++ ws) e in
    let before : preamble (nested us) ≡ nested_from 0 s.front =
    ap (λ ws. preamble (nested ws)) all ∙ up_to_passed begins_page 0 s.front (v ∷ vs) b s.passing ∙ ap (λ ws. nested_from 0 s.front ++ ws) (up_to_open begins_page b (v ∷ vs) opens) ∙ append-nil (nested_from 0 s.front) in
    let from : starting_at begins_page (nested us) ≡ nested_from b (z.front ++ z.back) =
    ap (λ ws. starting_at begins_page (nested ws)) all ∙ from_passed begins_page 0 s.front (v ∷ vs) b s.passing ∙ from_open begins_page b (v ∷ vs) opens ∙ ap (nested_from b) z.whole in
    let run : page_run (nested us) ≡ nested_from b z.front =
    ap (up_to begins_trailer) from ∙ up_to_passed begins_trailer b z.front z.back z.behind z.passing
    ∙ ap (λ ws. nested_from b z.front ++ ws) (up_to_open begins_trailer z.behind z.back z.opens) ∙ append-nil (nested_from b z.front) in
    let behind : trailer (nested us) ≡ nested_from z.behind z.back =
    ap (starting_at begins_trailer) from ∙ from_passed begins_trailer b z.front z.back z.behind z.passing ∙ from_open begins_trailer z.behind z.back z.opens in
    let zero_if : 0 < length z.back → z.behind ≡ 0 = closes_at z.behind z.back z.opens in
    record {
      pre = s.front;
      run = z.front;
      rest = z.back;
      whole = all ∙ ap (λ ws. s.front ++ ws) z.whole;
      before = s.passing ∙ ap Some outside;
      depth = z.behind;
      inside = ap (λ k. passes begins_trailer k z.front) (sym outside) ∙ z.passing;
      some = some;
      opens = opens_at z.behind z.back z.opens;
      closes = zero_if;
      starts = subst (λ k. Opens begins_page k z.front) outside (opens_front begins_page b z.front z.back (subst (Opens begins_page b) z.whole opens));
      preamble_is = before;
      run_is = run ∙ ap (λ k. nested_from k z.front) outside;
      trailer_is = behind ∙ trailer_at z.behind z.back z.opens;
    }

parts_by : (us : List TextUnit) (s : Split begins_page 0 us) (back : List TextUnit) → s.back ≡ back → 0 < length (pages (nested us)) → Parts us
parts_by us s [] e l =
    let all : us ≡ s.front ++ [] = s.whole ∙ ap (λ ws. s.front ++ ws) e in
    let from : starting_at begins_page (nested us) ≡ [] = ap (λ ws. starting_at begins_page (nested ws)) all ∙ from_passed begins_page 0 s.front [] s.behind s.passing in
    let none : length (pages (nested us)) ≡ 0 = ap (λ ws. length (map bytes_of (split_pages (up_to begins_trailer ws)))) from in
    absurd (omega (arith, l, none))
parts_by us s (v ∷ vs) e l = parts_of us s v vs e

pub parts : (us : List TextUnit) → 0 < length (pages (nested us)) → Parts us
parts us l = let s : Split begins_page 0 us = split begins_page 0 us in parts_by us s s.back refl l

-- Rows.

pub row_front : (us vs : List TextUnit) → Row (us ++ vs) → Row us
row_front [] vs r = tt
row_front (u ∷ us) vs r = (r.0, r.1, (λ l. r.2 (let n = length-append us vs in omega (arith, l, n))), row_front us vs r.3)

pub row_back : (us vs : List TextUnit) → Row (us ++ vs) → Row vs
row_back [] vs r = r
row_back (u ∷ us) vs r = row_back us vs r.3

-- The first line.

pub first_not_dropped : (lines : List (List ℕ)) (u : TextUnit) → IsFirst u → drops_with lines u.content ≡ false
first_not_dropped [] u f = ap header_key f.named
first_not_dropped (l ∷ lines) u f = ap paper_key f.named

pub opened : (z w : List ℕ) → starts_with nat_eq (ended (37 ∷ 33 ∷ z) ++ w) (codes "%!") ≡ true
opened [] w = refl
opened (c ∷ cs) w = refl

-- The sheets.

each_sheet : (c : Type 0) (frame : Frame) (texts : List (List ℕ)) (xs : List (ℕ × List Slot)) → AllBodies c texts → EachSheet c (map (λ (s, slots). sheet_text frame texts s slots) xs)
each_sheet c frame texts [] h = tt
each_sheet c frame texts (x ∷ xs) h = (sheet c frame texts x.0 x.1 h, each_sheet c frame texts xs h)

pub mapped : {X : Type 0} (f : X → List ℕ) (xs : List X) → flat_map f xs ≡ flat_map (λ t. t) (map f xs)
mapped f [] = refl
mapped f (x ∷ xs) = ap (λ t. f x ++ t) (mapped f xs)

pub as_many : {X : Type 0} (f : ℕ × X → List ℕ) (n : ℕ) (xs : List X) → length (map f (enumerate_from n xs)) ≡ length xs
as_many f n [] = refl
as_many f n (x ∷ xs) = ap suc (as_many f (n + 1) xs)

-- All of it.

pub record Done (frame : Frame) (all : List (List Slot)) (us : List NestedUnit) : Type 0 where
  pub units : List TextUnit
  pub are : AreUnits (written frame all us) units
  pub again : IsAgain frame all us (nested units)
  pub seen : 0 < length (pages (nested units))
  pub shut : open_depth (page_run us) ≡ 0 → AreShut (sheet_texts frame (pages us) all)
  pub starts : starts_with nat_eq (written frame all us) (codes "%!") ≡ true

-- the first unit begins no page
pub some_preamble : (us run rest : List TextUnit) → us ≡ run ++ rest → 0 < length run → Opens begins_page 0 run → starts_with nat_eq (joined us) (codes "%!") ≡ true → AreUnits (joined us) us → ⊥
some_preamble us [] rest e l o s m = omega (arith, l)
some_preamble us (v ∷ run) rest e l o s m =
    let n : AreUnits (joined (v ∷ (run ++ rest))) (v ∷ (run ++ rest)) = subst (λ ws. AreUnits (joined ws) ws) e m in
    first_no_page v 0 (first_is (joined (v ∷ (run ++ rest))) v (subst (λ ws. starts_with nat_eq (joined ws) (codes "%!") ≡ true) e s) n.1) o

-- from the preamble's units
done_by : (frame : Frame) (all : List (List Slot)) (us : List TextUnit) (p : Parts us) (pre : List TextUnit) → p.pre ≡ pre → starts_with nat_eq (joined us) (codes "%!") ≡ true → AreUnits (joined us) us
    → 0 < length all → Done frame all (nested us)
done_by frame all us p [] e s m l = absurd (some_preamble us p.run p.rest (p.whole ∙ ap (λ ws. ws ++ (p.run ++ p.rest)) e) p.some p.starts s m)
done_by frame all us p (u ∷ pre) e s m l =
    let ns : List NestedUnit = nested us in
    let n : ℕ = length all in
    let more : List TextUnit = p.run ++ p.rest in
    let whole : us ≡ (u ∷ pre) ++ more = p.whole ∙ ap (λ ws. ws ++ more) e in
    let are : AreUnits (joined ((u ∷ pre) ++ more)) ((u ∷ pre) ++ more) = subst (λ ws. AreUnits (joined ws) ws) whole m in
    let row : Row ((u ∷ pre) ++ more) = row_of ((u ∷ pre) ++ more) [] [] (subst (λ t. AreUnits t (((u ∷ pre) ++ more) ++ [])) (sym (append-nil (joined ((u ∷ pre) ++ more)))) (subst (AreUnits (joined ((u ∷ pre) ++ more))) (sym (append-nil ((u ∷ pre) ++ more))) are)) in
    let first : IsFirst u = first_is (joined ((u ∷ pre) ++ more)) u (subst (λ ws. starts_with nat_eq (joined ws) (codes "%!") ≡ true) whole s) are.1 in
    let some : 0 < length (pre ++ more) = (let a = length-append pre more in let b = length-append p.run p.rest in let c = p.some in omega (arith, a, b, c)) in
    let kept_first : drops_in_header u.content ≡ false = first_not_dropped [] u first in
    let before : preamble_text n ns ≡ ended (with_count n (kept drops_in_header (nested_from 0 (u ∷ pre)))) =
    ap (λ ws. ended (with_count n (kept drops_in_header ws))) (p.preamble_is ∙ ap (nested_from 0) e) in
    let made : Made begins_page 0 (preamble_text n ns) =
    subst (Made begins_page 0) (sym before) (preamble_made n u pre (row_front (u ∷ pre) more row) (row.2 some) kept_first (sym (ap (passes begins_page 0) e) ∙ p.before)) in
    let behind : AreUnits (joined p.run ++ joined p.rest) (p.run ++ p.rest) =
    subst (λ t. AreUnits t more) (joined_append p.run p.rest)
    (units_behind (u ∷ pre) (joined more) more (subst (λ t. AreUnits t ((u ∷ pre) ++ more)) (joined_append (u ∷ pre) more) are)) in
    let c : Type 0 = p.depth ≡ 0 in
    let bodies : AllBodies c (pages ns) =
    all_bodies c (pages ns) (subst (λ ws. EachBody c (map bytes_of (split_pages ws))) (sym p.run_is) (pages_good c p.depth 0 p.run (joined p.rest) p.rest (λ x. x) behind p.inside)) in
    let last : Trailing c (trailer_text ns) = subst (λ ws. Trailing c (bytes_of (kept drops_in_header ws))) (sym p.trailer_is) (trailer_made c p.rest (row_back p.run p.rest (row_back (u ∷ pre) more row)) p.opens p.closes) in
    let ts : List (List ℕ) = sheet_texts frame (pages ns) all in
    let count : length ts ≡ length all = as_many (λ (s, slots). sheet_text frame (pages ns) s slots) 0 all in
    let many : 0 < length ts = omega (arith, count, l) in
    let k : Sheets c ts = all_sheets c ts (each_sheet c frame (pages ns) (enumerate_from 0 all) bodies) in
    let a : Assembled c (preamble_text n ns) ts (trailer_text ns) = assembled c (preamble_text n ns) ts (trailer_text ns) made k many last in
    let out : written frame all ns ≡ (preamble_text n ns ++ flat_map (λ t. t) ts) ++ trailer_text ns =
    ap (λ t. preamble_text n ns ++ t ++ trailer_text ns) (mapped (λ (s, slots). sheet_text frame (pages ns) s slots) (enumerate_from 0 all)) in
    let closed : open_depth (page_run ns) ≡ 0 → c = λ h. sym (depth_is begins_trailer 0 p.run p.depth p.inside p.some) ∙ sym (ap open_depth p.run_is) ∙ h in
    let ks : List ℕ = joined (line_unit (count_content n) ∷ kept_units false drops_in_header (depth_after 0 u) pre) in
    let opening : preamble_text n ns ≡ ended (37 ∷ 33 ∷ (first.rest ++ ks)) = before ∙ ap ended (count_text n u pre kept_first ∙ ap (λ t. t ++ ks) first.written) in
    record {
      units = a.units;
      are = subst (λ t. AreUnits t a.units) (sym out) a.are;
      again = record {
        before = a.first;
        sheets_are = a.middle;
        only_if = λ h. a.exact (h ∙ sym count);
        fewer = (let f = a.few in omega (arith, f, count));
        behind = a.last;
        stays_shut = λ h. a.stays_shut (closed h);
      };
      seen = a.seen;
      shut = λ h. (k.shut (closed h)).1;
      starts =
          ap (λ t. starts_with nat_eq t (codes "%!")) (out ∙ append_assoc (preamble_text n ns) (flat_map (λ t. t) ts) (trailer_text ns))
          ∙ ap (λ t. starts_with nat_eq (t ++ (flat_map (λ t. t) ts ++ trailer_text ns)) (codes "%!")) opening
          ∙ opened (first.rest ++ ks) (flat_map (λ t. t) ts ++ trailer_text ns);
    }

pub done : (frame : Frame) (all : List (List Slot)) (us : List TextUnit) → starts_with nat_eq (joined us) (codes "%!") ≡ true → AreUnits (joined us) us → 0 < length (pages (nested us))
    → 0 < length all → Done frame all (nested us)
done frame all us s m l k = let p : Parts us = parts us l in done_by frame all us p p.pre refl s m k

-- Accepted documents, plans and specifications.

planned : (sides : Option ℕ) (spec : Spec) (n : ℕ) (all : List (List Slot)) → plan_in sides spec n ≡ Ok all → (length (sheets_in sides spec n) ≤ most_sheets) × (sheets_in sides spec n ≡ all)
planned sides spec n all h =
    let a = let_through _ PlanTooManyPages _ all h in
    let b = let_through _ TooManySheets _ all a.1 in
    let c = let_through _ TooManyPlaces (Ok (sheets_in sides spec n)) all b.1 in
    (ltb-false _ _ b.0, taken_same c.1)
  where
    taken_same : {xs ys : List (List Slot)} → ◌≡◌ {A = Result (List (List Slot)) PlanFault} (Ok xs) (Ok ys) → xs ≡ ys
    taken_same e = cc

first_none : (a b : Option Fault) → else_first a b ≡ None → (a ≡ None) × (b ≡ None)
first_none None b e = (refl, e)
first_none (Some f) b e = cc

no_fault : (b : Bool) (f : Fault) → only_if b f ≡ None → b ≡ false
no_fault true f e = cc
no_fault false f e = refl

modulo_some : (most : ℕ) (w : WrittenSpec) → fault_of most w ≡ None → 0 < w.modulo
modulo_some most w h = let a = first_none (only_if (any_too_large w) TooLarge) _ h in let b = first_none (only_if (w.modulo == 0) ModuloZero) _ a.1 in some_of w.modulo (no_fault (w.modulo == 0) ModuloZero b.0)

groups_some : (text : List ℕ) (groups : List (List WrittenItem)) → AreGroups text groups → 0 < length groups
groups_some text [] (inl h) = absurd h
groups_some text [] (inr h) = let e : length {A = List WrittenItem} [] ≡ 1 = ap length h.1 in omega (arith, e)
groups_some text (g ∷ groups) h = omega arith

spec_some : (text : List ℕ) (w : WrittenSpec) → IsSpec text w → 0 < length w.groups
spec_some text w (inl h) = groups_some text w.groups h.1
spec_some text w (inr h) = groups_some h.1 w.groups h.4

product_some : (a b : ℕ) → 0 < a → 0 < b → 0 < a * b
product_some zero b h k = omega (arith, h)
product_some (suc a) zero h k = omega (arith, k)
product_some (suc a) (suc b) h k = omega arith

block_some : (m n : ℕ) → 0 < m → 0 < n → 0 < blocks m n
block_some m n h k = le-div 1 (n + (m - 1)) m h (omega (arith, h, k))

map_size : {X Y : Type 0} (f : X → Y) (xs : List X) → length (map f xs) ≡ length xs
map_size f [] = refl
map_size f (x ∷ xs) = ap suc (map_size f xs)

-- a row of pages has an entry
some_entry : (sides : Option ℕ) (n : ℕ) → AreSidesIfGiven sides → 0 < n → 0 < row_len sides n
some_entry None n are l = l
some_entry (Some s) n are l =
    let whole = whole_signatures s n in
    let some = product_some (blocks s n) s (block_some s n are.0 l) are.0 in
    omega (arith, whole, some)

pub some_sheets : (most : ℕ) (sides : Option ℕ) (spec : Spec) (n : ℕ) → AreSidesIfGiven sides → IsAdmissible most spec → 0 < n → 0 < length (sheets_in sides spec n)
some_sheets most sides spec n are a l =
    let t = a.taken in
    let w : WrittenSpec = t.1 in
    let modulo : 0 < spec.modulo = subst (λ k. 0 < k) (sym (ap (λ s. s.modulo) t.4)) (modulo_some most w t.3) in
    let size : length spec.groups ≡ length w.groups = ap (λ s. length s.groups) t.4 ∙ map_size (λ g. map settled_item g) w.groups in
    let written = spec_some a.text w t.2 in
    let groups : 0 < length spec.groups = omega (arith, size, written) in
    let count = sheet_count spec (row_len sides n) (entry_in sides n) in
    let some = product_some (blocks spec.modulo (row_len sides n)) (length spec.groups) (block_some spec.modulo (row_len sides n) modulo (some_entry sides n are l)) groups in
    omega (arith, count, some)

-- what is written of an accepted document
done_of : (frame : Frame) (all : List (List Slot)) (text : List ℕ) (us : List TextUnit) → document_of text ≡ Ok (nested us) → cut text ≡ Ok us → 0 < length all → Done frame all (nested us)
done_of frame all text us d c many =
    let m : AreUnits text us = are_units text us c in
    let whole : joined us ≡ text = joined_is text us m in
    done frame all us (ap (λ t. starts_with nat_eq t (codes "%!")) whole ∙ accepted_opening text (nested us) d) (subst (λ t. AreUnits t us) (sym whole) m) (some_pages text (nested us) d) many

again_of : (frame : Frame) (all : List (List Slot)) (text : List ℕ) (us : List TextUnit) → document_of text ≡ Ok (nested us) → cut text ≡ Ok us → 0 < length all → length all ≤ most_pages
    → length (written frame all (nested us)) ≤ most_input_bytes
    → (document_of (written frame all (nested us)) ≡ Ok (units_of (written frame all (nested us)))) × IsAgain frame all (nested us) (units_of (written frame all (nested us)))
again_of frame all text us d c many few l =
    let x : Done frame all (nested us) = done_of frame all text us d c many in
    let fewer = x.again.fewer in
    let r = accept (written frame all (nested us)) x.units (length (pages (nested x.units))) l x.starts x.are refl x.seen (omega (arith, fewer, few)) in
    (r.0, subst (IsAgain frame all (nested us)) (sym r.1) x.again)

abbrev Says : (frame : Frame) (all : List (List Slot)) → List NestedUnit → Type 0
Says frame all us =
    length (written frame all us) ≤ most_input_bytes
    → (document_of (written frame all us) ≡ Ok (units_of (written frame all us))) × IsAgain frame all us (units_of (written frame all us))

pub written_is_document : WrittenIsDocument
written_is_document frame all text us d many few =
    let w = accepted_cut text us d in
    subst (Says frame all) w.1 (again_of frame all text (or_none (cut text)) (subst (λ vs. document_of text ≡ Ok vs) (sym w.1) d) w.0 many few)

shut_of : (frame : Frame) (all : List (List Slot)) (text : List ℕ) (us : List TextUnit) → document_of text ≡ Ok (nested us) → cut text ≡ Ok us → open_depth (page_run (nested us)) ≡ 0 → AreShut (sheet_texts frame (pages (nested us)) all)
shut_of frame [] text us d c h = tt
shut_of frame (x ∷ xs) text us d c h = (done_of frame (x ∷ xs) text us d c (omega arith)).shut h

pub sheets_shut : SheetsShut
sheets_shut frame all text us d =
    let w = accepted_cut text us d in
    subst (λ vs. open_depth (page_run vs) ≡ 0 → AreShut (sheet_texts frame (pages vs) all)) w.1 (shut_of frame all text (or_none (cut text)) (subst (λ vs. document_of text ≡ Ok vs) (sym w.1) d) w.0)

nested_size : (d : ℕ) (us : List TextUnit) → length (nested_from d us) ≡ length us
nested_size d [] = refl
nested_size d (u ∷ us) = ap suc (nested_size (depth_after d u) us)

trailer_of : (us : List TextUnit) → 0 < length (pages (nested us)) → 0 < length (trailer (nested us)) → open_depth (page_run (nested us)) ≡ 0
trailer_of us some l =
    let p : Parts us = parts us some in
    let size : length (trailer (nested us)) ≡ length p.rest = ap length p.trailer_is ∙ nested_size 0 p.rest in
    ap open_depth p.run_is ∙ depth_is begins_trailer 0 p.run p.depth p.inside p.some ∙ p.closes (omega (arith, size, l))

pub trailer_shuts : TrailerShuts
trailer_shuts text us d =
    let w = accepted_cut text us d in
    let some : 0 < length (pages (nested (or_none (cut text)))) = subst (λ vs. 0 < length (pages vs)) (sym w.1) (some_pages text us d) in
    subst (λ vs. 0 < length (trailer vs) → open_depth (page_run vs) ≡ 0) w.1 (trailer_of (or_none (cut text)) some)

pub makes_sheets : MakesSheets
makes_sheets = some_sheets

abbrev Again : (frame : Frame) (sides : Option ℕ) (spec : Spec) → List NestedUnit → List (List Slot) → Type 0
Again frame sides spec us all =
    (document_of (output frame sides spec us) ≡ Ok (units_of (output frame sides spec us))) × IsAgain frame all us (units_of (output frame sides spec us))
    × (open_depth (page_run us) ≡ 0 → pages (units_of (output frame sides spec us)) ≡ sheet_texts frame (pages us) all)

pub imposed_again : ImposedAgain
imposed_again most frame sides spec text us all d are a p l =
    let n : ℕ = length (pages us) in
    let w = planned sides spec n all p in
    let r = written_is_document frame (sheets_in sides spec n) text us d (some_sheets most sides spec n are a (some_pages text us d)) w.0 l in
    subst (Again frame sides spec us) w.1 (r.0, r.1, λ h. r.1.sheets_are (sheets_shut frame (sheets_in sides spec n) text us d h))
