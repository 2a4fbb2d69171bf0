-- The output of made sheets is a document again.
use Rattle.std.specs.Prelude.{Option, Some, None, Ok, codes, map, flat_map, if◌then◌else◌}
use Rattle.std.specs.List.{starts_with, enumerate_from}
use Rattle.std.proofs.Common.{nat_eq, ◌==◌, ◌&&◌, true, false, append_assoc, ◌≡◌, ℕ, ◌<◌, ◌≤◌, List, [], ◌∷◌, ◌++◌, length, refl, ap, arith, length-append, sym, ◌∙◌, subst}
use Rattle.std.proofs.lemmas.List.{append-nil}
use Rattle.rules.specs.Bytes.{line}
use Rattle.rules.specs.Filters.{ended, kept, kept_after, drops_in_header, trailer_text}
use Rattle.rules.specs.Parts.{NestedUnit, bytes_of, begins_page, begins_trailer, depth_after, nested, nested_from, page_run, pages, split_pages}
use Rattle.rules.specs.Run.{document_of}
use Rattle.rules.specs.Units.{TextUnit, AreUnits, cut, first_unit}
use Rattle.rules.specs.Output.{Border}
use Rattle.dsc.proofs.Reading.{accepted_cut, accepted_opening}
use Rattle.dsc.specs.Units.{or_none, units_of}
use Rattle.imposed_again.proofs.Accepted.{accept, some_pages}
use Rattle.imposed_again.proofs.FirstLine.{IsFirst, first_is}
use Rattle.imposed_again.proofs.Splits.{at_depth, passes_cons}
use Rattle.imposed_again.proofs.Texts.{are_units, joined_append, joined_is, units_behind}
use Rattle.imposed_again.proofs.UnitsMeet.{first_line}
use Rattle.imposed_again.specs.Seams.{joined, line_unit, passes}
use Rattle.rules.specs.Dress.{Dress, lines_text}
use Rattle.rules.specs.Made.{MadeSheet}
use Rattle.rules.specs.MadeOutput.{dressed_preamble, drops_with, made_output, made_sheet_text, with_lines}
use Rattle.imposed_again.proofs.Again.{Parts, as_many, first_not_dropped, mapped, opened, parts, row_back, row_front, some_preamble}
use Rattle.imposed_again.proofs.Assembly.{Assembled, Sheets, Trailing, all_sheets, assembled, count_content, count_whole, depth_is, not_dropped, trailer_made}
use Rattle.imposed_again.proofs.Keeps.{kept_bytes, kept_passes, kept_row, kept_units, mild_with}
use Rattle.imposed_again.proofs.MadePieces.{each_made, lines_joined, lines_pass, lines_row}
use Rattle.imposed_again.proofs.Pages.{EachBody, all_bodies, make, nothing_and, page_blind, pages_good}
use Rattle.imposed_again.proofs.Pieces.{AllBodies, Made}
use Rattle.imposed_again.proofs.Recut.{Row, Stands, row_of}
use Rattle.imposed_again.specs.Again.{AreShut, open_depth}
use Rattle.imposed_again.specs.MadeAgain.{AreTame, IsMadeAgain, IsTameDress, MadeIsDocument, made_texts}

-- ---- the preamble
abbrev kept_lines : (lines : List (List ℕ)) (u : TextUnit) (us : List TextUnit) → List TextUnit
kept_lines lines u us = map line_unit lines ++ kept_units false (drops_with lines) (depth_after 0 u) us

dressed_text : (n : ℕ) (lines : List (List ℕ)) (u : TextUnit) (us : List TextUnit) → drops_with lines u.content ≡ false
    → with_lines n lines (kept (drops_with lines) (nested_from 0 (u ∷ us))) ≡ joined (u ∷ line_unit (count_content n) ∷ kept_lines lines u us)
dressed_text n lines u us h =
    let d : ℕ = depth_after 0 u in
    let c : List ℕ = count_content n in
    let ks : List TextUnit = kept_units false (drops_with lines) d us in
    let ls : List ℕ = lines_text lines in
    ap (λ b. with_lines n lines (if b then kept_after true (drops_with lines) (nested_from d us) else at_depth 0 u ∷ kept_after false (drops_with lines) (nested_from d us))) (not_dropped (drops_with lines) (at_depth 0 u) h)
    ∙ ap (λ t. u.bytes ++ line c ++ ls ++ t) (kept_bytes false (drops_with lines) d us)
    ∙ append_assoc (u.bytes ++ line c) ls (joined ks)
    ∙ append_assoc u.bytes (line c) (ls ++ joined ks)
    ∙ ap (λ t. u.bytes ++ (line c ++ t)) (sym (joined_append (map line_unit lines) ks ∙ ap (λ t. t ++ joined ks) (lines_joined lines)))

dressed_made : (n : ℕ) (lines : List (List ℕ)) (u : TextUnit) (us : List TextUnit) → AreTame lines → Row (u ∷ us) → Stands u
    → drops_with lines u.content ≡ false → passes begins_page 0 (u ∷ us) ≡ Some 0
    → Made begins_page 0 (ended (with_lines n lines (kept (drops_with lines) (nested_from 0 (u ∷ us)))))
dressed_made n lines u us tame r s h p =
    let c : List ℕ = count_content n in
    let d : ℕ = depth_after 0 u in
    let ks : List TextUnit = kept_units false (drops_with lines) d us in
    let more : List TextUnit = kept_lines lines u us in
    let w = passes_cons begins_page 0 u us 0 p in
    let alone : first_unit (line c) ≡ Ok (line_unit c) = sym (ap first_unit (append-nil (line c))) ∙ first_line c [] (count_whole n, refl) in
    let behind : Row more = lines_row lines ks tame (kept_row false (drops_with lines) d us r.3) in
    let row : Row (u ∷ line_unit c ∷ more) =
    (r.0, r.1, (λ _. s), (omega (arith, length-append c (10 ∷ [])), alone, (λ _. first_line c (37 ∷ []) (count_whole n, refl)), behind)) in
    let passing : passes begins_page 0 (u ∷ line_unit c ∷ more) ≡ Some 0 =
    ap (λ b. if b then None else passes begins_page d (line_unit c ∷ more)) w.0
    ∙ ap (λ b. if b then None else passes begins_page d more) (nothing_and ((d == 0) && true))
    ∙ lines_pass d lines ks tame
    ∙ kept_passes begins_page false (drops_with lines) d us 0 (mild_with lines) w.1 in
    subst (λ t. Made begins_page 0 (ended t)) (sym (dressed_text n lines u us h)) (make begins_page (u ∷ line_unit c ∷ more) 0 page_blind row passing)

-- ---- all of it
record Done (border : Option Border) (dress : Dress) (all : List MadeSheet) (us : List NestedUnit) : Type 0 where
  units : List TextUnit
  are : AreUnits (made_output border dress all us) units
  again : IsMadeAgain border dress all us (nested units)
  seen : 0 < length (pages (nested units))
  shut : open_depth (page_run us) ≡ 0 → AreShut (made_texts border dress (pages us) all)
  starts : starts_with nat_eq (made_output border dress all us) (codes "%!") ≡ true

-- from the preamble's units
done_by : (border : Option Border) (dress : Dress) (all : List MadeSheet) → IsTameDress dress → (us : List TextUnit) (p : Parts us) (pre : List TextUnit) → p.pre ≡ pre → starts_with nat_eq (joined us) (codes "%!") ≡ true → AreUnits (joined us) us
    → 0 < length all → Done border dress all (nested us)
done_by border dress all tame us p [] e s m l = absurd (some_preamble us p.run p.rest (p.whole ∙ ap (λ ws. ws ++ (p.run ++ p.rest)) e) p.some p.starts s m)
done_by border dress all tame us p (u ∷ pre) e s m l =
    let ns : List NestedUnit = nested us in
    let n : ℕ = length all in
    let more : List TextUnit = p.run ++ p.rest in
    let whole : us ≡ (u ∷ pre) ++ more = p.whole ∙ ap (λ ws. ws ++ more) e in
    let are : AreUnits (joined ((u ∷ pre) ++ more)) ((u ∷ pre) ++ more) = subst (λ ws. AreUnits (joined ws) ws) whole m in
    let row : Row ((u ∷ pre) ++ more) = row_of ((u ∷ pre) ++ more) [] [] (subst (λ t. AreUnits t (((u ∷ pre) ++ more) ++ [])) (sym (append-nil (joined ((u ∷ pre) ++ more)))) (subst (AreUnits (joined ((u ∷ pre) ++ more))) (sym (append-nil ((u ∷ pre) ++ more))) are)) in
    let first : IsFirst u = first_is (joined ((u ∷ pre) ++ more)) u (subst (λ ws. starts_with nat_eq (joined ws) (codes "%!") ≡ true) whole s) are.1 in
    let some : 0 < length (pre ++ more) = (let a = length-append pre more in let b = length-append p.run p.rest in let c = p.some in omega (arith, a, b, c)) in
    let lines : List (List ℕ) = dress.header in
    let kept_first : drops_with lines u.content ≡ false = first_not_dropped lines u first in
    let text : List ℕ = dressed_preamble n lines ns in
    let before : text ≡ ended (with_lines n lines (kept (drops_with lines) (nested_from 0 (u ∷ pre)))) =
    ap (λ ws. ended (with_lines n lines (kept (drops_with lines) ws))) (p.preamble_is ∙ ap (nested_from 0) e) in
    let made : Made begins_page 0 text =
    subst (Made begins_page 0) (sym before) (dressed_made n lines u pre tame.header (row_front (u ∷ pre) more row) (row.2 some) kept_first (sym (ap (passes begins_page 0) e) ∙ p.before)) in
    let behind : AreUnits (joined p.run ++ joined p.rest) (p.run ++ p.rest) =
    subst (λ t. AreUnits t more) (joined_append p.run p.rest)
    (units_behind (u ∷ pre) (joined more) more (subst (λ t. AreUnits t ((u ∷ pre) ++ more)) (joined_append (u ∷ pre) more) are)) in
    let c : Type 0 = p.depth ≡ 0 in
    let bodies : AllBodies c (pages ns) =
    all_bodies c (pages ns) (subst (λ ws. EachBody c (map bytes_of (split_pages ws))) (sym p.run_is) (pages_good c p.depth 0 p.run (joined p.rest) p.rest (λ x. x) behind p.inside)) in
    let last : Trailing c (trailer_text ns) = subst (λ ws. Trailing c (bytes_of (kept drops_in_header ws))) (sym p.trailer_is) (trailer_made c p.rest (row_back p.run p.rest (row_back (u ∷ pre) more row)) p.opens p.closes) in
    let ts : List (List ℕ) = made_texts border dress (pages ns) all in
    let count : length ts ≡ length all = as_many (λ (s, sheet). made_sheet_text border dress (pages ns) s sheet) 0 all in
    let many : 0 < length ts = omega (arith, count, l) in
    let k : Sheets c ts = all_sheets c ts (each_made c border dress (pages ns) tame bodies (enumerate_from 0 all)) in
    let a : Assembled c text ts (trailer_text ns) = assembled c text ts (trailer_text ns) made k many last in
    let out : made_output border dress all ns ≡ (text ++ flat_map (λ t. t) ts) ++ trailer_text ns =
    ap (λ t. text ++ t ++ trailer_text ns) (mapped (λ (s, sheet). made_sheet_text border dress (pages ns) s sheet) (enumerate_from 0 all)) in
    let closed : open_depth (page_run ns) ≡ 0 → c = λ h. sym (depth_is begins_trailer 0 p.run p.depth p.inside p.some) ∙ sym (ap open_depth p.run_is) ∙ h in
    let ks : List ℕ = joined (line_unit (count_content n) ∷ kept_lines lines u pre) in
    let opening : text ≡ ended (37 ∷ 33 ∷ (first.rest ++ ks)) = before ∙ ap ended (dressed_text n lines u pre kept_first ∙ ap (λ t. t ++ ks) first.written) in
    record {
      units = a.units;
      are = subst (λ t. AreUnits t a.units) (sym out) a.are;
      again = record {
        before = a.first;
        sheets_are = a.middle;
        only_if = λ h. a.exact (h ∙ sym count);
        fewer = (let f = a.few in omega (arith, f, count));
        behind = a.last;
        stays_shut = λ h. a.stays_shut (closed h);
      };
      seen = a.seen;
      shut = λ h. (k.shut (closed h)).1;
      starts =
          ap (λ t. starts_with nat_eq t (codes "%!")) (out ∙ append_assoc text (flat_map (λ t. t) ts) (trailer_text ns))
          ∙ ap (λ t. starts_with nat_eq (t ++ (flat_map (λ t. t) ts ++ trailer_text ns)) (codes "%!")) opening
          ∙ opened (first.rest ++ ks) (flat_map (λ t. t) ts ++ trailer_text ns);
    }

done : (border : Option Border) (dress : Dress) (all : List MadeSheet) → IsTameDress dress → (text : List ℕ) (us : List TextUnit)
    → document_of text ≡ Ok (nested us) → cut text ≡ Ok us → 0 < length all → Done border dress all (nested us)
done border dress all tame text us d c many =
    let m : AreUnits text us = are_units text us c in
    let whole : joined us ≡ text = joined_is text us m in
    let p : Parts us = parts us (some_pages text (nested us) d) in
    done_by border dress all tame us p p.pre refl
    (ap (λ t. starts_with nat_eq t (codes "%!")) whole ∙ accepted_opening text (nested us) d) (subst (λ t. AreUnits t us) (sym whole) m) many

abbrev Says : (border : Option Border) → Dress → List MadeSheet → List NestedUnit → Type 0
Says border dress all us =
    (document_of (made_output border dress all us) ≡ Ok (units_of (made_output border dress all us)))
    × IsMadeAgain border dress all us (units_of (made_output border dress all us))
    × (open_depth (page_run us) ≡ 0 → pages (units_of (made_output border dress all us)) ≡ made_texts border dress (pages us) all)

again_of : (border : Option Border) (dress : Dress) (all : List MadeSheet) → IsTameDress dress → (text : List ℕ) (us : List TextUnit)
    → document_of text ≡ Ok (nested us) → cut text ≡ Ok us → 0 < length all → length all ≤ 1_000_000
    → length (made_output border dress all (nested us)) ≤ 1_073_741_824 → Says border dress all (nested us)
again_of border dress all tame text us d c many few l =
    let x : Done border dress all (nested us) = done border dress all tame text us d c many in
    let fewer = x.again.fewer in
    let r = accept (made_output border dress all (nested us)) x.units (length (pages (nested x.units))) l x.starts x.are refl x.seen (omega (arith, fewer, few)) in
    let again : IsMadeAgain border dress all (nested us) (units_of (made_output border dress all (nested us))) = subst (IsMadeAgain border dress all (nested us)) (sym r.1) x.again in
    (r.0, again, λ h. again.sheets_are (x.shut h))

pub made_is_document : MadeIsDocument
made_is_document border dress all text us tame d many few =
    let w = accepted_cut text us d in
    subst (λ vs. length (made_output border dress all vs) ≤ 1_073_741_824 → Says border dress all vs) w.1
    (again_of border dress all tame text (or_none (cut text)) (subst (λ vs. document_of text ≡ Ok vs) (sym w.1) d) w.0 many few)
