-- The preamble: its first line, and what is between it and the first page.
use Rattle.std.specs.Prelude.{Result, Ok, Err, not, codes, decimal}
use Rattle.std.specs.List.{prefix_len, starts_with, take_while, list_any}
use Rattle.std.specs.Str.{bytes_eq}
use Rattle.std.proofs.Common.{Bool, true, false, cond, nat_eq, if◌then◌else◌, ◌&&◌, ◌||◌, ◌==◌, ◌≡◌, ℕ, suc, ◌+◌, ◌-◌, ◌<◌, ◌≤◌, List, [], ◌∷◌, ◌++◌, length, take, drop, get_or, refl, ap, arith, length-append, length-take, sym, ◌∙◌, subst}
use Rattle.std.proofs.lemmas.List.{take-append-drop}
use Rattle.std.proofs.lemmas.List.Sums.{take_while-cons}
use Rattle.std.proofs.lemmas.Slice.Eq.{bytes_eq-Decides}
use Rattle.std.proofs.Math.Seq.{take-append_seam}
use Rattle.rules.specs.Bytes.{line}
use Rattle.rules.specs.Units.{TextUnit, BlockFault, has_key, is_end, is_blank, content_of, line_len, key, begins_block, fields, data_len, block, first_unit, cut, BeginsWith}
use Rattle.rules.specs.Parts.{NestedUnit, depth_after, nested_from, nested, begins_page, up_to, preamble, bytes_of}
use Rattle.rules.specs.Filters.{kept_after, kept, drops_in_header, ended, with_count, preamble_text, continues}
use Rattle.rules.specs.Dress.{lines_text}
use Rattle.rules.specs.MadeOutput.{with_lines, drops_with, dressed_preamble}
use Rattle.std.proofs.lemmas.List.{append-nil}
use Rattle.dsc.specs.Units.{or_none, units_of}
use Rattle.dsc.specs.Documents.{HasItsParts}
use Rattle.dsc.specs.Marks.{pages_end}
use Rattle.dsc.proofs.LineLengths.{line_len-within}
use Rattle.dsc.proofs.Rows.{joined, units-whole, units-alone, units-cut, cut-begins}
use Rattle.dsc.proofs.Alone.{nested-take, nested-bytes, begins-take}
use Rattle.dsc.proofs.Reading.{accepted_opening}
use Rattle.dsc.proofs.PartMarks.{before-cons}
use Rattle.dsc.proofs.Slices.{preamble_start}

-- a line that begins with %! has a key that does, and no line of DSC has such a key
abbrev Opening : List ℕ → Type 0
Opening content = (more : List ℕ) × (key content ≡ 37 ∷ 33 ∷ more)

two_on : (text : List ℕ) → starts_with nat_eq text (codes "%!") ≡ true → text ≡ 37 ∷ 33 ∷ drop 2 text
two_on text h = sym (take-append-drop 2 text) ∙ ap (λ t. t ++ drop 2 text) (sym ((bytes_eq-Decides (codes "%!") (take 2 text)).0 h))

two_of : (q : ℕ → Bool) (rest : List ℕ) → q 37 ≡ true → q 33 ≡ true → take_while q (37 ∷ 33 ∷ rest) ≡ 37 ∷ 33 ∷ take_while q rest
two_of q rest a b =
    take_while-cons q 37 (33 ∷ rest) ∙ ap (λ t. cond t (37 ∷ take_while q (33 ∷ rest)) []) a
    ∙ ap (λ t. 37 ∷ t) (take_while-cons q 33 rest ∙ ap (λ t. cond t (33 ∷ take_while q rest) []) b)

opening : (text : List ℕ) → starts_with nat_eq text (codes "%!") ≡ true → Opening (content_of text)
opening text h =
    let content : content_of text ≡ 37 ∷ 33 ∷ content_of (drop 2 text) = ap content_of (two_on text h) ∙ two_of (λ b. not (is_end b)) (drop 2 text) refl refl in
    (key (content_of (drop 2 text)), ap key content ∙ two_of (λ b. not (is_blank b || (b == 58))) (content_of (drop 2 text)) refl refl)

abbrev opening_line : List ℕ → List ℕ → TextUnit
opening_line content bytes = record { content = content; bytes = bytes; is_block = false }

no_block : (content : List ℕ) → Opening content → begins_block content ≡ false
no_block content w =
    ap (λ k. (list_any (bytes_eq k) (codes "%%BeginData" ∷ []) && starts_with nat_eq content (codes "%%BeginData" ++ 58 ∷ []))
    || (list_any (bytes_eq k) (codes "%%BeginBinary" ∷ []) && starts_with nat_eq content (codes "%%BeginBinary" ++ 58 ∷ []))) w.1

same_depth : (content bytes : List ℕ) → Opening content → depth_after 0 (opening_line content bytes) ≡ 0
same_depth content bytes w =
    ap (λ k. if list_any (bytes_eq k) (codes "%%BeginDocument" ∷ []) then 0 + 1 else (if list_any (bytes_eq k) (codes "%%EndDocument" ∷ []) then 0 - 1 else 0)) w.1

no_page : (content bytes : List ℕ) → Opening content → begins_page (record { depth = 0; unit = opening_line content bytes }) ≡ false
no_page content bytes w = ap (λ k. list_any (bytes_eq k) (codes "%%Page" ∷ []) && starts_with nat_eq content (codes "%%Page" ++ 58 ∷ [])) w.1

no_header : (content : List ℕ) → Opening content → drops_in_header content ≡ false
no_header content w =
    ap (λ k. list_any (bytes_eq k)
    (codes "%%Pages" ∷ codes "%%PageOrder" ∷ codes "%%BoundingBox" ∷ codes "%%HiResBoundingBox" ∷ codes "%%DocumentMedia" ∷ codes "%%Orientation" ∷ [])) w.1

not_dropped : (rows : List (List ℕ)) (content : List ℕ) → Opening content → drops_with rows content ≡ false
not_dropped [] content w = no_header content w
not_dropped (l ∷ ls) content w =
    ap (λ t. t || has_key (codes "%%DocumentPaperSizes" ∷ []) content) (no_header content w) ∙ ap (λ k. list_any (bytes_eq k) (codes "%%DocumentPaperSizes" ∷ [])) w.1

first_kept : (rows : List (List ℕ)) (content bytes : List ℕ) (us : List NestedUnit) → Opening content
    → kept (drops_with rows) (record { depth = 0; unit = opening_line content bytes } ∷ us) ≡ record { depth = 0; unit = opening_line content bytes } ∷ kept (drops_with rows) us
first_kept rows content bytes us w =
    let u : NestedUnit = record { depth = 0; unit = opening_line content bytes } in
    ap (λ t. if t || (false && continues u) then kept_after true (drops_with rows) us else u ∷ kept_after false (drops_with rows) us) (not_dropped rows content w)

abbrev unit_or : TextUnit → Result TextUnit BlockFault → TextUnit
unit_or u (Ok v) = v
unit_or u (Err e) = u

-- the first line of a document, and the units after it
abbrev Opened : List ℕ → List TextUnit → Type 0
Opened text ps =
    (qs : List TextUnit) × (nested ps ≡ record { depth = 0; unit = opening_line (content_of text) (take (line_len text) text) } ∷ nested qs)
    × BeginsWith qs (drop (line_len text) text) []

opened_by : (text : List ℕ) (ps : List TextUnit) → starts_with nat_eq text (codes "%!") ≡ true → BeginsWith ps text [] → Opened text ps
opened_by text [] s h = absurd (let size : length text ≡ suc (suc (length (drop 2 text))) = ap length (two_on text s) in let none : length text ≡ 0 = ap length (sym h) in omega (arith, size, none))
opened_by text (q ∷ qs) s h =
    let n : ℕ = line_len text in
    let w : Opening (content_of text) = opening text s in
    let p : TextUnit = opening_line (content_of text) (take n text) in
    let found : first_unit text ≡ Ok p = ap (λ t. if t then block text n (data_len (content_of text) (drop n text) (fields (content_of text))) else Ok p) (no_block (content_of text) w) in
    let same : q ≡ p = ap (unit_or p) (sym h.1 ∙ found) in
    let fits : n ≤ length text = line_len-within text in
    let size : length (take n text) ≡ n = (let l = length-take n text in omega (arith, l, fits)) in
    let long : length q.bytes ≡ n = ap (λ u. length u.bytes) same ∙ size in (
      qs,
      ap (λ u. record { depth = 0; unit = u } ∷ nested_from (depth_after 0 u) qs) same
          ∙ ap (λ d. record { depth = 0; unit = p } ∷ nested_from d qs) (same_depth (content_of text) (take n text) w),
      subst (λ k. BeginsWith qs (drop k text) []) long h.2,
    )

-- what the code finds of a preamble whose first line has n bytes, and whose first page begins at this byte
abbrev pub PreambleFound : List ℕ → (n start sheets : ℕ) → Type 0
PreambleFound text n start sheets =
    let rest = take (start - n) (drop n text) in
    (n ≤ start) × (start - n ≤ length (drop n text)) × (cut rest ≡ Ok (or_none (cut rest)))
    × ((rows : List (List ℕ)) → ended (((take n text ++ line (codes "%%Pages: " ++ decimal sheets)) ++ lines_text rows) ++ bytes_of (kept (drops_with rows) (units_of rest))) ≡ dressed_preamble sheets rows (units_of text))

preamble_found : (text : List ℕ) (start sheets : ℕ) → starts_with nat_eq text (codes "%!") ≡ true → cut text ≡ Ok (or_none (cut text))
    → start ≡ length (bytes_of (preamble (units_of text))) → PreambleFound text (line_len text) start sheets
preamble_found text start sheets s c e =
    let us : List NestedUnit = units_of text in
    let n : ℕ = line_len text in
    let content : List ℕ = content_of text in
    let w : Opening content = opening text s in
    let p : TextUnit = opening_line content (take n text) in
    let u : NestedUnit = record { depth = 0; unit = p } in
    let o = opened_by text (or_none (cut text)) s (cut-begins text (or_none (cut text)) c) in
    let qs : List TextUnit = o.0 in
    let k : ℕ = prefix_len (λ v. not (begins_page v)) (nested qs) in
    let hs : List TextUnit = take k qs in
    let b = begins-take k qs (drop n text) [] o.2 in
    let head : preamble us ≡ u ∷ nested hs =
    ap preamble o.1 ∙ before-cons begins_page u (nested qs) ∙ ap (λ t. cond t [] (u ∷ up_to begins_page (nested qs))) (no_page content (take n text) w)
    ∙ ap (λ vs. u ∷ vs) (nested-take k 0 qs) in
    let fits : n ≤ length text = line_len-within text in
    let first : length (take n text) ≡ n = (let l = length-take n text in omega (arith, l, fits)) in
    let size : start ≡ n + length (joined hs) =
    (let l = length-append (take n text) (bytes_of (nested hs)) in
    let bytes : length (bytes_of (preamble us)) ≡ length (take n text ++ bytes_of (nested hs)) = ap (λ vs. length (bytes_of vs)) head in
    let same : length (bytes_of (nested hs)) ≡ length (joined hs) = ap length (nested-bytes 0 hs) in
    omega (arith, e, bytes, l, same, first)) in
    let whole : drop n text ≡ joined hs ++ b.0 = units-whole hs (drop n text) b.0 b.1 in
    let more = ap length whole ∙ length-append (joined hs) b.0 in
    let left : start - n ≡ length (joined hs) = omega (arith, size) in
    let rest : take (start - n) (drop n text) ≡ joined hs = ap (λ j. take j (drop n text)) left ∙ ap (take (length (joined hs))) whole ∙ take-append_seam (joined hs) b.0 in
    let found : cut (take (start - n) (drop n text)) ≡ Ok hs = ap cut rest ∙ units-cut hs (joined hs) (units-alone hs (drop n text) b.0 b.1) in
    let units : units_of (take (start - n) (drop n text)) ≡ nested hs = ap (λ r. nested (or_none r)) found in (
      omega (arith, size),
      omega (arith, left, more),
      found ∙ ap (λ r. Ok (or_none r)) (sym found),
      (λ rows.
          ap (λ vs. ended (((take n text ++ line (codes "%%Pages: " ++ decimal sheets)) ++ lines_text rows) ++ bytes_of (kept (drops_with rows) vs))) units
          ∙ ap (λ vs. ended (with_lines sheets rows vs)) (sym (first_kept rows content (take n text) (nested hs) w))
          ∙ ap (λ vs. ended (with_lines sheets rows (kept (drops_with rows) vs))) (sym head)),
    )

-- the same, from what always holds of a document's fields
pub preamble_at : {bodies : List ℕ} (text starts items : List ℕ) (stop n start sheets : ℕ) → HasItsParts text starts bodies stop → n ≡ line_len text → items ≡ starts → start ≡ get_or items 0 0 → PreambleFound text n start sheets
preamble_at text starts items stop n start sheets i e r s =
    let us : List NestedUnit = units_of text in
    let first : start ≡ length (bytes_of (preamble us)) =
    s ∙ ap (λ xs. get_or xs 0 0) r ∙ any_default starts 0 (pages_end us) i.some ∙ ap (λ xs. get_or xs 0 (pages_end us)) i.starts_are ∙ preamble_start us in
    subst (λ k. PreambleFound text k start sheets) (sym e) (preamble_found text start sheets (accepted_opening text _ i.accepted) i.is_cut first)
  where
    any_default : (xs : List ℕ) (a b : ℕ) → 0 < length xs → get_or xs 0 a ≡ get_or xs 0 b
    any_default [] a b h = absurd (omega (arith, h))
    any_default (x ∷ xs) a b h = refl

-- without lines nothing changes
counted : (n : ℕ) (us : List NestedUnit) → with_lines n [] us ≡ with_count n us
counted n [] = refl
counted n (u ∷ us) = ap (λ t. t ++ bytes_of us) (append-nil (u.unit.bytes ++ line (codes "%%Pages: " ++ decimal n)))

pub undressed : (n : ℕ) (us : List NestedUnit) → dressed_preamble n [] us ≡ preamble_text n us
undressed n us = ap ended (counted n (kept drops_in_header (preamble us)))
