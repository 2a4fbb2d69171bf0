-- Texts that lie in the same memory: what adding one does, and which can be written together.
use Rattle.std.proofs.Common.{ℕ, zero, suc, List, [], ◌∷◌, ◌+◌, ◌-◌, ◌<◌, ◌≤◌, ◌++◌, ◌≡◌, ap, sym, subst, refl, ◌∙◌, length, take, drop, arith, length-append, length-drop, slice_index_or, take-add, drop-drop, Bool, true}
use Rattle.std.specs.Prelude.{slice_get, Some, ◌==◌}
use Rattle.std.specs.List.{range_with_len}
use Rattle.std.proofs.lemmas.Option.{same_Some}
use Rattle.std.proofs.lemmas.List.{take-append-le, drop-append-le, append-nil, map-append, length-map, nil_from_length, length-take-le}
use Rattle.std.proofs.lemmas.List.Concat.{flat_map-append}
use Rattle.std.proofs.Math.Seq.{take-length, drop-append_seam}
use Rattle.lengths.proofs.Numbers.{same_byte}
use Rattle.sheet_text.specs.declared.texts.TextPart.{TextPart}
use Rattle.sheet_text.specs.declared.rope.Borrowed.{Borrowed}
use Rattle.sheet_text.specs.Ropes.{woven, AreInPlace}
use Rattle.sheet_text.specs.Texts.{TextsView, sheets_of, joined_texts, text_in, texts_in, IsIn, AreIn}

-- more bytes after those of a part
pub text_more : (own more : List ℕ) (p : TextPart) → IsIn own p → text_in (own ++ more) p ≡ text_in own p
text_more own more p h =
    let rest_len : length (drop p.start own) ≡ length own - p.start = length-drop p.start own in
    ap (λ x. woven 0 (take (p.end - p.start) x) p.slices.items) (drop-append-le p.start own more (omega (arith, h.0, h.1)))
    ∙ ap (λ x. woven 0 x p.slices.items) (take-append-le (p.end - p.start) (drop p.start own) more (omega (arith, h.0, h.1, rest_len)))

pub is_in_more : (own more : List ℕ) (p : TextPart) → IsIn own p → IsIn (own ++ more) p
is_in_more own more p h = let len = length-append own more in (h.0, omega (arith, h.1, len), h.2)

pub texts_more : (own more : List ℕ) (ps : List TextPart) → AreIn own ps → texts_in (own ++ more) ps ≡ texts_in own ps
texts_more own more [] h = refl
texts_more own more (p ∷ ps) h =
    ap (λ t. (p.sheet, t) ∷ texts_in (own ++ more) ps) (text_more own more p h.0) ∙ ap (λ ts. (p.sheet, text_in own p) ∷ ts) (texts_more own more ps h.1)

pub are_in_more : (own more : List ℕ) (ps : List TextPart) → AreIn own ps → AreIn (own ++ more) ps
are_in_more own more [] h = tt
are_in_more own more (p ∷ ps) h = (is_in_more own more p h.0, are_in_more own more ps h.1)

-- one part more
pub are_in_with : (own : List ℕ) (ps : List TextPart) (p : TextPart) → AreIn own ps → IsIn own p → AreIn own (ps ++ p ∷ [])
are_in_with own [] p h one = (one, tt)
are_in_with own (q ∷ qs) p h one = (h.0, are_in_with own qs p h.1 one)

-- the part of the bytes that come after all
pub text_behind : (own more : List ℕ) (p : TextPart) → p.start ≡ length own → p.end ≡ length (own ++ more) → text_in (own ++ more) p ≡ woven 0 more p.slices.items
text_behind own more p start end =
    let len = length-append own more in
    let front : drop p.start (own ++ more) ≡ more = ap (λ n. drop n (own ++ more)) start ∙ drop-append_seam own more in
    let count : p.end - p.start ≡ length more = omega (arith, start, end, len) in
    ap (λ x. woven 0 (take (p.end - p.start) x) p.slices.items) front ∙ ap (λ n. woven 0 (take n more) p.slices.items) count
    ∙ ap (λ x. woven 0 x p.slices.items) (take-length more)

pub is_behind : (own more : List ℕ) (p : TextPart) → p.start ≡ length own → p.end ≡ length (own ++ more) → AreInPlace 0 (length more) p.slices.items → IsIn (own ++ more) p
is_behind own more p start end h =
    let len = length-append own more in
    let count : p.end - p.start ≡ length more = omega (arith, start, end, len) in
    (omega (arith, start, end, len), omega (arith, end), subst (λ n. AreInPlace 0 n p.slices.items) (sym count) h)

-- a text that was added
pub pushed_in : (own more own_now : List ℕ) (ps ps_now : List TextPart) (p : TextPart) {ss : List Borrowed} → own_now ≡ own ++ more → ps_now ≡ ps ++ p ∷ []
    → p.start ≡ length own → p.end ≡ length own_now → p.slices.items ≡ ss → AreIn own ps → AreInPlace 0 (length more) ss → AreIn own_now ps_now
pushed_in own more own_now ps ps_now p {ss} grown added start end same h placed =
    subst (λ xs. AreIn xs ps_now) (sym grown) (subst (λ qs. AreIn (own ++ more) qs) (sym added)
    (are_in_with (own ++ more) ps p (are_in_more own more ps h)
    (is_behind own more p start (end ∙ ap (λ x. length x) grown) (subst (λ xs. AreInPlace 0 (length more) xs) (sym same) placed))))

pub pushed_behind : (own more own_now : List ℕ) (ps ps_now : List TextPart) (p : TextPart) {ss : List Borrowed} {texts : TextsView} {text : List ℕ}
    → own_now ≡ own ++ more → ps_now ≡ ps ++ p ∷ [] → p.start ≡ length own → p.end ≡ length own_now → p.slices.items ≡ ss → AreIn own ps
    → texts_in own ps ≡ texts → woven 0 more ss ≡ text → texts_in own_now ps_now ≡ texts ++ (p.sheet, text) ∷ []
pushed_behind own more own_now ps ps_now p {ss} {texts} {text} grown added start end same h view one =
    let front : texts_in (own ++ more) ps ≡ texts = texts_more own more ps h ∙ view in
    let last : text_in (own ++ more) p ≡ text = text_behind own more p start (end ∙ ap (λ x. length x) grown) ∙ ap (λ xs. woven 0 more xs) same ∙ one in
    ap (λ xs. texts_in xs ps_now) grown ∙ ap (λ qs. texts_in (own ++ more) qs) added ∙ map-append (λ (q : TextPart). (q.sheet, text_in (own ++ more) q)) ps (p ∷ [])
    ∙ ap (λ ts. ts ++ (p.sheet, text_in (own ++ more) p) ∷ []) front ∙ ap (λ t. texts ++ (p.sheet, t) ∷ []) last

-- each part has its bytes
pub is_in_at : (own : List ℕ) (n : ℕ) (ps : List TextPart) (d : TextPart) → n < length ps → AreIn own ps → IsIn own (slice_index_or ps n d)
is_in_at own n [] d lt h = absurd (omega (arith, lt))
is_in_at own zero (p ∷ ps) d lt h = h.0
is_in_at own (suc n) (p ∷ ps) d lt h = is_in_at own n ps d (omega (arith, lt)) h.1

-- the sheet at this index, and its text
pub text_at : (own : List ℕ) (n : ℕ) (ps : List TextPart) (d : TextPart) → n < length ps
    → drop n (texts_in own ps) ≡ ((slice_index_or ps n d).sheet, text_in own (slice_index_or ps n d)) ∷ drop (suc n) (texts_in own ps)
text_at own n [] d lt = absurd (omega (arith, lt))
text_at own zero (p ∷ ps) d lt = refl
text_at own (suc n) (p ∷ ps) d lt = text_at own n ps d (omega (arith, lt))

-- the bytes between two places, and those after them
pub bytes_behind : (own : List ℕ) (start end next : ℕ) → start ≤ end → end ≤ next → next ≤ length own
    → take (end - start) (drop start own) ++ take (next - end) (drop end own) ≡ take (next - start) (drop start own)
bytes_behind own start end next up more within =
    let rest : drop end own ≡ drop (end - start) (drop start own) = ap (λ n. drop n own) (omega (arith, up)) ∙ sym (drop-drop (end - start) start own) in
    let all : (end - start) + (next - end) ≡ next - start = omega (arith, up, more) in
    ap (λ xs. take (end - start) (drop start own) ++ take (next - end) xs) rest ∙ sym (take-add (end - start) (next - end) (drop start own))
    ∙ ap (λ n. take n (drop start own)) all

sheet_at : (own : List ℕ) (n : ℕ) (ps : List TextPart) (d : TextPart) → n < length ps → slice_get (sheets_of (texts_in own ps)) n ≡ Some (slice_index_or ps n d).sheet
sheet_at own n [] d lt = absurd (omega (arith, lt))
sheet_at own zero (p ∷ ps) d lt = refl
sheet_at own (suc n) (p ∷ ps) d lt = sheet_at own n ps d (omega (arith, lt))

pub has_sheet : (own : List ℕ) (ps : List TextPart) (n : ℕ) (p : TextPart) → n < length ps → p ≡ slice_index_or ps n p → slice_get (sheets_of (texts_in own ps)) n ≡ Some p.sheet
has_sheet own ps n p lt is = sheet_at own n ps p lt ∙ ap (λ (q : TextPart). Some q.sheet) (sym is)

-- one more number in a row
row_more : (first n : ℕ) → range_with_len first (n + 1) ≡ range_with_len first n ++ (first + n) ∷ []
row_more first n = let next : n + 1 ≡ suc n = omega arith in ap (λ k. range_with_len first k) next ∙ last n first
  where
    last : (n first : ℕ) → range_with_len first (suc n) ≡ range_with_len first n ++ (first + n) ∷ []
    last zero first = ap (λ k. k ∷ []) (omega arith)
    last (suc n) first = ap (λ xs. first ∷ xs) (last n (first + 1) ∙ ap (λ k. range_with_len (first + 1) n ++ k ∷ []) (omega arith))

-- from this index on so many sheets follow each other, and their texts are the bytes between these two places, with these slices
pub record AreNeighbours (own : List ℕ) (ps : List TextPart) (sheet : ℕ) (ss : List Borrowed) (n count start end : ℕ) : Type 0 where
  pub some : 0 < count
  pub up : start ≤ end
  pub within : end ≤ length own
  pub placed : AreInPlace 0 (end - start) ss
  pub row : sheets_of (take count (drop n (texts_in own ps))) ≡ range_with_len sheet count
  pub bytes : joined_texts (take count (drop n (texts_in own ps))) ≡ woven 0 (take (end - start) (drop start own)) ss

-- one is
pub one_alone : (own : List ℕ) (ps : List TextPart) (sheet : ℕ) (ss : List Borrowed) (n : ℕ) (p : TextPart) → n < length ps → AreIn own ps → p ≡ slice_index_or ps n p
    → slice_get (sheets_of (texts_in own ps)) n ≡ Some sheet → ss ≡ p.slices.items → AreNeighbours own ps sheet ss n 1 p.start p.end
one_alone own ps sheet ss n p lt h is at same =
    let fits : IsIn own p = subst (λ q. IsIn own q) (sym is) (is_in_at own n ps p lt h) in
    let number : (slice_index_or ps n p).sheet ≡ sheet = same_Some _ _ (sym (sheet_at own n ps p lt) ∙ at) in
    record {
      some = omega arith;
      up = fits.0;
      within = fits.1;
      placed = subst (λ xs. AreInPlace 0 (p.end - p.start) xs) (sym same) fits.2;
      row = ap (λ ts. sheets_of (take 1 ts)) (text_at own n ps p lt) ∙ ap (λ k. k ∷ []) number;
      bytes = ap (λ ts. joined_texts (take 1 ts)) (text_at own n ps p lt) ∙ append-nil (text_in own (slice_index_or ps n p)) ∙ ap (λ q. text_in own q) (sym is)
          ∙ ap (λ xs. woven 0 (take (p.end - p.start) (drop p.start own)) xs) (sym same);
    }

-- and one more right after them, if none has slices
pub one_more : (own : List ℕ) (ps : List TextPart) (sheet : ℕ) (ss : List Borrowed) (n count start end next : ℕ) (p : TextPart) → next < length ps → n + count ≡ next → AreIn own ps
    → AreNeighbours own ps sheet ss n count start end → p ≡ slice_index_or ps next p → p.sheet ≡ sheet + count → p.start ≡ end → ss ≡ [] → p.slices.items ≡ []
    → AreNeighbours own ps sheet ss n (count + 1) start p.end
one_more own ps sheet ss n count start end next p lt comes h before is number at nil no_slices =
    let texts = texts_in own ps in
    let fits : IsIn own p = subst (λ q. IsIn own q) (sym is) (is_in_at own next ps p lt h) in
    let rest : drop count (drop n texts) ≡ (p.sheet, text_in own p) ∷ drop (suc next) texts =
    drop-drop count n texts ∙ ap (λ k. drop k texts) (omega (arith, comes)) ∙ text_at own next ps p lt ∙ ap (λ (q : TextPart). (q.sheet, text_in own q) ∷ drop (suc next) texts) (sym is) in
    let more : take (count + 1) (drop n texts) ≡ take count (drop n texts) ++ (p.sheet, text_in own p) ∷ [] =
    take-add count 1 (drop n texts) ∙ ap (λ ts. take count (drop n texts) ++ take 1 ts) rest in
    let bytes : text_in own p ≡ take (p.end - end) (drop end own) =
    ap (λ xs. woven 0 (take (p.end - p.start) (drop p.start own)) xs) no_slices ∙ ap (λ s. take (p.end - s) (drop s own)) at in
    let all : take (end - start) (drop start own) ++ (text_in own p ++ []) ≡ take (p.end - start) (drop start own) =
    ap (λ x. take (end - start) (drop start own) ++ x) (append-nil (text_in own p) ∙ bytes)
    ∙ bytes_behind own start end p.end before.up (omega (arith, at, fits.0)) fits.1 in
    record {
      some = omega (arith, before.some);
      up = omega (arith, before.up, at, fits.0);
      within = fits.1;
      placed = subst (λ xs. AreInPlace 0 (p.end - start) xs) (sym nil) (omega arith);
      row = ap sheets_of more ∙ map-append (λ (t : ℕ × List ℕ). t.0) (take count (drop n texts)) ((p.sheet, text_in own p) ∷ []) ∙ ap (λ xs. xs ++ p.sheet ∷ []) before.row
          ∙ ap (λ k. range_with_len sheet count ++ k ∷ []) number ∙ sym (row_more sheet count);
      bytes = ap joined_texts more ∙ flat_map-append (λ (t : ℕ × List ℕ). t.1) (take count (drop n texts)) ((p.sheet, text_in own p) ∷ [])
          ∙ ap (λ x. x ++ (text_in own p ++ [])) before.bytes
          ∙ subst (λ xs. woven 0 (take (end - start) (drop start own)) xs ++ (text_in own p ++ []) ≡ woven 0 (take (p.end - start) (drop start own)) xs) (sym nil) all;
    }

pub nil_told : {X : Type 0} (xs : List X) (b : Bool) → b ≡ (length xs == 0) → b ≡ true → xs ≡ []
nil_told xs b is told = nil_from_length xs (same_byte (length xs) 0 (sym is ∙ told))

-- their slices lie between their bytes
pub piece_placed : {own : List ℕ} {ps : List TextPart} {sheet : ℕ} {ss : List Borrowed} {n count start end : ℕ} → AreNeighbours own ps sheet ss n count start end
    → AreInPlace 0 (0 + length (take (end - start) (drop start own))) (drop 0 ss)
piece_placed {own} {ps} {sheet} {ss} {n} {count} {start} {end} are =
    let rest_len : length (drop start own) ≡ length own - start = length-drop start own in
    let len : length (take (end - start) (drop start own)) ≡ end - start = length-take-le (end - start) (drop start own) (omega (arith, are.up, are.within, rest_len)) in
    subst (λ k. AreInPlace 0 k ss) (omega (arith, len)) are.placed

-- as many texts as parts
pub below_parts : (own : List ℕ) (ps : List TextPart) (texts : TextsView) (n : ℕ) → texts_in own ps ≡ texts → n < length texts → n < length ps
below_parts own ps texts n view lt = let len = sym (length-map ps (λ (p : TextPart). (p.sheet, text_in own p))) ∙ ap (λ ts. length ts) view in omega (arith, len, lt)
