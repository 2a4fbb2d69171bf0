-- How a unit depends on the bytes after it.
use mathlib.Core.Logic.{◌⊎◌, inl, inr}
use Rattle.std.specs.Prelude.{Result, Ok, Err, Option, Some, None, not, if◌then◌else◌}
use Rattle.std.specs.List.{list_all}
use Rattle.std.specs.Char.{is_ascii_digit}
use Rattle.std.proofs.Common.{Bool, true, false, ltb, append_assoc, ◌&&◌, ◌≡◌, ℕ, zero, suc, ◌+◌, ◌<◌, ◌≤◌, List, [], ◌∷◌, ◌++◌, length, take, drop, refl, ap, arith, length-append, length-drop, length-take, sym, ◌∙◌, subst}
use Rattle.std.proofs.lemmas.Bool.{ltb-false, le-ltb}
use Rattle.std.proofs.Math.Seq.{drop-append-le, take-append-le}
use Rattle.rules.specs.Numbers.{number_of}
use Rattle.rules.specs.Bytes.{line}
use Rattle.imposed_again.specs.Seams.{no_ends, IsLine, line_unit, lf, ends}
use Rattle.rules.specs.Units.{is_end, TextUnit, BlockFault, content_of, line_len, lines_len, begins_block, fields, counts_lines, or_short, data_len, block, first_unit}
use Rattle.dsc.specs.Fields.{block_len}
use Rattle.dsc.proofs.Cases.{by_test}
use Rattle.dsc.proofs.LineLengths.{line_len-within, lines_len-least}
use Rattle.dsc.proofs.Fronts.{data-within, bytes_or}
use Rattle.imposed_again.proofs.LinesMeet.{stop_line, go_line, go_content, line_same, ends_drop, lines_same, feed_content, Fed, fed_line, FedLines, fed_lines}

short_some : (o : Option ℕ) (m : ℕ) → or_short o ≡ Ok m → o ≡ Some m
short_some None m e = cc
short_some (Some k) m e = cc

bytes_ok : (t : Bool) (n m : ℕ) → (if t then None else Some n) ≡ Some m → (t ≡ false) × (m ≡ n)
bytes_ok true n m e = cc
bytes_ok false n m e = (refl, cc)

pub and_second : (a b : Bool) → (a && b) ≡ true → b ≡ true
and_second true b e = e
and_second false b e = cc

pub not_end : (a b : Bool) → (not a && b) ≡ true → a ≡ false
not_end true b e = cc
not_end false b e = refl

-- The data of a block.

pub counted_same : (in_lines : Bool) (n : ℕ) (x r s : List ℕ) (m : ℕ) → block_len in_lines n (x ++ r) ≡ Ok m → m ≤ length x → (lf s ≡ true → lf r ≡ true)
    → (r ≡ [] → 0 < length x → ends x ≡ true) → block_len in_lines n (x ++ s) ≡ Ok m
counted_same true n x r s m e h j k = ap or_short (lines_same n x r s m (short_some _ m e) h j k)
counted_same false n x r s m e h j k =
    let w = bytes_ok _ n m (short_some _ m e) in
    let fits : ltb (length (x ++ s)) n ≡ false = le-ltb _ _ (let l = length-append x s in omega (arith, w.1, h, l)) in
    ap (λ t. or_short (if t then None else Some n)) fits ∙ ap (λ j. or_short (Some j)) (sym w.1)

data_same : (content x r s : List ℕ) (fs : List (List ℕ)) (m : ℕ) → data_len content (x ++ r) fs ≡ Ok m → m ≤ length x → (lf s ≡ true → lf r ≡ true)
    → (r ≡ [] → 0 < length x → ends x ≡ true) → data_len content (x ++ s) fs ≡ Ok m
data_same content x r s [] m e h j k = cc
data_same content x r s (f ∷ fs) m e h j k = by_test (list_all is_ascii_digit f)
    (λ is. rw is (counted_same (counts_lines content (f ∷ fs)) (number_of f) x r s m (rw is at e) h j k))
    (λ not. let e = (rw not at e) in cc)

data_within : (content rest : List ℕ) (fs : List (List ℕ)) (m : ℕ) → data_len content rest fs ≡ Ok m → m ≤ length rest
data_within content rest [] m e = cc
data_within content rest (f ∷ fs) m e = by_test (list_all is_ascii_digit f)
    (λ is. data-within (counts_lines content (f ∷ fs)) (number_of f) rest m (rw is at e))
    (λ not. let e = (rw not at e) in cc)

-- A unit by its parts.

abbrev block_with : List ℕ → List ℕ → ℕ → Result ℕ BlockFault → Result TextUnit BlockFault
block_with text content n (Err e) = Err e
block_with text content n (Ok k) = Ok (record { content = content; bytes = take (n + k) text; is_block = true })

block_is : (text : List ℕ) (n : ℕ) (r : Result ℕ BlockFault) → block text n r ≡ block_with text (content_of text) n r
block_is text n (Err e) = refl
block_is text n (Ok k) = refl

abbrev chosen : Bool → List ℕ → List ℕ → ℕ → List (List ℕ) → Result TextUnit BlockFault
chosen t text content n fs = if t then block_with text content n (data_len content (drop n text) fs) else Ok (record { content = content; bytes = take n text; is_block = false })

abbrev unit_with : List ℕ → List ℕ → ℕ → Result TextUnit BlockFault
unit_with text content n = chosen (begins_block content) text content n (fields content)

unit_is : (text : List ℕ) → first_unit text ≡ unit_with text (content_of text) (line_len text)
unit_is text =
    let content : List ℕ = content_of text in
    let n : ℕ = line_len text in
    ap (λ b. if begins_block content then b else Ok (record { content = content; bytes = take n text; is_block = false }))
    (block_is text n (data_len content (drop n text) (fields content)))

block_ok : (text content : List ℕ) (n : ℕ) (r : Result ℕ BlockFault) (u : TextUnit) → block_with text content n r ≡ Ok u → (m : ℕ) × (r ≡ Ok m) × (u ≡ record { content = content; bytes = take (n + m) text; is_block = true })
block_ok text content n (Err e) u w = cc
block_ok text content n (Ok m) u w = (m, refl, cc)

line_ok : (text content : List ℕ) (n : ℕ) (u : TextUnit) → ◌≡◌ {A = Result TextUnit BlockFault} (Ok (record { content = content; bytes = take n text; is_block = false })) (Ok u) → u.bytes ≡ take n text
line_ok text content n u e = sym (ap bytes_or e)

-- the line of a unit that ends within x ends within x
line_first : (t : Bool) (x r content : List ℕ) (n : ℕ) (fs : List (List ℕ)) (u : TextUnit) → n ≤ length (x ++ r) → chosen t (x ++ r) content n fs ≡ Ok u → length u.bytes ≤ length x → n ≤ length x
line_first true x r content n fs u within e h =
    let w = block_ok (x ++ r) content n (data_len content (drop n (x ++ r)) fs) u e in
    let size : length u.bytes ≡ length (take (n + w.0) (x ++ r)) = ap (λ q. length q.bytes) w.2 in
    let small : w.0 ≤ length (drop n (x ++ r)) = data_within content (drop n (x ++ r)) fs w.0 w.1 in
    omega (arith, h, size, length-take (n + w.0) (x ++ r), small, within, length-drop n (x ++ r))
line_first false x r content n fs u within e h =
    let size : length u.bytes ≡ length (take n (x ++ r)) = ap length (line_ok (x ++ r) content n u e) in
    omega (arith, h, size, length-take n (x ++ r), within)

chosen_same : (t : Bool) (x r s content : List ℕ) (n : ℕ) (fs : List (List ℕ)) (u : TextUnit) → n ≤ length x → chosen t (x ++ r) content n fs ≡ Ok u → length u.bytes ≤ length x
    → (lf s ≡ true → lf r ≡ true) → (r ≡ [] → ends x ≡ true) → chosen t (x ++ s) content n fs ≡ Ok u
chosen_same true x r s content n fs u within e h j k =
    let w = block_ok (x ++ r) content n (data_len content (drop n (x ++ r)) fs) u e in
    let size : length u.bytes ≡ length (take (n + w.0) (x ++ r)) = ap (λ q. length q.bytes) w.2 in
    let small : w.0 ≤ length (drop n (x ++ r)) = data_within content (drop n (x ++ r)) fs w.0 w.1 in
    let sum : n + w.0 ≤ length x = omega (arith, h, size, length-take (n + w.0) (x ++ r), small, within, length-drop n (x ++ r), length-append x r) in
    let old : data_len content (drop n x ++ r) fs ≡ Ok w.0 = sym (ap (λ z. data_len content z fs) (drop-append-le n x r within)) ∙ w.1 in
    let new : data_len content (drop n x ++ s) fs ≡ Ok w.0 = data_same content (drop n x) r s fs w.0 old (omega (arith, sum, length-drop n x)) j (λ e l. ends_drop n x (k e) l) in
    ap (λ z. block_with (x ++ s) content n (data_len content z fs)) (drop-append-le n x s within)
    ∙ ap (block_with (x ++ s) content n) new
    ∙ ap (λ bs. Ok (record { content = content; bytes = bs; is_block = true })) (take-append-le (n + w.0) x s sum ∙ sym (take-append-le (n + w.0) x r sum))
    ∙ ap Ok (sym w.2)
chosen_same false x r s content n fs u within e h j k =
    ap (λ bs. Ok (record { content = content; bytes = bs; is_block = false })) (take-append-le n x s within ∙ sym (take-append-le n x r within)) ∙ e

-- a unit that ends within x stays the same before other bytes, if these begin with no line feed or the first ones
-- did too. If nothing followed x at first, x has to end with a line end
pub unit_same : (x r s : List ℕ) (u : TextUnit) → first_unit (x ++ r) ≡ Ok u → length u.bytes ≤ length x → (lf s ≡ true → lf r ≡ true) → (r ≡ [] → ends x ≡ true) → first_unit (x ++ s) ≡ Ok u
unit_same x r s u e h j k =
    let content : List ℕ = content_of (x ++ r) in
    let n : ℕ = line_len (x ++ r) in
    let is : unit_with (x ++ r) content n ≡ Ok u = sym (unit_is (x ++ r)) ∙ e in
    let within : n ≤ length x = line_first (begins_block content) x r content n (fields content) u (line_len-within (x ++ r)) is h in
    let same = line_same x r s within j k in
    unit_is (x ++ s) ∙ ap (λ c. unit_with (x ++ s) c (line_len (x ++ s))) same.0 ∙ ap (unit_with (x ++ s) content) same.1
    ∙ chosen_same (begins_block content) x r s content n (fields content) u within is h j k

-- Before a line feed.

abbrev FedData : (old : ℕ) (new : Result ℕ BlockFault) (most : ℕ) → Type 0
FedData old new most = (new ≡ Ok old) ⊎ ((old ≡ most) × (new ≡ Ok (suc most)))

fed_short : (old : ℕ) (new : Option ℕ) (most : ℕ) → FedLines old new most → FedData old (or_short new) most
fed_short old new most (inl p) = inl (ap or_short p)
fed_short old new most (inr p) = inr (p.0, ap or_short p.1)

fed_counted : (in_lines : Bool) (n : ℕ) (x ys : List ℕ) (m : ℕ) → block_len in_lines n x ≡ Ok m → FedData m (block_len in_lines n (x ++ 10 ∷ ys)) (length x)
fed_counted true n x ys m e = fed_short m _ (length x) (fed_lines n x ys m (short_some _ m e))
fed_counted false n x ys m e =
    let w = bytes_ok _ n m (short_some _ m e) in
    let less = ltb-false _ _ w.0 in
    let fits : ltb (length (x ++ 10 ∷ ys)) n ≡ false = le-ltb _ _ (let l = length-append x (10 ∷ ys) in omega (arith, less, l)) in
    inl (ap (λ t. or_short (if t then None else Some n)) fits ∙ ap (λ j. or_short (Some j)) (sym w.1))

fed_data : (content x ys : List ℕ) (fs : List (List ℕ)) (m : ℕ) → data_len content x fs ≡ Ok m → FedData m (data_len content (x ++ 10 ∷ ys) fs) (length x)
fed_data content x ys [] m e = cc
fed_data content x ys (f ∷ fs) m e = by_test (list_all is_ascii_digit f)
    (λ is. rw is (fed_counted (counts_lines content (f ∷ fs)) (number_of f) x ys m (rw is at e)))
    (λ not. let e = (rw not at e) in cc)

-- there are no data, whatever follows
counted_none : (in_lines : Bool) (n : ℕ) (ys : List ℕ) (m : ℕ) → block_len in_lines n [] ≡ Ok m → block_len in_lines n ys ≡ Ok 0
counted_none true n ys m e =
    let least = lines_len-least n [] m (short_some _ m e) in
    let none : n ≡ 0 = omega (arith, least.0, least.1) in
    ap (λ k. or_short (lines_len k ys)) none
counted_none false n ys m e =
    let w = bytes_ok _ n m (short_some _ m e) in
    let less = ltb-false _ _ w.0 in
    let none : n ≡ 0 = omega (arith, less) in
    ap (λ k. or_short (if ltb (length ys) k then None else Some k)) none ∙ ap (λ t. or_short (if t then None else Some 0)) (let f : ltb (length ys) 0 ≡ false = le-ltb _ _ (omega arith) in f)

data_none : (content ys : List ℕ) (fs : List (List ℕ)) (m : ℕ) → data_len content [] fs ≡ Ok m → data_len content ys fs ≡ Ok 0
data_none content ys [] m e = cc
data_none content ys (f ∷ fs) m e = by_test (list_all is_ascii_digit f)
    (λ is. rw is (counted_none (counts_lines content (f ∷ fs)) (number_of f) ys m (rw is at e)))
    (λ not. let e = (rw not at e) in cc)

-- the unit that the text is, followed by the line feed
abbrev pub fed : TextUnit → TextUnit
fed u = record { content = u.content; bytes = u.bytes ++ 10 ∷ []; is_block = u.is_block }

abbrev pub FedUnit : TextUnit → Result TextUnit BlockFault → Type 0
FedUnit u new = (new ≡ Ok u) ⊎ (new ≡ Ok (fed u))

one_more : (x ys : List ℕ) → take (suc (length x)) (x ++ 10 ∷ ys) ≡ x ++ 10 ∷ []
one_more [] ys = refl
one_more (b ∷ bs) ys = ap (λ t. b ∷ t) (one_more bs ys)

gone : (x ys : List ℕ) → drop (suc (length x)) (x ++ 10 ∷ ys) ≡ ys
gone [] ys = refl
gone (b ∷ bs) ys = gone bs ys

all_gone : (n : ℕ) (x : List ℕ) → length x ≤ n → drop n x ≡ []
all_gone zero [] h = refl
all_gone zero (b ∷ bs) h = absurd (omega (arith, h))
all_gone (suc n) [] h = refl
all_gone (suc n) (b ∷ bs) h = all_gone n bs (omega (arith, h))

fed_line_unit : (x ys content : List ℕ) (n next : ℕ) → n ≤ length x → take n x ≡ x → Fed n next (length x)
    → FedUnit (record { content = content; bytes = x; is_block = false }) (Ok (record { content = content; bytes = take next (x ++ 10 ∷ ys); is_block = false }))
fed_line_unit x ys content n next within whole (inl p) =
    inl (ap (λ bs. Ok (record { content = content; bytes = bs; is_block = false })) (ap (λ k. take k (x ++ 10 ∷ ys)) p ∙ take-append-le n x (10 ∷ ys) within ∙ whole))
fed_line_unit x ys content n next within whole (inr p) =
    inr (ap (λ bs. Ok (record { content = content; bytes = bs; is_block = false })) (ap (λ k. take k (x ++ 10 ∷ ys)) p.1 ∙ one_more x ys))

abbrev block_of : List ℕ → List ℕ → Result TextUnit BlockFault
block_of content bytes = Ok (record { content = content; bytes = bytes; is_block = true })

-- a block whose line is as it was
fed_same_line : (x ys content : List ℕ) (n m : ℕ) (r : Result ℕ BlockFault) → n + m ≤ length x → take (n + m) x ≡ x → FedData m r (length (drop n x))
    → FedUnit (record { content = content; bytes = x; is_block = true }) (block_with (x ++ 10 ∷ ys) content n r)
fed_same_line x ys content n m r within whole (inl p) = inl (ap (block_with (x ++ 10 ∷ ys) content n) p ∙ ap (block_of content) (take-append-le (n + m) x (10 ∷ ys) within ∙ whole))
fed_same_line x ys content n m r within whole (inr p) =
    let sum : n + suc (length (drop n x)) ≡ suc (length x) = omega (arith, within, length-drop n x) in
    inr (ap (block_with (x ++ 10 ∷ ys) content n) p.1 ∙ ap (λ k. block_of content (take k (x ++ 10 ∷ ys))) sum ∙ ap (block_of content) (one_more x ys))

fed_block : (x ys content : List ℕ) (n next m : ℕ) (fs : List (List ℕ)) → n + m ≤ length x → take (n + m) x ≡ x → data_len content (drop n x) fs ≡ Ok m → Fed n next (length x)
    → FedUnit (record { content = content; bytes = x; is_block = true }) (block_with (x ++ 10 ∷ ys) content next (data_len content (drop next (x ++ 10 ∷ ys)) fs))
fed_block x ys content n next m fs within whole d (inl p) =
    let v : TextUnit = record { content = content; bytes = x; is_block = true } in
    subst (λ k. FedUnit v (block_with (x ++ 10 ∷ ys) content k (data_len content (drop k (x ++ 10 ∷ ys)) fs))) (sym p)
    (subst (λ t. FedUnit v (block_with (x ++ 10 ∷ ys) content n (data_len content t fs))) (sym (drop-append-le n x (10 ∷ ys) (omega (arith, within))))
    (fed_same_line x ys content n m (data_len content (drop n x ++ 10 ∷ ys) fs) within whole (fed_data content (drop n x) ys fs m d)))
fed_block x ys content n next m fs within whole d (inr p) =
    let none : drop n x ≡ [] = all_gone n x (omega (arith, p.0)) in
    let empty : data_len content ys fs ≡ Ok 0 = data_none content ys fs m (sym (ap (λ t. data_len content t fs) none) ∙ d) in
    let had : data_len content (drop next (x ++ 10 ∷ ys)) fs ≡ Ok 0 = ap (λ t. data_len content t fs) (ap (λ k. drop k (x ++ 10 ∷ ys)) p.1 ∙ gone x ys) ∙ empty in
    let size : next + 0 ≡ suc (length x) = omega (arith, p.1) in
    inr (ap (block_with (x ++ 10 ∷ ys) content next) had ∙ ap (λ k. block_of content (take k (x ++ 10 ∷ ys))) size ∙ ap (block_of content) (one_more x ys))

fed_chosen : (t : Bool) (x ys content : List ℕ) (n next : ℕ) (fs : List (List ℕ)) (u : TextUnit) → n ≤ length x → Fed n next (length x) → chosen t x content n fs ≡ Ok u → u.bytes ≡ x
    → FedUnit u (chosen t (x ++ 10 ∷ ys) content next fs)
fed_chosen true x ys content n next fs u within f e b =
    let w = block_ok x content n (data_len content (drop n x) fs) u e in
    let whole : take (n + w.0) x ≡ x = sym (ap (λ q. q.bytes) w.2) ∙ b in
    let small : w.0 ≤ length (drop n x) = data_within content (drop n x) fs w.0 w.1 in
    let is : u ≡ record { content = content; bytes = x; is_block = true } = w.2 ∙ ap (λ bs. record { content = content; bytes = bs; is_block = true }) whole in
    subst (λ v. FedUnit v (chosen true (x ++ 10 ∷ ys) content next fs)) (sym is)
    (fed_block x ys content n next w.0 fs (omega (arith, within, small, length-drop n x)) whole w.1 f)
fed_chosen false x ys content n next fs u within f e b =
    let bytes : take n x ≡ x = sym (line_ok x content n u e) ∙ b in
    let is : u ≡ record { content = content; bytes = x; is_block = false } = unit_or e ∙ ap (λ bs. record { content = content; bytes = bs; is_block = false }) bytes in
    subst (λ v. FedUnit v (chosen false (x ++ 10 ∷ ys) content next fs)) (sym is) (fed_line_unit x ys content n next within bytes f)
  where
    unit_or : {v : TextUnit} → ◌≡◌ {A = Result TextUnit BlockFault} (Ok v) (Ok u) → u ≡ v
    unit_or e = cc

-- a unit that is a text of its own, before a line feed: it stays, or takes the line feed
pub fed_unit : (x ys : List ℕ) (u : TextUnit) → first_unit x ≡ Ok u → u.bytes ≡ x → FedUnit u (first_unit (x ++ 10 ∷ ys))
fed_unit x ys u e b =
    let content : List ℕ = content_of x in
    let text : List ℕ = x ++ 10 ∷ ys in
    let is : unit_with x content (line_len x) ≡ Ok u = sym (unit_is x) ∙ e in
    subst (FedUnit u) (sym (unit_is text ∙ ap (λ c. unit_with text c (line_len text)) (feed_content x ys)))
    (fed_chosen (begins_block content) x ys content (line_len x) (line_len text) (fields content) u (line_len-within x) (fed_line x ys) is b)

-- A line followed by a line feed.

whole_content : (c : List ℕ) → no_ends c ≡ true → content_of c ≡ c
whole_content [] h = refl
whole_content (b ∷ bs) h = go_content b bs (not_end (is_end b) (no_ends bs) h) ∙ ap (λ t. b ∷ t) (whole_content bs (and_second (not (is_end b)) (no_ends bs) h))

end_behind : (c r : List ℕ) → no_ends c ≡ true → line_len (c ++ 10 ∷ r) ≡ suc (length c)
end_behind [] r h = stop_line 10 r refl
end_behind (b ∷ bs) r h = go_line b (bs ++ 10 ∷ r) (not_end (is_end b) (no_ends bs) h) ∙ ap suc (end_behind bs r (and_second (not (is_end b)) (no_ends bs) h))

-- it is a unit, whatever follows it
pub first_line : (c r : List ℕ) → IsLine c → first_unit (line c ++ r) ≡ Ok (line_unit c)
first_line c r h =
    let text : List ℕ = c ++ 10 ∷ r in
    ap first_unit (append_assoc c (10 ∷ []) r)
    ∙ unit_is text ∙ ap (λ k. unit_with text k (line_len text)) (feed_content c r ∙ whole_content c h.0) ∙ ap (unit_with text c) (end_behind c r h.0)
    ∙ ap (λ t. chosen t text c (suc (length c)) (fields c)) h.1
    ∙ ap (λ bs. Ok (record { content = c; bytes = bs; is_block = false })) (one_more c r)

-- The content of a unit, and its line.

chosen_content : (t : Bool) (text content : List ℕ) (n : ℕ) (fs : List (List ℕ)) (u : TextUnit) → n ≤ length text → chosen t text content n fs ≡ Ok u → (u.content ≡ content) × (n ≤ length u.bytes)
chosen_content true text content n fs u within e =
    let w = block_ok text content n (data_len content (drop n text) fs) u e in
    let size : length u.bytes ≡ length (take (n + w.0) text) = ap (λ q. length q.bytes) w.2 in
    (ap (λ q. q.content) w.2, omega (arith, size, length-take (n + w.0) text, within))
chosen_content false text content n fs u within e =
    let size : length u.bytes ≡ length (take n text) = ap length (line_ok text content n u e) in
    (cc, omega (arith, size, length-take n text, within))

pub unit_content : (text : List ℕ) (u : TextUnit) → first_unit text ≡ Ok u → (u.content ≡ content_of text) × (line_len text ≤ length u.bytes)
unit_content text u e =
    chosen_content (begins_block (content_of text)) text (content_of text) (line_len text) (fields (content_of text)) u (line_len-within text) (sym (unit_is text) ∙ e)

chosen_line : (t : Bool) (text content : List ℕ) (n : ℕ) (fs : List (List ℕ)) (u : TextUnit) → t ≡ false → chosen t text content n fs ≡ Ok u → u ≡ record { content = content; bytes = take n text; is_block = false }
chosen_line true text content n fs u f e = cc
chosen_line false text content n fs u f e = cc

-- a unit that isn't a block
pub unit_line : (text : List ℕ) (u : TextUnit) → first_unit text ≡ Ok u → begins_block (content_of text) ≡ false → u ≡ record { content = content_of text; bytes = take (line_len text) text; is_block = false }
unit_line text u e f = chosen_line (begins_block (content_of text)) text (content_of text) (line_len text) (fields (content_of text)) u f (sym (unit_is text) ∙ e)
