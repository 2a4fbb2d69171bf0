-- What a unit is doesn't depend on what follows it.
use Rattle.std.specs.Prelude.{Result, Ok, Err, Option, Some, None}
use Rattle.std.specs.List.{list_all}
use Rattle.std.specs.Char.{is_ascii_digit}
use Rattle.std.proofs.Common.{Bool, true, false, ltb, if◌then◌else◌, ◌≡◌, ℕ, ◌+◌, ◌-◌, ◌<◌, ◌≤◌, List, [], ◌∷◌, length, take, drop, refl, ap, arith, length-drop, length-take, sym, ◌∙◌}
use Rattle.std.proofs.lemmas.List.{take-take}
use Rattle.std.proofs.lemmas.Bool.{ltb-false, le-ltb, lt-ltb}
use Rattle.rules.specs.Numbers.{number_of}
use Rattle.rules.specs.Units.{TextUnit, BlockFault, ShortData, content_of, line_len, lines_len, begins_block, fields, counts_lines, or_short, data_len, block, first_unit}
use Rattle.dsc.specs.Fields.{block_len}
use Rattle.dsc.proofs.Cases.{by_test}
use Rattle.dsc.proofs.LineLengths.{content_len, content_of-take, line_len-take, line_len-within, line_len_is, lines_len-take, lines_len-least, behind}

short-some : (o : Option ℕ) (m : ℕ) → or_short o ≡ Ok m → o ≡ Some m
short-some None m e = cc
short-some (Some k) m e = cc

bytes-ok : (t : Bool) (n m : ℕ) → (if t then None else Some n) ≡ Some m → (t ≡ false) × (m ≡ n)
bytes-ok true n m e = cc
bytes-ok false n m e = (refl, cc)

-- the data of a block are within the rest
pub data-within : (in_lines : Bool) (n : ℕ) (rest : List ℕ) (m : ℕ) → block_len in_lines n rest ≡ Ok m → m ≤ length rest
data-within true n rest m e = let w = lines_len-least n rest m (short-some _ m e) in w.1
data-within false n rest m e = let w = bytes-ok _ n m (short-some _ m e) in let fits = ltb-false _ _ w.0 in omega (arith, w.1, fits)

pub data-take : (in_lines : Bool) (n : ℕ) (rest : List ℕ) (m k : ℕ) → block_len in_lines n rest ≡ Ok m → m ≤ k → block_len in_lines n (take k rest) ≡ Ok m
data-take true n rest m k e h = ap or_short (lines_len-take n rest m k (short-some _ m e) h)
data-take false n rest m k e h =
    let w = bytes-ok _ n m (short-some _ m e) in
    let fits : ltb (length (take k rest)) n ≡ false = le-ltb _ _ (let less = ltb-false _ _ w.0 in rw length-take (omega (arith, w.1, h, less))) in
    rw fits (ap (λ j. or_short (Some j)) (sym w.1))

data_len-within : (content rest : List ℕ) (fs : List (List ℕ)) (m : ℕ) → data_len content rest fs ≡ Ok m → m ≤ length rest
data_len-within content rest [] m e = cc
data_len-within content rest (f ∷ fs) m e = by_test (list_all is_ascii_digit f)
    (λ is. data-within (counts_lines content (f ∷ fs)) (number_of f) rest m (rw is at e))
    (λ not. let e = (rw not at e) in cc)

data_len-take : (content rest : List ℕ) (fs : List (List ℕ)) (m k : ℕ) → data_len content rest fs ≡ Ok m → m ≤ k → data_len content (take k rest) fs ≡ Ok m
data_len-take content rest [] m k e h = cc
data_len-take content rest (f ∷ fs) m k e h = by_test (list_all is_ascii_digit f)
    (λ is. rw is (data-take (counts_lines content (f ∷ fs)) (number_of f) rest m k (rw is at e) h))
    (λ not. let e = (rw not at e) in cc)

abbrev pub bytes_or : Result TextUnit BlockFault → List ℕ
bytes_or (Ok p) = p.bytes
bytes_or (Err e) = []

-- a block whose line has this content
abbrev block_with : List ℕ → List ℕ → ℕ → Result ℕ BlockFault → Result TextUnit BlockFault
block_with text content n (Err e) = Err e
block_with text content n (Ok k) = Ok (record { content = content; bytes = take (n + k) text; is_block = true })

block-same : (text : List ℕ) (n : ℕ) (r : Result ℕ BlockFault) → block text n r ≡ block_with text (content_of text) n r
block-same text n (Err e) = refl
block-same text n (Ok k) = refl

abbrev unit_at : List ℕ → List ℕ → ℕ → Result TextUnit BlockFault
unit_at text content n = if begins_block content then block_with text content n (data_len content (drop n text) (fields content)) else Ok (record { content = content; bytes = take n text; is_block = false })

block-ok : (text content : List ℕ) (n : ℕ) (r : Result ℕ BlockFault) (p : TextUnit) → block_with text content n r ≡ Ok p → (m : ℕ) × (r ≡ Ok m) × (p ≡ record { content = content; bytes = take (n + m) text; is_block = true })
block-ok text content n (Err e) p w = cc
block-ok text content n (Ok m) p w = (m, refl, cc)

-- a block stays the same if the text ends after it
block-take : (text content : List ℕ) (n m k : ℕ) (fs : List (List ℕ)) (p : TextUnit) → n ≤ length text → data_len content (drop n text) fs ≡ Ok m
    → p ≡ record { content = content; bytes = take (n + m) text; is_block = true } → length p.bytes ≤ k → (n ≤ k) × (block_with (take k text) content n (data_len content (drop n (take k text)) fs) ≡ Ok p)
block-take text content n m k fs p fits d e h =
    let size : length p.bytes ≡ length (take (n + m) text) = ap (λ q. length q.bytes) e in
    let small : m ≤ length (drop n text) = data_len-within content (drop n text) fs m d in
    let sum : n + m ≤ k = omega (arith, h, size, length-take (n + m) text, small, fits, length-drop n text) in
    let found : data_len content (drop n (take k text)) fs ≡ Ok m =
    ap (λ rest. data_len content rest fs) (behind n k text (omega (arith, sum))) ∙ data_len-take content (drop n text) fs m (k - n) d (omega (arith, sum)) in
    (omega (arith, sum), ap (block_with (take k text) content n) found ∙ ap (λ bs. Ok (record { content = content; bytes = bs; is_block = true })) (take-take (n + m) k text sum) ∙ ap Ok (sym e))

-- so does what a test chooses
chosen-take : (t : Bool) (text content : List ℕ) (n : ℕ) (fs : List (List ℕ)) (p : TextUnit) (k : ℕ) → n ≤ length text
    → (if t then block_with text content n (data_len content (drop n text) fs) else Ok (record { content = content; bytes = take n text; is_block = false })) ≡ Ok p → length p.bytes ≤ k
    → (n ≤ k) × ((if t then block_with (take k text) content n (data_len content (drop n (take k text)) fs) else Ok (record { content = content; bytes = take n (take k text); is_block = false })) ≡ Ok p)
chosen-take true text content n fs p k fits e h =
    let w = block-ok text content n (data_len content (drop n text) fs) p e in
    block-take text content n w.0 k fs p fits w.1 w.2 h
chosen-take false text content n fs p k fits e h =
    let size : length p.bytes ≡ length (take n text) = sym (ap (λ r. length (bytes_or r)) e) in
    let less : n ≤ k = omega (arith, h, size, length-take n text, fits) in
    (less, ap (λ bs. Ok (record { content = content; bytes = bs; is_block = false })) (take-take n k text less) ∙ e)

unit_at-take : (text content : List ℕ) (n : ℕ) (p : TextUnit) (k : ℕ) → n ≤ length text → unit_at text content n ≡ Ok p → length p.bytes ≤ k → (n ≤ k) × (unit_at (take k text) content n ≡ Ok p)
unit_at-take text content n p k fits e h = chosen-take (begins_block content) text content n (fields content) p k fits e h

unit-at : (text : List ℕ) → first_unit text ≡ unit_at text (content_of text) (line_len text)
unit-at text =
    let content : List ℕ = content_of text in
    let n : ℕ = line_len text in
    ap (λ b. if begins_block content then b else Ok (record { content = content; bytes = take n text; is_block = false }))
    (block-same text n (data_len content (drop n text) (fields content)))

-- a unit stays the same if the text ends after it
pub first_unit-take : (text : List ℕ) (p : TextUnit) (k : ℕ) → first_unit text ≡ Ok p → length p.bytes ≤ k → first_unit (take k text) ≡ Ok p
first_unit-take text p k e h =
    let w = unit_at-take text (content_of text) (line_len text) p k (line_len-within text) (sym (unit-at text) ∙ e) h in
    let within : content_len text ≤ k = (let le = w.0 in let le = (rw line_len_is at le) in omega (arith, le)) in
    unit-at (take k text)
    ∙ ap (λ c. unit_at (take k text) c (line_len (take k text))) (content_of-take k text within)
    ∙ ap (λ n. unit_at (take k text) (content_of text) n) (line_len-take k text w.0) ∙ w.1

-- there are no more lines than bytes
pub too_many : (n : ℕ) (rest : List ℕ) → length rest < n → lines_len n rest ≡ None
too_many n rest h = none (lines_len n rest) refl
  where
    none : (o : Option ℕ) → lines_len n rest ≡ o → o ≡ None
    none None e = refl
    none (Some m) e = let least = lines_len-least n rest m e in absurd (omega (arith, h, least.0, least.1))

pub short_counted : (in_lines : Bool) (n : ℕ) (rest : List ℕ) → length rest < n → block_len in_lines n rest ≡ Err ShortData
short_counted true n rest h = ap or_short (too_many n rest h)
short_counted false n rest h = ap (λ t. or_short (if t then None else Some n)) (lt-ltb (length rest) n h)
