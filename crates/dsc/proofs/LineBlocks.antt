-- Lines that are counted by blocks of bytes without CR.
use Rattle.std.specs.Prelude.{Option, Some, None, option_map}
use Rattle.std.specs.List.{count_by}
use Rattle.std.proofs.Common.{Bool, true, false, cond, ◌||◌, ◌==◌, ◌≡◌, ℕ, zero, suc, ◌+◌, ◌-◌, ◌<◌, ◌≤◌, List, [], ◌∷◌, ◌++◌, length, take, drop, refl, ap, arith, length-append, length-drop, sym, ◌∙◌}
use Rattle.std.proofs.lemmas.Bool.{eqb-true}
use Rattle.std.proofs.lemmas.List.{take-append-drop, length-take}
use Rattle.std.proofs.lemmas.List.Sums.{sum_by-cons}
use Rattle.rules.specs.Units.{is_end, line_len, lines_len}
use Rattle.dsc.proofs.Cases.{by_test}
use Rattle.dsc.proofs.LineLengths.{content_len, added_on}
use Rattle.dsc.proofs.PlainLines.{line_split}

abbrev pub is_feed : ℕ → Bool
is_feed b = b == 10

abbrev pub is_return : ℕ → Bool
is_return b = b == 13

-- a line feed ends a line
feed_next : (rest : List ℕ) (k : ℕ) → lines_len (suc k) (10 ∷ rest) ≡ option_map (λ m. 1 + m) (lines_len k rest)
feed_next rest k = refl

some_content : (b : ℕ) (rest : List ℕ) → is_end b ≡ false → 1 ≤ content_len (b ∷ rest)
some_content b rest h = rw h (omega arith)

-- a byte of a line's content, followed by bytes
content_next : (b : ℕ) (rest : List ℕ) (k : ℕ) → is_end b ≡ false → 0 < length rest → lines_len (suc k) (b ∷ rest) ≡ option_map (λ m. 1 + m) (lines_len (suc k) rest)
content_next b [] k h some = absurd (omega (arith, some))
content_next b (c ∷ cs) k h some =
    let text : List ℕ = b ∷ c ∷ cs in
    let n : ℕ = line_len (c ∷ cs) in
    let longer : line_len text ≡ 1 + n = line_split text 1 (some_content b (c ∷ cs) h) in
    let next : line_len text ≡ suc n = omega (arith, longer) in
    ap (λ j. option_map (λ m. j + m) (lines_len k (drop (line_len text) text))) longer
    ∙ ap (λ j. option_map (λ m. 1 + n + m) (lines_len k (drop j text))) next
    ∙ added_on 1 n (lines_len k (drop n (c ∷ cs)))

none_on : (o : Option ℕ) → o ≡ option_map (λ m. 0 + m) o
none_on None = refl
none_on (Some k) = ap Some (omega arith)

counted_yes : (p : ℕ → Bool) (b : ℕ) (bs : List ℕ) → p b ≡ true → count_by p (b ∷ bs) ≡ 1 + count_by p bs
counted_yes p b bs h = sum_by-cons (λ x. cond (p x) 1 0) b bs ∙ ap (λ t. cond t 1 0 + count_by p bs) h

counted_no : (p : ℕ → Bool) (b : ℕ) (bs : List ℕ) → p b ≡ false → count_by p (b ∷ bs) ≡ count_by p bs
counted_no p b bs h = sum_by-cons (λ x. cond (p x) 1 0) b bs ∙ ap (λ t. cond t 1 0 + count_by p bs) h ∙ omega arith

no_end : (b : ℕ) → (b == 13) ≡ false → (b == 10) ≡ false → is_end b ≡ false
no_end b r f = ap (λ t. t || (b == 10)) r ∙ f

-- one byte is passed, and then the rest
and_then : (n b m k : ℕ) (others : List ℕ) → n ≡ 1 + b → m ≡ k → option_map (λ j. 1 + j) (option_map (λ j. b + j) (lines_len m others)) ≡ option_map (λ j. n + j) (lines_len k others)
and_then n b m k others e h =
    sym (added_on 1 b (lines_len m others)) ∙ ap (λ i. option_map (λ j. i + j) (lines_len m others)) (sym e) ∙ ap (λ i. option_map (λ j. n + j) (lines_len i others)) h

-- bytes without CR, in which fewer lines end than are wanted, and which bytes follow
pub block_passed : (block others : List ℕ) (n : ℕ) → 0 < length others → count_by is_return block ≡ 0 → count_by is_feed block < n
    → lines_len n (block ++ others) ≡ option_map (λ m. length block + m) (lines_len (n - count_by is_feed block) others)
block_passed [] others n some none few =
    let same : n ≡ n - 0 = omega arith in
    none_on (lines_len n others) ∙ ap (λ k. option_map (λ m. 0 + m) (lines_len k others)) same
block_passed (b ∷ bs) others zero some none few = absurd (omega (arith, few))
block_passed (b ∷ bs) others (suc k) some none few = by_test (b == 13)
    (λ is. let more = counted_yes is_return b bs is in absurd (omega (arith, more, none)))
    (λ isnt.
    let less = counted_no is_return b bs isnt in
    let none_on : count_by is_return bs ≡ 0 = omega (arith, less, none) in
    by_test (b == 10)
    (λ feed.
    let one = counted_yes is_feed b bs feed in
    let f : ℕ = count_by is_feed bs in
    let same : k - f ≡ suc k - count_by is_feed (b ∷ bs) = omega (arith, one) in
    let long : length (b ∷ bs) ≡ 1 + length bs = omega arith in
    ap (λ c. lines_len (suc k) (c ∷ (bs ++ others))) (eqb-true b 10 feed) ∙ feed_next (bs ++ others) k
    ∙ ap (option_map (λ m. 1 + m)) (block_passed bs others k some none_on (omega (arith, few, one)))
    ∙ and_then (length (b ∷ bs)) (length bs) (k - f) (suc k - count_by is_feed (b ∷ bs)) others long same)
    (λ other.
    let even = counted_no is_feed b bs other in
    let f : ℕ = count_by is_feed bs in
    let same : suc k - f ≡ suc k - count_by is_feed (b ∷ bs) = omega (arith, even) in
    let long : length (b ∷ bs) ≡ 1 + length bs = omega arith in
    let size = length-append bs others in
    content_next b (bs ++ others) k (no_end b isnt other) (omega (arith, size, some))
    ∙ ap (option_map (λ m. 1 + m)) (block_passed bs others (suc k) some none_on (omega (arith, few, even)))
    ∙ and_then (length (b ∷ bs)) (length bs) (suc k - f) (suc k - count_by is_feed (b ∷ bs)) others long same))

-- in terms of a loop: one more block is passed
pub blocks_more : (size count lines feeds passed : ℕ) (rest block others : List ℕ) (whole : Option ℕ) → size < length rest → block ≡ take size rest → others ≡ drop size rest
    → feeds ≡ count_by is_feed block → count_by is_return block ≡ 0 → feeds < count - lines
    → option_map (λ n. passed + n) (lines_len (count - lines) rest) ≡ whole
    → option_map (λ n. passed + size + n) (lines_len (count - (lines + feeds)) others) ≡ whole
blocks_more size count lines feeds passed rest block others whole long b o f none few h =
    let left = length-drop size rest in
    let same_size = ap length o in
    let some : 0 < length others = omega (arith, same_size, left, long) in
    let taken = length-take size rest in
    let block_size = ap length b in
    let full : length block ≡ size = omega (arith, block_size, taken, long) in
    let text : rest ≡ block ++ others = sym (take-append-drop size rest) ∙ ap (λ t. t ++ drop size rest) (sym b) ∙ ap (λ t. block ++ t) (sym o) in
    let step : lines_len (count - lines) rest ≡ option_map (λ m. length block + m) (lines_len (count - lines - count_by is_feed block) others) =
    ap (lines_len (count - lines)) text ∙ block_passed block others (count - lines) some none (omega (arith, f, few)) in
    let lines_left : count - lines - count_by is_feed block ≡ count - (lines + feeds) = omega (arith, f) in
    added_on passed size (lines_len (count - (lines + feeds)) others)
    ∙ ap (λ k. option_map (λ n. passed + n) (option_map (λ n. size + n) (lines_len k others))) (sym lines_left)
    ∙ ap (λ s. option_map (λ n. passed + n) (option_map (λ n. s + n) (lines_len (count - lines - count_by is_feed block) others))) (sym full)
    ∙ ap (option_map (λ n. passed + n)) (sym step) ∙ h
