-- The texts that the code joins.
use Rattle.std.specs.Prelude.{flat_map, codes, Option}
use Rattle.std.proofs.Common.{append_assoc, length-append, Bool, true, false, if◌then◌else◌, ◌+◌, ◌≡◌, ℕ, zero, suc, ◌-◌, ◌<◌, ◌≤◌, List, [], ◌∷◌, ◌++◌, length, take, drop, refl, ap, ◌∙◌, sym, subst, arith}
use Rattle.std.proofs.lemmas.Grind.{flat_map-append}
use Rattle.std.proofs.lemmas.List.{drop-drop}
use Rattle.rules.specs.Units.{is_end}
use Rattle.rules.specs.Bytes.{line}
use Rattle.rules.specs.Filters.{ended}
use Rattle.rules.specs.Numbers.{points_text}
use Rattle.rules.specs.Papers.{Paper}
use Rattle.dsc.specs.Header.{header_len}
use Rattle.guard.specs.PutIn.{put_in}
use Rattle.guard.specs.Guard.{first_lines, other_lines, page_size_line, guard_size_lines, guard_lines}

-- the line of a page size, piece by piece
pub size_glued : (p : Paper) (start a b c d e : List ℕ) → a ≡ start ++ codes "/setpagedevice where {pop 1 dict dup /PageSize [" → b ≡ a ++ points_text p.width → c ≡ b ++ codes " "
    → d ≡ c ++ points_text p.height → e ≡ d ++ line (codes "] put setpagedevice} if") → e ≡ start ++ line (page_size_line p)
size_glued p start a b c d e f g h i j =
    let one : List ℕ = codes "/setpagedevice where {pop 1 dict dup /PageSize [" in
    let w : List ℕ = points_text p.width in
    let blank : List ℕ = codes " " in
    let t : List ℕ = points_text p.height in
    let two : List ℕ = codes "] put setpagedevice} if" in
    let end : List ℕ = 10 ∷ [] in
    j ∙ ap (λ x. x ++ line two) (i ∙ ap (λ x. x ++ t) (h ∙ ap (λ x. x ++ blank) (g ∙ ap (λ x. x ++ w) f)))
    ∙ append_assoc (((start ++ one) ++ w) ++ blank) t (line two)
    ∙ append_assoc ((start ++ one) ++ w) blank (t ++ line two)
    ∙ append_assoc (start ++ one) w (blank ++ (t ++ line two))
    ∙ append_assoc start one (w ++ (blank ++ (t ++ line two)))
    ∙ ap (λ x. start ++ (one ++ (w ++ (blank ++ x)))) (sym (append_assoc t two end))
    ∙ ap (λ x. start ++ (one ++ (w ++ x))) (sym (append_assoc blank (t ++ two) end))
    ∙ ap (λ x. start ++ (one ++ x)) (sym (append_assoc w (blank ++ (t ++ two)) end))
    ∙ ap (λ x. start ++ x) (sym (append_assoc one (w ++ (blank ++ (t ++ two))) end))

-- the guard, part by part
pub guard_glued : (sheet_paper : Option Paper) (start a b c : List ℕ) → a ≡ start ++ flat_map line first_lines → b ≡ a ++ flat_map line (guard_size_lines sheet_paper) → c ≡ b ++ flat_map line other_lines
    → c ≡ start ++ flat_map line (guard_lines sheet_paper)
guard_glued sheet_paper start a b c f g h =
    let one : List ℕ = flat_map line first_lines in
    let size : List ℕ = flat_map line (guard_size_lines sheet_paper) in
    let two : List ℕ = flat_map line other_lines in
    h ∙ ap (λ x. x ++ two) (g ∙ ap (λ x. x ++ size) f)
    ∙ append_assoc (start ++ one) size two ∙ append_assoc start one (size ++ two)
    ∙ ap (λ x. start ++ (one ++ x)) (sym (flat_map-append line (guard_size_lines sheet_paper) other_lines))
    ∙ ap (λ x. start ++ x) (sym (flat_map-append line first_lines (guard_size_lines sheet_paper ++ other_lines)))

-- a text with lines inserted, part by part
pub glued : (lines : List (List ℕ)) (text : List ℕ) (n : ℕ) (h r none a b c d : List ℕ) → n ≡ header_len text → h ≡ take n text → r ≡ drop n text → none ≡ [] → a ≡ none ++ h → b ≡ ended a
    → c ≡ b ++ flat_map line lines → d ≡ c ++ r → d ≡ put_in lines text
glued lines text n h r none a b c d e f g z p q s t =
    let whole : b ≡ ended (take n text) = q ∙ ap ended (p ∙ ap (λ x. x ++ h) z ∙ f) in
    t ∙ ap (λ x. x ++ r) (s ∙ ap (λ x. x ++ flat_map line lines) whole) ∙ append_assoc (ended (take n text)) (flat_map line lines) r
    ∙ ap (λ x. ended (take n text) ++ (flat_map line lines ++ x)) g ∙ ap (λ k. ended (take k text) ++ (flat_map line lines ++ drop k text)) e

-- the last byte alone shows whether a line end is needed
ended_last : (xs : List ℕ) (b : ℕ) → ended (xs ++ b ∷ []) ≡ xs ++ ended (b ∷ [])
ended_last [] b = refl
ended_last (x ∷ []) b = refl
ended_last (x ∷ y ∷ xs) b = ap (λ t. x ∷ t) (ended_last (y ∷ xs) b)

-- the byte at this place is the last of those up to it
last_taken : (m : ℕ) (text : List ℕ) → m < length text → (b : ℕ) × (take (suc m) text ≡ take m text ++ b ∷ []) × (take 1 (drop m text) ≡ b ∷ [])
last_taken m [] within = absurd (omega (arith, within))
last_taken zero (x ∷ text) within = (x, refl, refl)
last_taken (suc m) (x ∷ text) within = let r = last_taken m text (omega (arith, within)) in (r.0, ap (λ t. x ∷ t) r.1, r.2)

-- the bytes before the last one, and the last one, followed by a line end if it isn't one
ended_apart : (text : List ℕ) (n m k : ℕ) → n ≤ length text → m ≡ n - 1 → k ≡ n - m → take m text ++ ended (take k (drop m text)) ≡ ended (take n text)
ended_apart text zero m k within before size =
    let none : m ≡ 0 = omega (arith, before) in
    let nothing : k ≡ 0 = omega (arith, size) in
    subst (λ i. take i text ++ ended (take k (drop i text)) ≡ ended (take 0 text)) (sym none)
    (subst (λ j. take 0 text ++ ended (take j (drop 0 text)) ≡ ended (take 0 text)) (sym nothing) refl)
ended_apart text (suc n) m k within before size =
    let same : m ≡ n = omega (arith, before) in
    let one : k ≡ 1 = omega (arith, size, same) in
    let last = last_taken n text (omega (arith, within)) in
    subst (λ i. take i text ++ ended (take k (drop i text)) ≡ ended (take (suc n) text)) (sym same)
    (subst (λ j. take n text ++ ended (take j (drop n text)) ≡ ended (take (suc n) text)) (sym one)
    (ap (λ t. take n text ++ ended t) last.2 ∙ sym (ended_last (take n text) last.0) ∙ ap ended (sym last.1)))

-- a text into which lines are inserted in place, part by part
pub put_between : (lines : List (List ℕ)) (text : List ℕ) (n m : ℕ) (none a b c put new : List ℕ) → n ≡ header_len text → n ≤ length text → m ≡ n - 1
    → none ≡ [] → a ≡ none ++ take (n - m) (drop m text) → b ≡ ended a → c ≡ b ++ flat_map line lines → put ≡ c → new ≡ take m text ++ (put ++ drop n text) → new ≡ put_in lines text
put_between lines text n m none a b c put new is within before e f g h i j =
    let last : b ≡ ended (take (n - m) (drop m text)) = g ∙ ap ended (f ∙ ap (λ x. x ++ take (n - m) (drop m text)) e) in
    let rest : List ℕ = flat_map line lines ++ drop n text in
    j ∙ ap (λ x. take m text ++ (x ++ drop n text)) (i ∙ h ∙ ap (λ x. x ++ flat_map line lines) last)
    ∙ ap (λ x. take m text ++ x) (append_assoc (ended (take (n - m) (drop m text))) (flat_map line lines) (drop n text))
    ∙ sym (append_assoc (take m text) (ended (take (n - m) (drop m text))) rest)
    ∙ ap (λ x. x ++ rest) (ended_apart text n m (n - m) within before refl)
    ∙ ap (λ k. ended (take k text) ++ (flat_map line lines ++ drop k text)) is

-- what follows as many bytes as were taken
drop_taken : (n : ℕ) (xs ys : List ℕ) → n ≤ length xs → drop n (take n xs ++ ys) ≡ ys
drop_taken zero xs ys h = refl
drop_taken (suc n) [] ys h = absurd (omega (arith, h))
drop_taken (suc n) (x ∷ xs) ys h = drop_taken n xs ys (omega (arith, h))

-- a text that follows other bytes, with its header comments and the lines in the place of bytes before it
pub put_before : (lines : List (List ℕ)) (bytes : List ℕ) (start n begin end : ℕ) (front new : List ℕ) → n ≡ header_len (drop start bytes)
    → front ≡ ended (take n (drop start bytes)) ++ flat_map line lines → begin ≤ length bytes → end ≡ start + n → new ≡ take begin bytes ++ (front ++ drop end bytes)
    → drop begin new ≡ put_in lines (drop start bytes)
put_before lines bytes start n begin end front new is f within e h =
    ap (drop begin) h ∙ drop_taken begin bytes (front ++ drop end bytes) within
    ∙ ap (λ x. x ++ drop end bytes) f
    ∙ append_assoc (ended (take n (drop start bytes))) (flat_map line lines) (drop end bytes)
    ∙ ap (λ x. ended (take n (drop start bytes)) ++ (flat_map line lines ++ x)) (ap (λ k. drop k bytes) e ∙ sym (drop-drop n start bytes))
    ∙ ap (λ k. ended (take k (drop start bytes)) ++ (flat_map line lines ++ drop k (drop start bytes))) is

-- adding a line end loses no byte
pub ended_grows : (xs : List ℕ) → length xs ≤ length (ended xs)
ended_grows [] = omega arith
ended_grows (b ∷ []) = by (is_end b)
  where
    by : (t : Bool) → 1 ≤ length (if t then b ∷ [] else b ∷ 10 ∷ [])
    by true = omega arith
    by false = omega arith
ended_grows (b ∷ c ∷ bs) = let h = ended_grows (c ∷ bs) in omega (arith, h)

-- so adding lines after them makes them no shorter
pub front_grows : (header more front : List ℕ) → front ≡ ended header ++ more → length header ≤ length front
front_grows header more front e =
    let h = ended_grows header in
    let l = length-append (ended header) more in
    let same = ap length e in
    omega (arith, h, l, same)
