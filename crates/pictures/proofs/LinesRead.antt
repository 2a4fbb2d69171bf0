-- A line that begins with a percent sign, has no form feed and begins between tokens has no tokens.
use Rattle.std.specs.Prelude.{Result, Ok, Err, if◌then◌else◌, codes, bytes_eq, nat_eq, cond, take_while}
use Rattle.std.specs.List.{starts_with, list_any}
use Rattle.std.proofs.lemmas.List.Sums.{take_while-cons}
use Rattle.std.proofs.lemmas.Slice.Eq.{bytes_eq-Decides}
use Rattle.std.proofs.Common.{◌≡◌, ℕ, suc, ◌+◌, refl, ap, ◌∙◌, sym, subst, Bool, true, false, not, ◌&&◌, ◌||◌, ◌==◌, List, [], ◌∷◌, true≢false, arith, length, take, drop, eqb-true, eq-eqb, ◌⊎◌, inl, inr, ⊎_elim}
use Rattle.rules.specs.Bytes.{line_feed, carriage_return, colon}
use Rattle.rules.specs.Units.{TextUnit, BlockFault, is_end, is_blank, content_of, end_len, line_len, key, first_unit, block, begins_block, data_len, fields}
use Rattle.rules.specs.Filters.{drops_in_header, drops_in_page}
use Rattle.rules.specs.MadeOutput.{drops_with}
use Rattle.rules.proofs.CutUnits.{same_ok, apart_results}
use Rattle.pictures.specs.Scanner.{Between, InComment, scan_from, after_tokens, ends_comment, form_feed, percent_sign}
use Rattle.pictures.specs.Kept.{has_form_feed}
use Rattle.pictures.proofs.Tests.{by_test, first, second}

-- Keys that begin with a percent sign.

abbrev pub begins : List ℕ → Bool
begins [] = false
begins (b ∷ bs) = b == percent_sign

abbrev all_begin : List (List ℕ) → Bool
all_begin [] = true
all_begin (n ∷ ns) = begins n && all_begin ns

or_elim : {P : Type 0} (a b : Bool) → (a ≡ true → P) → (b ≡ true → P) → (a || b) ≡ true → P
or_elim true b f g e = f refl
or_elim false b f g e = g e

any_begins : (k : List ℕ) (names : List (List ℕ)) → all_begin names ≡ true → list_any (bytes_eq k) names ≡ true → begins k ≡ true
any_begins k [] a e = absurd (true≢false (sym e))
any_begins k (n ∷ ns) a e = or_elim (bytes_eq k n) (list_any (bytes_eq k) ns)
    (λ same. ap begins ((bytes_eq-Decides k n).0 same) ∙ first (begins n) (all_begin ns) a)
    (λ more. any_begins k ns (second (begins n) (all_begin ns) a) more) e

cond_begins : (t : Bool) (b : ℕ) (k : List ℕ) → begins (cond t (b ∷ k) []) ≡ true → (b == percent_sign) ≡ true
cond_begins true b k e = e
cond_begins false b k e = absurd (true≢false (sym e))

key_begins : (content : List ℕ) → begins (key content) ≡ true → begins content ≡ true
key_begins [] e = absurd (true≢false (sym e))
key_begins (b ∷ bs) e =
    let p : ℕ → Bool = λ c. not (is_blank c || (c == colon)) in
    cond_begins (p b) b (take_while p bs) (sym (ap begins (take_while-cons p b bs)) ∙ e)

page_begins : (k : List ℕ) → starts_with nat_eq k (codes "%%Page") ≡ true → begins k ≡ true
page_begins [] e = absurd (true≢false (sym e))
page_begins (b ∷ k) e = eq-eqb b percent_sign (sym (eqb-true percent_sign b (first (percent_sign == b) (starts_with nat_eq k (codes "%Page")) e)))

pub more_begins : (content : List ℕ) → starts_with nat_eq content (codes "%%+") ≡ true → begins content ≡ true
more_begins [] e = absurd (true≢false (sym e))
more_begins (b ∷ k) e = eq-eqb b percent_sign (sym (eqb-true percent_sign b (first (percent_sign == b) (starts_with nat_eq k (codes "%+")) e)))

header_begins : (content : List ℕ) → drops_in_header content ≡ true → begins content ≡ true
header_begins content e = key_begins content
    (any_begins (key content) (codes "%%Pages" ∷ codes "%%PageOrder" ∷ codes "%%BoundingBox" ∷ codes "%%HiResBoundingBox" ∷ codes "%%DocumentMedia" ∷ codes "%%Orientation" ∷ []) refl e)

pub begins_with : (lines : List (List ℕ)) (content : List ℕ) → drops_with lines content ≡ true → begins content ≡ true
begins_with [] content e = header_begins content e
begins_with (l ∷ lines) content e =
    or_elim (drops_in_header content) (list_any (bytes_eq (key content)) (codes "%%DocumentPaperSizes" ∷ [])) (header_begins content)
    (λ named. key_begins content (any_begins (key content) (codes "%%DocumentPaperSizes" ∷ []) refl named)) e

pub body_begins : (content : List ℕ) → drops_in_page content ≡ true → begins content ≡ true
body_begins content e = key_begins content
    (or_elim (starts_with nat_eq (key content) (codes "%%Page")) (list_any (bytes_eq (key content)) (codes "%%BeginPageSetup" ∷ codes "%%EndPageSetup" ∷ []))
    (page_begins (key content))
    (any_begins (key content) (codes "%%BeginPageSetup" ∷ codes "%%EndPageSetup" ∷ []) refl) e)

-- The first line of a text, with its end.

abbrev pub line_of : List ℕ → List ℕ
line_of [] = []
line_of (b ∷ bs) = if is_end b then take (end_len (b ∷ bs)) (b ∷ bs) else b ∷ line_of bs

abbrev len_of : List ℕ → List ℕ → List ℕ
len_of content text = take (length content + end_len (drop (length content) text)) text

line_is : (text : List ℕ) → take (line_len text) text ≡ line_of text
line_is [] = refl
line_is (b ∷ bs) = ap (λ c. len_of c (b ∷ bs)) (take_while-cons (λ c. not (is_end c)) b bs) ∙ turn (is_end b) (line_is bs)
  where
    longer : (n m : ℕ) → suc n + m ≡ suc (n + m)
    longer n m = omega arith

    none : (m : ℕ) → 0 + m ≡ m
    none m = omega arith

    length_is : (c : List ℕ) → length (b ∷ c) ≡ suc (length c)
    length_is c = omega arith

    turn : (t : Bool) → take (line_len bs) bs ≡ line_of bs
        → len_of (cond (not t) (b ∷ content_of bs) []) (b ∷ bs) ≡ (if t then take (end_len (b ∷ bs)) (b ∷ bs) else b ∷ line_of bs)
    turn true e = ap (λ k. take k (b ∷ bs)) (none (end_len (b ∷ bs)))
    turn false e =
        let n : ℕ = length (content_of bs) in
        ap (λ k. take (k + end_len (drop k (b ∷ bs))) (b ∷ bs)) (length_is (content_of bs))
        ∙ ap (λ k. take k (b ∷ bs)) (longer n (end_len (drop n bs)))
        ∙ ap (λ l. b ∷ l) e

content_begins : (text : List ℕ) → begins (content_of text) ≡ true → (bs : List ℕ) × (line_of text ≡ percent_sign ∷ line_of bs) × (text ≡ percent_sign ∷ bs)
content_begins [] e = absurd (true≢false (sym e))
content_begins (b ∷ bs) e =
    let p : ℕ → Bool = λ c. not (is_end c) in
    let same : b ≡ percent_sign = eqb-true b percent_sign (cond_begins (p b) b (take_while p bs) (sym (ap begins (take_while-cons p b bs)) ∙ e)) in
    (bs, ap (λ c. line_of (c ∷ bs)) same, ap (λ c. c ∷ bs) same)

-- Read from within a comment: it ends, or the text does.
abbrev pub Ends : List ℕ → List ℕ → Type 0
Ends line text = (scan_from InComment line ≡ ([], Between)) ⊎ ((scan_from InComment line ≡ ([], InComment)) × (line ≡ text))

end_is_one : (l c f : Bool) → (c || l) ≡ true → (l || c || f) ≡ true
end_is_one true c f e = refl
end_is_one false true f e = refl
end_is_one false false f e = absurd (true≢false (sym e))

no_end : (l c f : Bool) → (c || l) ≡ false → f ≡ false → (l || c || f) ≡ false
no_end true true f e g = absurd (true≢false e)
no_end true false f e g = absurd (true≢false e)
no_end false true f e g = absurd (true≢false e)
no_end false false f e g = g

two_read : (b : ℕ) (bs : List ℕ) → ends_comment b ≡ true → starts_with nat_eq bs (line_feed ∷ []) ≡ true → scan_from InComment (take 2 (b ∷ bs)) ≡ ([], Between)
two_read b [] e s = absurd (true≢false (sym s))
two_read b (c ∷ bs) e s =
    ap (λ t. after_tokens [] (scan_from (if t then Between else InComment) (c ∷ []))) e
    ∙ ap (λ d. scan_from Between (d ∷ [])) (sym (eqb-true line_feed c (first (line_feed == c) true s)))

end_read : (b : ℕ) (bs : List ℕ) → ends_comment b ≡ true → scan_from InComment (take (end_len (b ∷ bs)) (b ∷ bs)) ≡ ([], Between)
end_read b bs e = turn ((b == carriage_return) && starts_with nat_eq bs (line_feed ∷ [])) (λ s. two_read b bs e (second (b == carriage_return) (starts_with nat_eq bs (line_feed ∷ [])) s))
  where
    turn : (t : Bool) → (t ≡ true → scan_from InComment (take 2 (b ∷ bs)) ≡ ([], Between)) → scan_from InComment (take (if t then 2 else 1) (b ∷ bs)) ≡ ([], Between)
    turn true f = f refl
    turn false f = ap (λ t. after_tokens [] (scan_from (if t then Between else InComment) [])) e

or_none : (a b : Bool) → (a || b) ≡ false → (a ≡ false) × (b ≡ false)
or_none true b e = absurd (true≢false e)
or_none false b e = (refl, e)

one_more : (b : ℕ) (line text : List ℕ) → ends_comment b ≡ false → Ends line text → Ends (b ∷ line) (b ∷ text)
one_more b line text e = ⊎_elim
    (λ x. inl (ap (λ t. after_tokens [] (scan_from (if t then Between else InComment) line)) e ∙ ap (after_tokens []) x))
    (λ x. inr (ap (λ t. after_tokens [] (scan_from (if t then Between else InComment) line)) e ∙ ap (after_tokens []) x.0, ap (λ l. b ∷ l) x.1))

pub comment_read : (text : List ℕ) → has_form_feed (line_of text) ≡ false → Ends (line_of text) text
comment_read [] e = inr (refl, refl)
comment_read (b ∷ bs) e = by_test (is_end b)
    (λ t. inl (ap (λ c. scan_from InComment (if c then take (end_len (b ∷ bs)) (b ∷ bs) else b ∷ line_of bs)) t
    ∙ end_read b bs (end_is_one (b == line_feed) (b == carriage_return) (b == form_feed) t)))
    (λ f.
    let line : line_of (b ∷ bs) ≡ b ∷ line_of bs = ap (λ c. if c then take (end_len (b ∷ bs)) (b ∷ bs) else b ∷ line_of bs) f in
    let plain = or_none (b == form_feed) (has_form_feed (line_of bs)) (sym (ap has_form_feed line) ∙ e) in
    subst (λ l. Ends l (b ∷ bs)) (sym line)
    (one_more b (line_of bs) bs (no_end (b == line_feed) (b == carriage_return) (b == form_feed) f plain.0) (comment_read bs plain.1)))

-- Units that are lines.

line_unit : (t : Bool) (d : Result ℕ BlockFault) (text content : List ℕ) (n : ℕ) (u : TextUnit)
    → (if t then block text n d else Ok (record { content = content; bytes = take n text; is_block = false })) ≡ Ok u → u.is_block ≡ false
    → (u.content ≡ content) × (u.bytes ≡ take n text)
line_unit true (Ok k) text content n u e f = absurd (true≢false (ap (λ v. v.is_block) (same_ok _ u e) ∙ f))
line_unit true (Err fault) text content n u e f = absurd (apart_results fault u e)
line_unit false d text content n u e f = (sym (ap (λ v. v.content) (same_ok _ u e)), sym (ap (λ v. v.bytes) (same_ok _ u e)))

-- such a line has no tokens; if it has no end, it ends the text
abbrev pub HasNone : List ℕ → List ℕ → Type 0
HasNone line text = (scan_from Between line ≡ ([], Between)) ⊎ ((scan_from Between line ≡ ([], InComment)) × (line ≡ text))

pub unit_read : (text : List ℕ) (u : TextUnit) → first_unit text ≡ Ok u → u.is_block ≡ false → begins u.content ≡ true → has_form_feed u.bytes ≡ false → HasNone u.bytes text
unit_read text u e f b h =
    let content : List ℕ = content_of text in
    let z = line_unit (begins_block content) (data_len content (drop (line_len text) text) (fields content)) text content (line_len text) u e f in
    let line : u.bytes ≡ line_of text = z.1 ∙ line_is text in
    let x = content_begins text (sym (ap begins z.0) ∙ b) in
    let bs : List ℕ = x.0 in
    let none : has_form_feed (line_of bs) ≡ false = sym (ap has_form_feed x.1) ∙ sym (ap has_form_feed line) ∙ h in
    subst (λ l. HasNone l text) (sym line)
    (subst (λ l. HasNone l text) (sym x.1)
    (⊎_elim
    (λ y. inl (ap (after_tokens []) y))
    (λ y. inr (ap (after_tokens []) y.0, ap (λ l. percent_sign ∷ l) y.1 ∙ sym x.2))
    (comment_read bs none)))
