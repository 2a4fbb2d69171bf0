-- Comments have no tokens: the lines that count sheets, and those that are added to an output.
use Rattle.std.specs.Prelude.{codes, decimal, if◌then◌else◌, ℤ}
use Rattle.std.proofs.Common.{◌≡◌, ℕ, refl, ap, ◌∙◌, sym, subst, Bool, true, false, not, ◌&&◌, ◌||◌, ◌==◌, true≢false, eqb-true, List, [], ◌∷◌, ◌++◌}
use Rattle.rules.specs.Bytes.{line, line_feed, space, tab, carriage_return}
use Rattle.rules.specs.Numbers.{points_text}
use Rattle.rules.specs.Dress.{lines_text}
use Rattle.pictures.specs.Scanner.{Between, InComment, Class, White, Regular, class_of, is_white, percent_sign, form_feed, null, ends_comment, scan_from, after_tokens}
use Rattle.pictures.specs.Imposed.{ends_nowhere, is_comment_line, are_comments}
use Rattle.pictures.proofs.Tests.{first, second}
use Rattle.pictures.proofs.Names.{not_true}
use Rattle.pictures.proofs.NumberTokens.{Reads, reads_join, AllRegular, IsWord, points_word, AllDigits, decimal_digits}

-- The lines that count sheets.

comment_digits : (ds : List ℕ) → AllDigits ds → Reads InComment ds [] InComment
comment_digits [] h = refl
comment_digits (d ∷ ds) h =
    ap (λ b. after_tokens [] (scan_from (if b then Between else InComment) ds)) h.0.4 ∙ ap (after_tokens []) (comment_digits ds h.1)

pub page_line : (n : ℕ) → Reads Between (line (codes "%%Page: " ++ decimal n ++ codes " " ++ decimal n)) [] Between
page_line n =
    let start : List ℕ = codes "%%Page: " in
    let d : List ℕ = decimal n in
    reads_join Between InComment Between (((start ++ d) ++ codes " ") ++ d) (line_feed ∷ []) [] []
    (reads_join Between InComment InComment ((start ++ d) ++ codes " ") d [] []
    (reads_join Between InComment InComment (start ++ d) (codes " ") [] []
    (reads_join Between InComment InComment start d [] [] refl (comment_digits d (decimal_digits n)))
    refl)
    (comment_digits d (decimal_digits n)))
    refl

-- the line that counts the sheets
pub count_line : (n : ℕ) → Reads Between (line (codes "%%Pages: " ++ decimal n)) [] Between
count_line n =
    let start : List ℕ = codes "%%Pages: " in
    reads_join Between InComment Between (start ++ decimal n) (line_feed ∷ []) [] []
    (reads_join Between InComment InComment start (decimal n) [] [] refl (comment_digits (decimal n) (decimal_digits n)))
    refl

-- Lines that are added.

nowhere_read : (bs : List ℕ) → ends_nowhere bs ≡ true → Reads InComment bs [] InComment
nowhere_read [] e = refl
nowhere_read (b ∷ bs) e =
    ap (λ t. after_tokens [] (scan_from (if t then Between else InComment) bs)) (not_true (ends_comment b) (first (not (ends_comment b)) (ends_nowhere bs) e))
    ∙ ap (after_tokens []) (nowhere_read bs (second (not (ends_comment b)) (ends_nowhere bs) e))

pub comment_read : (l : List ℕ) → is_comment_line l ≡ true → Reads Between (line l) [] Between
comment_read [] e = absurd (true≢false (sym e))
comment_read (b ∷ bs) e =
    let same : b ≡ percent_sign = eqb-true b percent_sign (first (b == percent_sign) (ends_nowhere bs) e) in
    subst (λ c. Reads Between (line (c ∷ bs)) [] Between) (sym same)
    (reads_join Between InComment Between (percent_sign ∷ bs) (line_feed ∷ []) [] []
    (ap (after_tokens []) (nowhere_read bs (second (b == percent_sign) (ends_nowhere bs) e)))
    refl)

pub comments_read : (ls : List (List ℕ)) → are_comments ls ≡ true → Reads Between (lines_text ls) [] Between
comments_read [] e = refl
comments_read (l ∷ ls) e =
    reads_join Between Between Between (line l) (lines_text ls) [] []
    (comment_read l (first (is_comment_line l) (are_comments ls) e))
    (comments_read ls (second (is_comment_line l) (are_comments ls) e))

-- Printed numbers end no comment.

abbrev is_white_class : Class → Bool
is_white_class White = true
is_white_class c = false

not_white : (w : Bool) (c : Class) → (if w then White else c) ≡ Regular → w ≡ false
not_white true c e = absurd (true≢false (ap is_white_class e))
not_white false c e = refl

none_ends : (a l c t f n : Bool) → (a || l || c || t || f || n) ≡ false → (l || c || f) ≡ false
none_ends true l c t f n e = absurd (true≢false e)
none_ends false true c t f n e = absurd (true≢false e)
none_ends false false true t f n e = absurd (true≢false e)
none_ends false false false true f n e = absurd (true≢false e)
none_ends false false false false true n e = absurd (true≢false e)
none_ends false false false false false n e = refl

regular_stays : (b : ℕ) → class_of b ≡ Regular → ends_comment b ≡ false
regular_stays b e =
    none_ends (b == space) (b == line_feed) (b == carriage_return) (b == tab) (b == form_feed) (b == null) (not_white (is_white b) _ e)

all_stay : (bs : List ℕ) → AllRegular bs → ends_nowhere bs ≡ true
all_stay [] h = refl
all_stay (b ∷ bs) h = ap (λ t. not t && ends_nowhere bs) (regular_stays b h.0) ∙ all_stay bs h.1

word_stays : (text : List ℕ) → IsWord text → ends_nowhere text ≡ true
word_stays text w = ap ends_nowhere w.parts ∙ all_stay (w.first ∷ w.others) w.regular

pub points_stay : (g : ℤ) → ends_nowhere (points_text g) ≡ true
points_stay g = word_stays (points_text g) (points_word g)

pub stay_both : (a b : List ℕ) → ends_nowhere a ≡ true → ends_nowhere b ≡ true → ends_nowhere (a ++ b) ≡ true
stay_both [] b e f = f
stay_both (x ∷ a) b e f =
    ap (λ t. t && ends_nowhere (a ++ b)) (first (not (ends_comment x)) (ends_nowhere a) e)
    ∙ stay_both a b (second (not (ends_comment x)) (ends_nowhere a) e) f
