-- Media that sheets report are known by their names.
use Rattle.std.specs.Prelude.{codes, filter, flat_map, fold, map, nat_lt, nat_le, not, option_and_then, option_map, slice_index, ℤ, Option, Some, None, if◌then◌else◌, ◌==◌, ◌&&◌, ◌||◌}
use Rattle.std.specs.List.{All, AllByRecursion, list_any, prefix_len, slice_split}
use Rattle.std.specs.Char.{is_ascii_digit}
use Rattle.std.specs.Str.{bytes_eq}
use Rattle.std.proofs.Common.{arith, ◌≡◌, ℕ, ◌<◌, List, [], ◌∷◌, ◌++◌, Bool, true, false, cond, true≢false, refl, sym, ap, ◌∙◌, length, get_or, append_assoc, drop, take, ◌+◌, ◌-◌}
use Rattle.std.proofs.lemmas.Bool.Decides.{nat_tests}
use Rattle.std.proofs.lemmas.List.Elements.{All-cons, All-append, All-from_recursion, All-head, All-tail}
use Rattle.std.proofs.lemmas.List.Splits.{slice_split_at, slice_split_none}
use Rattle.std.proofs.lemmas.Slice.Eq.{bytes_eq-Decides}
use Rattle.rules.specs.Numbers.{points_text, printed}
use Rattle.rules.specs.Papers.{Paper}
use Rattle.rules.specs.Units.{is_blank, is_comment}
use Rattle.dsc.specs.Fields.{fields_in}
use Rattle.papers.specs.Comments.{Medium, first_medium, media, medium_in, medium_of, paper_of_medium}
use Rattle.papers.specs.Own.{smallest_cover}
use Rattle.papers.specs.Found.{IsReportable, IsReportablePaper, as_printed}
use Rattle.papers.specs.Media.{comment_values, continued, is_enclosed, len_with_string, media_paper, name_and_rest, name_in, name_meant, paper_meant, plain_len, points_of}
use Rattle.papers.specs.Media.{sides_paper, split_name, value_of}
use Rattle.dsc.specs.Strings.{characters, is_opened, rest_len}
use Rattle.papers.specs.Reported.{exact_box_line, is_reported_alike, is_in_whole_points, medium_line, several_header, size_name, size_text}
use Rattle.papers.proofs.Covered.{by_test}
use Rattle.papers.proofs.PrintedSides.{paper_read, side_all, side_some}
use Rattle.papers.proofs.SetSizes.{alike_sides}

-- ---- the bytes of a side
not_blank : (b : ℕ) → is_ascii_digit b ≡ true → is_blank b ≡ false
not_blank b h = grind arith

not_x : (b : ℕ) → is_ascii_digit b ≡ true → (b == 120) ≡ false
not_x b h = grind arith

not_open : (b : ℕ) → is_ascii_digit b ≡ true → (b == 40) ≡ false
not_open b h = grind arith

abbrev Plain : List ℕ → Type 0
Plain text = All (λ b. is_blank b ≡ false) text

pub side_plain : (side : ℤ) → IsReportable side → Plain (points_text side)
side_plain side t = side_all (λ b. is_blank b ≡ false) not_blank refl side t

abbrev Whole : List ℕ → Type 0
Whole text = All (λ b. (b == 120) ≡ false) text

side_whole : (side : ℤ) → IsReportable side → Whole (points_text side)
side_whole side t = side_all (λ b. (b == 120) ≡ false) not_x refl side t

abbrev some_field : List ℕ → Bool
some_field f = nat_lt 0 (length f)

is_some : (xs : List ℕ) → 0 < length xs → some_field xs ≡ true
is_some xs h = some (length xs) h
  where
    some : (n : ℕ) → 0 < n → nat_lt 0 n ≡ true
    some n h = grind (arith, nat_tests)

-- ---- names
name_plain : (p : Paper) → IsReportablePaper p → Plain (size_name p)
name_plain p t =
    All-append (λ b. is_blank b ≡ false) (points_text p.width) (120 ∷ points_text p.height) (side_plain p.width t.0)
    (All-cons (λ b. is_blank b ≡ false) 120 (points_text p.height) refl (side_plain p.height t.1))

some_front : (xs ys : List ℕ) → 0 < length xs → 0 < length (xs ++ ys)
some_front [] ys h = absurd (omega (arith, h))
some_front (x ∷ xs) ys h = omega arith

name_long : (p : Paper) → IsReportablePaper p → 0 < length (size_name p)
name_long p t = some_front (points_text p.width) (120 ∷ points_text p.height) (side_some p.width t.0)

-- it begins with no parenthesis
abbrev Closed : List ℕ → Type 0
Closed name = is_opened name ≡ false

closed_front : (xs ys : List ℕ) → 0 < length xs → All (λ b. (b == 40) ≡ false) xs → Closed (xs ++ ys)
closed_front [] ys h all = absurd (omega (arith, h))
closed_front (x ∷ xs) ys h all = All-head (λ b. (b == 40) ≡ false) x xs all

take_front : (xs ys : List ℕ) → take (length xs) (xs ++ ys) ≡ xs
take_front [] ys = refl
take_front (x ∷ xs) ys = ap (λ zs. x ∷ zs) (take_front xs ys)

drop_front : (xs ys : List ℕ) → drop (length xs) (xs ++ ys) ≡ ys
drop_front [] ys = refl
drop_front (x ∷ xs) ys = drop_front xs ys

take_all : (xs : List ℕ) → take (length xs) xs ≡ xs
take_all [] = refl
take_all (x ∷ xs) = ap (λ zs. x ∷ zs) (take_all xs)

drop_all : (xs : List ℕ) → drop (length xs) xs ≡ []
drop_all [] = refl
drop_all (x ∷ xs) = drop_all xs

-- a name isn't in parentheses
open_first : (m b c : Bool) → b ≡ false → (m && (b && c)) ≡ false
open_first true b c e = ap (λ t. t && c) e
open_first false b c e = refl

not_enclosed : (xs ys : List ℕ) → 0 < length xs → All (λ b. (b == 40) ≡ false) xs → is_enclosed (xs ++ ys) ≡ false
not_enclosed [] ys h all = absurd (omega (arith, h))
not_enclosed (x ∷ xs) ys h all =
    let text : List ℕ = x ∷ (xs ++ ys) in
    open_first (nat_le 2 (length text)) (x == 40) (slice_index text (length text - 1) == 41) (All-head (λ b. (b == 40) ≡ false) x xs all)

pub name_is : (p : Paper) → IsReportablePaper p → name_meant (size_name p) ≡ size_name p
name_is p t =
    ap (λ b. if b then characters (name_in (size_name p)) else size_name p)
    (not_enclosed (points_text p.width) (120 ∷ points_text p.height) (side_some p.width t.0)
    (side_all (λ b. (b == 40) ≡ false) not_open refl p.width t.0))

-- two with one name have the same sides
halves : (w h : List ℕ) → Whole w → Whole h → slice_split (λ b. b == 120) (w ++ 120 ∷ h) ≡ w ∷ h ∷ []
halves w h pw ph = slice_split_at (λ b. b == 120) w 120 h pw refl ∙ ap (λ z. w ∷ z) (slice_split_none (λ b. b == 120) h ph)

same_halves : (p q : Paper) → IsReportablePaper p → IsReportablePaper q → size_name p ≡ size_name q
    → points_text p.width ∷ points_text p.height ∷ [] ≡ points_text q.width ∷ points_text q.height ∷ []
same_halves p q t u e =
    sym (halves (points_text p.width) (points_text p.height) (side_whole p.width t.0) (side_whole p.height t.1))
    ∙ ap (slice_split (λ b. b == 120)) e
    ∙ halves (points_text q.width) (points_text q.height) (side_whole q.width u.0) (side_whole q.height u.1)

-- and two that are reported alike have one name
same_name : (p q : Paper) → is_reported_alike p q ≡ true → size_name p ≡ size_name q
same_name p q e =
    let same = alike_sides p q e in
    ap (λ x. printed 5 x ++ (codes "x" ++ points_text p.height)) same.0 ∙ ap (λ y. points_text q.width ++ (codes "x" ++ printed 5 y)) same.1

-- ---- the name that a value begins with
is_length : (name rest : List ℕ) → Plain name → plain_len (name ++ 32 ∷ rest) ≡ length name
is_length [] rest plain = refl
is_length (b ∷ bs) rest plain =
    let here : is_blank b ≡ false = All-head (λ c. is_blank c ≡ false) b bs plain in
    let more : plain_len (bs ++ 32 ∷ rest) ≡ length bs = is_length bs rest (All-tail (λ c. is_blank c ≡ false) b bs plain) in
    ap (λ t. cond (not t) (1 + plain_len (bs ++ 32 ∷ rest)) 0) here ∙ omega (arith, more)

is_whole_length : (name : List ℕ) → Plain name → plain_len name ≡ length name
is_whole_length [] plain = refl
is_whole_length (b ∷ bs) plain =
    let here : is_blank b ≡ false = All-head (λ c. is_blank c ≡ false) b bs plain in
    let more : plain_len bs ≡ length bs = is_whole_length bs (All-tail (λ c. is_blank c ≡ false) b bs plain) in
    ap (λ t. cond (not t) (1 + plain_len bs) 0) here ∙ omega (arith, more)

-- after a blank a name that begins with no parenthesis
first_after : (b : ℕ) (rest : List ℕ) → is_blank b ≡ false → (b == 40) ≡ false
    → name_and_rest (32 ∷ b ∷ rest) ≡ Some (take (plain_len (b ∷ rest)) (b ∷ rest), drop (plain_len (b ∷ rest)) (b ∷ rest))
first_after b rest plain closed =
    let one : prefix_len is_blank (32 ∷ b ∷ rest) ≡ 1 = ap (λ t. 1 + cond t (1 + prefix_len is_blank rest) 0) plain in
    let text : List ℕ = b ∷ rest in
    ap (λ k. split_name (drop k (32 ∷ text))) one
    ∙ ap (λ t. let k = len_with_string (if t then rest_len 0 false text else None) text in Some (take k text, drop k text)) closed

name_read : (name rest : List ℕ) → Plain name → 0 < length name → Closed name
    → name_and_rest (32 ∷ (name ++ 32 ∷ rest)) ≡ Some (name, 32 ∷ rest)
name_read [] rest plain some closed = absurd (omega (arith, some))
name_read (b ∷ bs) rest plain some closed =
    let text : List ℕ = (b ∷ bs) ++ 32 ∷ rest in
    first_after b (bs ++ 32 ∷ rest) (All-head (λ c. is_blank c ≡ false) b bs plain) closed
    ∙ ap (λ k. Some (take k text, drop k text)) (is_length (b ∷ bs) rest plain)
    ∙ ap (λ t. Some (t, drop (length (b ∷ bs)) text)) (take_front (b ∷ bs) (32 ∷ rest))
    ∙ ap (λ t. Some (b ∷ bs, t)) (drop_front (b ∷ bs) (32 ∷ rest))

whole_name_read : (name : List ℕ) → Plain name → 0 < length name → Closed name → name_and_rest (32 ∷ name) ≡ Some (name, [])
whole_name_read [] plain some closed = absurd (omega (arith, some))
whole_name_read (b ∷ bs) plain some closed =
    first_after b bs (All-head (λ c. is_blank c ≡ false) b bs plain) closed
    ∙ ap (λ k. Some (take k (b ∷ bs), drop k (b ∷ bs))) (is_whole_length (b ∷ bs) plain)
    ∙ ap (λ t. Some (t, drop (length (b ∷ bs)) (b ∷ bs))) (take_all (b ∷ bs))
    ∙ ap (λ t. Some (b ∷ bs, t)) (drop_all (b ∷ bs))

-- ---- the fields of a line that reports a medium
abbrev rest_of_line : List ℕ
rest_of_line = codes "0 () ()"

abbrev five : (w h : List ℕ) → List (List ℕ)
five w h = w ∷ h ∷ codes "0" ∷ codes "()" ∷ codes "()" ∷ []

fields_after : (w h : List ℕ) → Plain w → Plain h → some_field w ≡ true → some_field h ≡ true
    → fields_in (32 ∷ ((w ++ (codes " " ++ h)) ++ codes " 0 () ()")) ≡ five w h
fields_after w h pw ph sw sh =
    let joined : (w ++ (32 ∷ h)) ++ (32 ∷ rest_of_line) ≡ w ++ (32 ∷ (h ++ (32 ∷ rest_of_line))) = append_assoc w (32 ∷ h) (32 ∷ rest_of_line) in
    ap (λ t. filter some_field (slice_split is_blank (32 ∷ t))) joined
    ∙ ap (λ z. filter some_field ([] ∷ z))
    (slice_split_at is_blank w 32 (h ++ (32 ∷ rest_of_line)) pw refl ∙ ap (λ z. w ∷ z) (slice_split_at is_blank h 32 rest_of_line ph refl))
    ∙ ap (λ t. cond t (w ∷ filter some_field (h ∷ codes "0" ∷ codes "()" ∷ codes "()" ∷ [])) (filter some_field (h ∷ codes "0" ∷ codes "()" ∷ codes "()" ∷ []))) sw
    ∙ ap (λ t. w ∷ cond t (h ∷ codes "0" ∷ codes "()" ∷ codes "()" ∷ []) (codes "0" ∷ codes "()" ∷ codes "()" ∷ [])) sh

of_sides : (p : Paper) → IsReportablePaper p → fields_in (codes " " ++ (size_text p ++ codes " 0 () ()")) ≡ five (points_text p.width) (points_text p.height)
of_sides p t =
    fields_after (points_text p.width) (points_text p.height) (side_plain p.width t.0) (side_plain p.height t.1)
    (is_some (points_text p.width) (side_some p.width t.0)) (is_some (points_text p.height) (side_some p.height t.1))

-- the name and what follows it
abbrev rest_of : Paper → List ℕ
rest_of p = codes " " ++ (size_text p ++ codes " 0 () ()")

medium_split : (name : List ℕ) (p : Paper) → Plain name → 0 < length name → Closed name
    → name_and_rest (32 ∷ (name ++ rest_of p)) ≡ Some (name, rest_of p)
medium_split name p plain some closed = name_read name (size_text p ++ codes " 0 () ()") plain some closed

sides_read : (p : Paper) → IsReportablePaper p → sides_paper (fields_in (rest_of p)) ≡ paper_meant (points_of (points_text p.width)) (points_of (points_text p.height))
sides_read p t = ap sides_paper (of_sides p t)

-- the medium of all sheets
pub medium_read : (p : Paper) → IsReportablePaper p → media_paper (value_of (medium_line (codes "%%DocumentMedia: ") (codes "Plain") p)) ≡ Some (as_printed p)
medium_read p t =
    ap (option_and_then (λ r. sides_paper (fields_in r.1))) (medium_split (codes "Plain") p plain (omega arith) refl) ∙ sides_read p t ∙ paper_read p t
  where
    plain : Plain (codes "Plain")
    plain = All-from_recursion (λ b. is_blank b ≡ false) (codes "Plain") (refl, (refl, (refl, (refl, (refl, tt)))))

name_closed : (p : Paper) → IsReportablePaper p → Closed (size_name p)
name_closed p t = closed_front (points_text p.width) (120 ∷ points_text p.height) (side_some p.width t.0) (side_all (λ b. (b == 40) ≡ false) not_open refl p.width t.0)

abbrev medium_of_page : Paper → Medium
medium_of_page p = record { name = name_meant (size_name p); paper = paper_meant (points_of (points_text p.width)) (points_of (points_text p.height)) }

named_medium_read : (p : Paper) → IsReportablePaper p → medium_in (32 ∷ (size_name p ++ rest_of p)) ≡ medium_of_page p ∷ []
named_medium_read p t =
    ap medium_of (medium_split (size_name p) p (name_plain p t) (name_long p t) (name_closed p t))
    ∙ ap (λ paper. record { name = name_meant (size_name p); paper = paper } ∷ []) (sides_read p t)

-- the name that a page gives
pub page_medium : (p : Paper) → IsReportablePaper p → first_medium (value_of (codes "%%PageMedia: " ++ size_name p)) ≡ Some (size_name p)
page_medium p t =
    ap (option_map (λ r. name_meant r.0)) (whole_name_read (size_name p) (name_plain p t) (name_long p t) (name_closed p t)) ∙ ap Some (name_is p t)

-- ---- the media of a header
abbrev line_of : Paper → List ℕ
line_of r = medium_line (codes "%%+ ") (size_name r) r

more_media : (ps : List Paper) (more : List (List ℕ)) → AllByRecursion IsReportablePaper ps
    → flat_map medium_in (continued (map line_of ps ++ more)) ≡ map medium_of_page ps ++ flat_map medium_in (continued more)
more_media [] more h = refl
more_media (p ∷ ps) more h =
    ap (λ ms. ms ++ flat_map medium_in (continued (map line_of ps ++ more))) (named_medium_read p h.0)
    ∙ ap (λ ms. medium_of_page p ∷ ms) (more_media ps more h.1)

abbrev medium_comment : List ℕ
medium_comment = codes "%%DocumentMedia"

-- a box is no medium
past_exact : (b : Bool) (p : Paper) (lines more : List (List ℕ))
    → comment_values medium_comment (((if b then [] else exact_box_line p ∷ []) ++ lines) ++ more) ≡ comment_values medium_comment (lines ++ more)
past_exact true p lines more = refl
past_exact false p lines more = refl

pub media_told : (p : Paper) (ps : List Paper) (first count : List ℕ) (more : List (List ℕ))
    → is_comment medium_comment first ≡ false → is_comment medium_comment count ≡ false → IsReportablePaper p → AllByRecursion IsReportablePaper ps
    → media (first ∷ count ∷ (several_header p ps ++ more)) ≡ map medium_of_page (p ∷ ps) ++ flat_map medium_in (continued more)
media_told p ps first count more e f t ts =
    let rest : List (List ℕ) = several_header p ps ++ more in
    ap (λ b. flat_map medium_in (if b then value_of first ∷ continued (count ∷ rest) else comment_values medium_comment (count ∷ rest))) e
    ∙ ap (λ b. flat_map medium_in (if b then value_of count ∷ continued rest else comment_values medium_comment rest)) f
    ∙ ap (flat_map medium_in) (past_exact (is_in_whole_points (fold smallest_cover p ps)) (fold smallest_cover p ps) (medium_line (codes "%%DocumentMedia: ") (size_name p) p ∷ map line_of ps) more)
    ∙ ap (λ ms. ms ++ flat_map medium_in (continued (map line_of ps ++ more))) (named_medium_read p t)
    ∙ ap (λ ms. medium_of_page p ∷ ms) (more_media ps more ts)

-- ---- a medium with the name of one that is reported alike
same_paper : (p q : Paper) → IsReportablePaper p → IsReportablePaper q → size_name p ≡ size_name q
    → paper_meant (points_of (points_text p.width)) (points_of (points_text p.height)) ≡ Some (as_printed q)
same_paper p q t u e =
    let same = same_halves p q t u e in
    ap (λ sides. paper_meant (points_of (get_or sides 0 [])) (points_of (get_or sides 1 []))) same ∙ paper_read q u

behind : (b c : Bool) → (b || c) ≡ true → b ≡ false → c ≡ true
behind true c e f = absurd (true≢false f)
behind false c e f = e

abbrev looked_up : (name : List ℕ) → Medium → List Medium → Bool → Option Paper
looked_up name m ms b = if b then m.paper else paper_of_medium name ms

pub found_by_name : (q : Paper) (told : List Paper) (others : List Medium) → IsReportablePaper q → AllByRecursion IsReportablePaper told → list_any (is_reported_alike q) told ≡ true
    → paper_of_medium (size_name q) (map medium_of_page told ++ others) ≡ Some (as_printed q)
found_by_name q [] others t all e = absurd (true≢false (sym e))
found_by_name q (p ∷ told) others t all e =
    let name : List ℕ = size_name q in
    let ms : List Medium = map medium_of_page told ++ others in
    let given : name_meant (size_name p) ≡ size_name p = name_is p all.0 in
    by_test (bytes_eq (name_meant (size_name p)) name)
    (λ same. ap (looked_up name (medium_of_page p) ms) same
    ∙ same_paper p q all.0 t (sym given ∙ (bytes_eq-Decides (name_meant (size_name p)) name).0 same))
    (λ other. ap (looked_up name (medium_of_page p) ms) other
    ∙ found_by_name q told others t all.1
    (by_test (is_reported_alike q p)
    (λ is. absurd (true≢false (sym ((bytes_eq-Decides (name_meant (size_name p)) name).1 (given ∙ sym (same_name q p is))) ∙ other)))
    (λ isnt. behind (is_reported_alike q p) (list_any (is_reported_alike q) told) e isnt)))
