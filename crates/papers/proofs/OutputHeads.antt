-- The header comments of what was written: its first line, the count of sheets, the lines of the dress, and more.
use Rattle.std.specs.Prelude.{Option, Some, None, Ok, codes, flat_map, map, not, if◌then◌else◌, ◌&&◌, ◌||◌, nat_eq}
use Rattle.std.specs.List.{AllByRecursion, enumerate_from, list_any, starts_with}
use Rattle.std.specs.Str.{bytes_eq}
use Rattle.std.proofs.Common.{arith, ◌≡◌, ℕ, zero, suc, ◌+◌, ◌<◌, List, [], ◌∷◌, ◌++◌, Bool, true, false, cond, true≢false, refl, sym, ap, subst, ◌∙◌, length, take, drop, length-take, append_assoc, append-nil}
use Rattle.std.proofs.lemmas.List.Sums.{take_while-cons}
use Rattle.std.proofs.Math.Seq.{drop-append_seam}
use Rattle.rules.specs.Bytes.{line}
use Rattle.rules.specs.Filters.{ended, kept, kept_after, trailer_text}
use Rattle.rules.specs.Output.{Border}
use Rattle.rules.specs.Parts.{NestedUnit, begins_page, begins_trailer, bytes_of, depth_after, nested, nested_from, pages, preamble, split_pages, up_to}
use Rattle.rules.specs.Run.{document_of}
use Rattle.rules.specs.Units.{AreUnits, TextUnit, begins_block, content_of, cut, first_unit, is_comment, is_end, line_len}
use Rattle.dsc.specs.Header.{header_run, is_last, run_len, stays}
use Rattle.dsc.specs.Units.{or_none}
use Rattle.dsc.proofs.LineByLine.{by_line}
use Rattle.dsc.proofs.LineLengths.{line_len-within}
use Rattle.dsc.proofs.Reading.{accepted_cut, accepted_opening}
use Rattle.imposed_again.specs.Seams.{ends, joined, no_ends, passes}
use Rattle.imposed_again.proofs.Accepted.{some_pages}
use Rattle.imposed_again.proofs.FirstLine.{IsFirst, first_is, first_no_page}
use Rattle.imposed_again.proofs.LinesMeet.{go_content, go_line, stop_content, stop_line}
use Rattle.imposed_again.proofs.Splits.{at_depth, from_passed}
use Rattle.imposed_again.proofs.Texts.{are_units, joined_is}
use Rattle.imposed_again.proofs.UnitsMeet.{unit_content, unit_line, unit_same}
use Rattle.rules.specs.Dress.{Dress, lines_text}
use Rattle.rules.specs.Made.{MadeSheet}
use Rattle.rules.specs.MadeOutput.{dressed_preamble, drops_with, made_output, made_sheet_text, with_lines}
use Rattle.imposed_again.proofs.Again.{first_not_dropped}
use Rattle.imposed_again.proofs.Assembly.{count_content, count_whole, not_dropped}
use Rattle.imposed_again.proofs.Recut.{Row, Stands, row_of}
use Rattle.papers.specs.Media.{contents, header}
use Rattle.papers.proofs.Contents.{contents_step}

-- ---- a line at the front of a text
first_not : (a z : Bool) → (not a && z) ≡ true → a ≡ false
first_not true z e = absurd (true≢false (sym e))
first_not false z e = refl

second_so : (a z : Bool) → (not a && z) ≡ true → z ≡ true
second_so true z e = absurd (true≢false (sym e))
second_so false z e = e

pub line_is : (c rest : List ℕ) → no_ends c ≡ true → line_len ((c ++ (10 ∷ [])) ++ rest) ≡ length (c ++ (10 ∷ []))
line_is [] rest h = stop_line 10 rest refl
line_is (b ∷ c) rest h =
    go_line b ((c ++ (10 ∷ [])) ++ rest) (first_not (is_end b) (no_ends c) h) ∙ ap suc (line_is c rest (second_so (is_end b) (no_ends c) h))

pub content_is : (c rest : List ℕ) → no_ends c ≡ true → content_of ((c ++ (10 ∷ [])) ++ rest) ≡ c
content_is [] rest h = stop_content 10 rest refl
content_is (b ∷ c) rest h =
    go_content b ((c ++ (10 ∷ [])) ++ rest) (first_not (is_end b) (no_ends c) h) ∙ ap (λ t. b ∷ t) (content_is c rest (second_so (is_end b) (no_ends c) h))

pub behind_line : (c rest : List ℕ) → no_ends c ≡ true → drop (line_len (line c ++ rest)) (line c ++ rest) ≡ rest
behind_line c rest h = ap (λ n. drop n (line c ++ rest)) (line_is c rest h) ∙ drop-append_seam (line c) rest

take_on : (xs ys : List ℕ) (m : ℕ) → take (length xs + m) (xs ++ ys) ≡ xs ++ take m ys
take_on [] ys m = let e : 0 + m ≡ m = omega arith in ap (λ k. take k ys) e
take_on (x ∷ xs) ys m = let e : suc (length xs) + m ≡ suc (length xs + m) = omega arith in
    ap (λ k. take k (x ∷ (xs ++ ys))) e ∙ ap (λ t. x ∷ t) (take_on xs ys m)

contents_line : (c rest : List ℕ) → no_ends c ≡ true → contents (line c ++ rest) ≡ c ∷ contents rest
contents_line c rest h = at (line c ++ rest) (some c rest) (content_is c rest h) (behind_line c rest h)
  where
    some : (c rest : List ℕ) → 0 < length (line c ++ rest)
    some [] rest = omega arith
    some (b ∷ c) rest = omega arith

    at : (text : List ℕ) → 0 < length text → content_of text ≡ c → drop (line_len text) text ≡ rest → contents text ≡ c ∷ contents rest
    at [] l e f = absurd (omega (arith, l))
    at (b ∷ bs) l e f = contents_step b bs ∙ ap (λ x. x ∷ contents (drop (line_len (b ∷ bs)) (b ∷ bs))) e ∙ ap (λ x. c ∷ contents x) f

-- ---- a run of header comments
abbrev run_with : (content : List ℕ) → (len more : ℕ) → Bool → Bool → ℕ
run_with content len more goes last = if goes then (if last then len else len + more) else 0

no_run : (k : ℕ) → run_len k [] ≡ run_len 0 []
no_run zero = refl
no_run (suc k) = refl

run_step : (b : ℕ) (bs : List ℕ)
    → header_run (b ∷ bs)
    ≡ run_with (content_of (b ∷ bs)) (line_len (b ∷ bs)) (header_run (drop (line_len (b ∷ bs)) (b ∷ bs))) (stays (content_of (b ∷ bs))) (is_last (content_of (b ∷ bs)))
run_step b bs =
    by_line run_len (λ b bs more. run_with (content_of (b ∷ bs)) (line_len (b ∷ bs)) more (stays (content_of (b ∷ bs))) (is_last (content_of (b ∷ bs))))
    no_run (λ k b bs. refl) b bs

-- a line that continues the header comments
pub record Continues (c : List ℕ) : Type 0 where
  pub whole : no_ends c ≡ true
  pub goes : stays c ≡ true
  pub not_last : is_last c ≡ false

abbrev pub AreContinued : List (List ℕ) → Type 0
AreContinued lines = AllByRecursion Continues lines

run_line : (c rest : List ℕ) → Continues c → header_run (line c ++ rest) ≡ length (line c) + header_run rest
run_line [] rest h = absurd (true≢false (sym h.goes))
run_line (b ∷ c) rest h =
    let bs : List ℕ = (c ++ (10 ∷ [])) ++ rest in
    let content : content_of (b ∷ bs) ≡ b ∷ c = content_is (b ∷ c) rest h.whole in
    run_step b bs
    ∙ ap (λ x. run_with x (line_len (b ∷ bs)) (header_run (drop (line_len (b ∷ bs)) (b ∷ bs))) (stays x) (is_last x)) content
    ∙ ap (λ t. run_with (b ∷ c) (line_len (b ∷ bs)) (header_run (drop (line_len (b ∷ bs)) (b ∷ bs))) t (is_last (b ∷ c))) h.goes
    ∙ ap (λ t. run_with (b ∷ c) (line_len (b ∷ bs)) (header_run (drop (line_len (b ∷ bs)) (b ∷ bs))) true t) h.not_last
    ∙ ap (λ x. line_len (b ∷ bs) + header_run x) (behind_line (b ∷ c) rest h.whole)
    ∙ ap (λ n. n + header_run rest) (line_is (b ∷ c) rest h.whole)

-- the comments of such a run
abbrev run_of : List ℕ → List (List ℕ)
run_of text = contents (take (header_run text) text)

one_more : (c rest : List ℕ) → Continues c → run_of (line c ++ rest) ≡ c ∷ run_of rest
one_more c rest h =
    ap (λ n. contents (take n (line c ++ rest))) (run_line c rest h)
    ∙ ap contents (take_on (line c) rest (header_run rest))
    ∙ contents_line c (take (header_run rest) rest) h.whole

more_lines : (lines : List (List ℕ)) (rest : List ℕ) → AreContinued lines → run_of (lines_text lines ++ rest) ≡ lines ++ run_of rest
more_lines [] rest h = refl
more_lines (c ∷ lines) rest h =
    ap run_of (append_assoc (line c) (lines_text lines) rest) ∙ one_more c (lines_text lines ++ rest) h.0
    ∙ ap (λ cs. c ∷ cs) (more_lines lines rest h.1)

-- ---- and the first line before it
first_data : (u : TextUnit) → IsFirst u → begins_block u.content ≡ false
first_data u f =
    ap (λ k. (list_any (bytes_eq k) (codes "%%BeginData" ∷ []) && starts_with nat_eq u.content (codes "%%BeginData" ++ 58 ∷ []))
    || (list_any (bytes_eq k) (codes "%%BeginBinary" ∷ []) && starts_with nat_eq u.content (codes "%%BeginBinary" ++ 58 ∷ []))) f.named

pub first_no_comment : (u : TextUnit) → IsFirst u → is_comment (codes "%%DocumentMedia") u.content ≡ false
first_no_comment u f =
    ap (λ k. list_any (bytes_eq k) (codes "%%DocumentMedia" ∷ []) && starts_with nat_eq u.content (codes "%%DocumentMedia" ++ 58 ∷ [])) f.named

-- the first unit before a percent sign is the first line
record IsLineOf (u : TextUnit) (text : List ℕ) : Type 0 where
  content : content_of text ≡ u.content
  len : line_len text ≡ length u.bytes

line_before : (u : TextUnit) (more : List ℕ) → IsFirst u → Stands u → IsLineOf u (u.bytes ++ 37 ∷ more)
line_before u more f s =
    let text : List ℕ = u.bytes ++ 37 ∷ more in
    let e : first_unit text ≡ Ok u = unit_same u.bytes (37 ∷ []) (37 ∷ more) u s (omega arith) (λ e. cc) (λ e. cc) in
    let content : u.content ≡ content_of text = (unit_content text u e).0 in
    let same : u ≡ record { content = content_of text; bytes = take (line_len text) text; is_block = false } = unit_line text u e (sym (ap begins_block content) ∙ first_data u f) in
    let bytes : length u.bytes ≡ length (take (line_len text) text) = ap (λ v. length v.bytes) same in
    let within = line_len-within text in
    let took = length-take (line_len text) text in
    record { content = sym content; len = omega (arith, bytes, within, took) }

contents_first : (u : TextUnit) (more : List ℕ) → IsFirst u → Stands u → contents (u.bytes ++ 37 ∷ more) ≡ u.content ∷ contents (37 ∷ more)
contents_first u more f s =
    let w : IsLineOf u (u.bytes ++ 37 ∷ more) = line_before u more f s in
    at (u.bytes ++ 37 ∷ more) (some u.bytes) w.content (ap (λ n. drop n (u.bytes ++ 37 ∷ more)) w.len ∙ drop-append_seam u.bytes (37 ∷ more))
  where
    some : (xs : List ℕ) → 0 < length (xs ++ 37 ∷ more)
    some [] = omega arith
    some (x ∷ xs) = omega arith

    at : (text : List ℕ) → 0 < length text → content_of text ≡ u.content → drop (line_len text) text ≡ 37 ∷ more → contents text ≡ u.content ∷ contents (37 ∷ more)
    at [] l e g = absurd (omega (arith, l))
    at (b ∷ bs) l e g = contents_step b bs ∙ ap (λ x. x ∷ contents (drop (line_len (b ∷ bs)) (b ∷ bs))) e ∙ ap (λ x. u.content ∷ contents x) g

header_first : (u : TextUnit) (more c : List ℕ) (cs : List (List ℕ)) → IsFirst u → Stands u → run_of (37 ∷ more) ≡ c ∷ cs
    → header (u.bytes ++ 37 ∷ more) ≡ u.content ∷ c ∷ cs
header_first u more c cs f s e =
    let text : List ℕ = u.bytes ++ 37 ∷ more in
    let w : IsLineOf u text = line_before u more f s in
    let behind : drop (line_len text) text ≡ 37 ∷ more = ap (λ n. drop n text) w.len ∙ drop-append_seam u.bytes (37 ∷ more) in
    ap (λ x. contents (take (line_len text + header_run x) text)) behind
    ∙ ap (λ n. contents (take (n + header_run (37 ∷ more)) text)) w.len
    ∙ ap contents (take_on u.bytes (37 ∷ more) (header_run (37 ∷ more)))
    ∙ taken (header_run (37 ∷ more)) e
  where
    taken : (n : ℕ) → contents (take n (37 ∷ more)) ≡ c ∷ cs → contents (u.bytes ++ take n (37 ∷ more)) ≡ u.content ∷ c ∷ cs
    taken zero e = cc
    taken (suc n) e = contents_first u (take n more) f s ∙ ap (λ xs. u.content ∷ xs) e

-- ---- what was written begins so
-- a text that ends with a line end keeps it, whatever follows
ended_on : (xs ys : List ℕ) → ends xs ≡ true → ended (xs ++ ys) ≡ xs ++ ended ys
ended_on [] ys e = refl
ended_on (x ∷ []) [] e = ap (λ b. if b then x ∷ [] else x ∷ 10 ∷ []) e
ended_on (x ∷ []) (y ∷ ys) e = refl
ended_on (x ∷ z ∷ xs) ys e = ap (λ t. x ∷ t) (ended_on (z ∷ xs) ys e)

ends_more : (xs ys : List ℕ) → ends ys ≡ true → ends (xs ++ ys) ≡ true
ends_more [] ys e = e
ends_more (x ∷ []) [] e = absurd (true≢false (sym e))
ends_more (x ∷ []) (y ∷ ys) e = e
ends_more (x ∷ z ∷ xs) ys e = ends_more (z ∷ xs) ys e

lines_end : (c : List ℕ) (lines : List (List ℕ)) → ends (lines_text (c ∷ lines)) ≡ true
lines_end c [] = ap ends (append-nil (line c)) ∙ ends_more c (10 ∷ []) refl
lines_end c (d ∷ lines) = ends_more (line c) (lines_text (d ∷ lines)) (lines_end d lines)

abbrev kept_behind : List (List ℕ) → TextUnit → List TextUnit → List NestedUnit
kept_behind lines u us = kept_after false (drops_with lines) (up_to begins_page (nested_from (depth_after 0 u) us))

no_page : (u : TextUnit) → IsFirst u → begins_page (at_depth 0 u) ≡ false
no_page u f = false_of (begins_page (at_depth 0 u)) (first_no_page u 0 f)
  where
    false_of : (b : Bool) → (b ≡ true → ⊥) → b ≡ false
    false_of true h = absurd (h refl)
    false_of false h = refl

-- the first line, the count, the lines of the dress, and what else is kept
preamble_written : (n : ℕ) (lines : List (List ℕ)) (u : TextUnit) (us : List TextUnit) → IsFirst u
    → dressed_preamble n lines (nested (u ∷ us)) ≡ (u.bytes ++ lines_text (count_content n ∷ lines)) ++ ended (bytes_of (kept_behind lines u us))
preamble_written n lines u us f =
    let d : ℕ = depth_after 0 u in
    let before : List NestedUnit = up_to begins_page (nested_from d us) in
    let c : List ℕ = count_content n in
    let more : List ℕ = bytes_of (kept_behind lines u us) in
    let parts : preamble (nested (u ∷ us)) ≡ at_depth 0 u ∷ before =
    take_while-cons (λ x. not (begins_page x)) (at_depth 0 u) (nested_from d us) ∙ ap (λ b. cond (not b) (at_depth 0 u ∷ before) []) (no_page u f) in
    ap (λ ws. ended (with_lines n lines (kept (drops_with lines) ws))) parts
    ∙ ap (λ b. ended (with_lines n lines (if b then kept_after true (drops_with lines) before else at_depth 0 u ∷ kept_after false (drops_with lines) before)))
    (not_dropped (drops_with lines) (at_depth 0 u) (first_not_dropped lines u f))
    ∙ ap (λ t. ended (t ++ more)) (append_assoc u.bytes (line c) (lines_text lines))
    ∙ ended_on (u.bytes ++ lines_text (c ∷ lines)) more (ends_more u.bytes (lines_text (c ∷ lines)) (lines_end c lines))

grouped : (a l k s t : List ℕ) → (((a ++ l) ++ k) ++ s) ++ t ≡ a ++ (l ++ ((k ++ s) ++ t))
grouped a l k s t =
    ap (λ x. x ++ t) (ap (λ x. x ++ s) (append_assoc a l k) ∙ append_assoc a (l ++ k) s)
    ∙ append_assoc a ((l ++ k) ++ s) t
    ∙ ap (λ x. a ++ x) (ap (λ x. x ++ t) (append_assoc l k s) ∙ append_assoc l (k ++ s) t)

counted : (n : ℕ) → Continues (count_content n)
counted n = record { whole = count_whole n; goes = refl; not_last = refl }

-- the header comments of a text that was written with these lines
pub record IsHeaded (lines : List (List ℕ)) (text : List ℕ) : Type 0 where
  pub first : List ℕ
  pub count : List ℕ
  pub more : List (List ℕ)
  pub are : header text ≡ first ∷ count ∷ (lines ++ more)
  pub no_first : is_comment (codes "%%DocumentMedia") first ≡ false
  pub no_count : is_comment (codes "%%DocumentMedia") count ≡ false

by_first : (border : Option Border) (dress : Dress) (all : List MadeSheet) (u : TextUnit) (us : List TextUnit) → AreContinued dress.header → IsFirst u → Stands u
    → IsHeaded dress.header (made_output border dress all (nested (u ∷ us)))
by_first border dress all u us h f s =
    let vs : List NestedUnit = nested (u ∷ us) in
    let c : List ℕ = count_content (length all) in
    let lines : List ℕ = lines_text (c ∷ dress.header) in
    let kept_more : List ℕ = ended (bytes_of (kept_behind dress.header u us)) in
    let sheets : List ℕ = flat_map (λ (s, sheet). made_sheet_text border dress (pages vs) s sheet) (enumerate_from 0 all) in
    let last : List ℕ = trailer_text vs in
    let rest : List ℕ = (kept_more ++ sheets) ++ last in
    record {
      first = u.content;
      count = c;
      more = run_of rest;
      are = ap (λ t. header ((t ++ sheets) ++ last)) (preamble_written (length all) dress.header u us f)
          ∙ ap header (grouped u.bytes lines kept_more sheets last)
          ∙ header_first u (drop 1 (lines ++ rest)) c (dress.header ++ run_of rest) f s (more_lines (c ∷ dress.header) rest (counted (length all), h));
      no_first = first_no_comment u f;
      no_count = refl;
    }

-- more follows the first unit, which begins no page
more_follow : (u : TextUnit) (us : List TextUnit) → IsFirst u → 0 < length (pages (nested (u ∷ us))) → 0 < length us
more_follow u [] f some =
    let passed : passes begins_page 0 (u ∷ []) ≡ Some (depth_after 0 u) = ap (λ b. if b then None else Some (depth_after 0 u)) (no_page u f) in
    let nothing : length (pages (nested (u ∷ []))) ≡ 0 =
    ap (λ ws. length (map bytes_of (split_pages (up_to begins_trailer ws)))) (from_passed begins_page 0 (u ∷ []) [] (depth_after 0 u) passed) in
    absurd (omega (arith, nothing, some))
more_follow u (v ∷ us) f some = omega arith

by_units : (border : Option Border) (dress : Dress) (all : List MadeSheet) (text : List ℕ) (us : List TextUnit) → AreContinued dress.header
    → document_of text ≡ Ok (nested us) → AreUnits text us → IsHeaded dress.header (made_output border dress all (nested us))
by_units border dress all text [] h d m = let some = some_pages text [] d in absurd (omega (arith, some))
by_units border dress all text (u ∷ us) h d m =
    let whole : joined (u ∷ us) ≡ text = joined_is text (u ∷ us) m in
    let are : AreUnits (joined (u ∷ us) ++ []) ((u ∷ us) ++ []) =
    subst (λ t. AreUnits t ((u ∷ us) ++ [])) (sym (append-nil (joined (u ∷ us)) ∙ whole)) (subst (AreUnits text) (sym (append-nil (u ∷ us))) m) in
    let row : Row (u ∷ us) = row_of (u ∷ us) [] [] are in
    let first : IsFirst u = first_is text u (accepted_opening text (nested (u ∷ us)) d) m.1 in
    by_first border dress all u us h first (row.2 (more_follow u us first (some_pages text (nested (u ∷ us)) d)))

pub headed : (border : Option Border) (dress : Dress) (all : List MadeSheet) (text : List ℕ) (us : List NestedUnit) → AreContinued dress.header
    → document_of text ≡ Ok us → IsHeaded dress.header (made_output border dress all us)
headed border dress all text us h d =
    let w = accepted_cut text us d in
    let ws : List TextUnit = or_none (cut text) in
    subst (λ vs. IsHeaded dress.header (made_output border dress all vs)) w.1
    (by_units border dress all text ws h (subst (λ vs. document_of text ≡ Ok vs) (sym w.1) d) (are_units text ws w.0))
