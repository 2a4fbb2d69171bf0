-- Each sheet's paper is found in what was written.
use Rattle.std.specs.Prelude.{codes, decimal, flat_map, fold, map, Ok, Option, Some, option_and_then, option_map, slice_get, nat_abs, ℤ, pos, if◌then◌else◌, ◌||◌, ◌*◌}
use Rattle.std.specs.List.{AllByRecursion, enumerate_from, list_any}
use Rattle.std.proofs.Common.{◌≡◌, ℕ, zero, suc, ◌+◌, ◌<◌, ◌≤◌, length, List, [], ◌∷◌, ◌++◌, Bool, true, false, true≢false, refl, sym, ap, subst, ◌∙◌, drop, append_assoc}
use Rattle.lengths.proofs.Numbers.{some_same}
use Rattle.rules.specs.Bytes.{line}
use Rattle.rules.specs.Output.{Border}
use Rattle.rules.specs.Papers.{Paper}
use Rattle.rules.specs.Parts.{NestedUnit, page_run, pages}
use Rattle.rules.specs.Run.{document_of, most_input_bytes, most_pages}
use Rattle.rules.specs.Units.{content_of, is_comment, line_len}
use Rattle.dsc.specs.Units.{units_of}
use Rattle.rules.specs.Dress.{lines_text}
use Rattle.rules.specs.Made.{Blank, MadeSheet, MadeSlot, Placed}
use Rattle.rules.specs.MadeOutput.{made_output, made_sheet_text, made_slot_text}
use Rattle.imposed_again.specs.Again.{open_depth}
use Rattle.imposed_again.specs.MadeAgain.{IsTameDress, made_texts}
use Rattle.imposed_again.proofs.MadeAgain.{made_is_document}
use Rattle.imposed_again.specs.Seams.{no_ends}
use Rattle.imposed_again.proofs.Plainly.{no_ends_append, no_ends_decimal}
use Rattle.papers.specs.Comments.{first_named_in, is_in_head, medium_in, page_head, paper_of_medium, given_by_document, given_by_page}
use Rattle.papers.specs.Found.{AreQuiet, Finish, IsReportablePaper, PapersAreFound, as_printed, reporting_and}
use Rattle.papers.specs.Media.{box_of, box_paper, comment_fields, comment_value, comment_values, continued, else_take, header, lying_as, media_paper, paper_of_box, trailer_lines, usual_in, value_of}
use Rattle.papers.specs.Own.{smallest_cover, medium_by, or_this, own_paper, page_or}
use Rattle.papers.specs.Reported.{box_line, box_lines, different_from, exact_box_line, in_print, is_reported_alike, is_in_whole_points, medium_line, page_size_lines, papers_reported, sheet_lines, size_name, reporting_of, whole_paper}
use Rattle.papers.proofs.Covered.{by_test}
use Rattle.papers.proofs.Heads.{head, head_step, page_head_is, with_content}
use Rattle.papers.proofs.OutputHeads.{AreContinued, Continues, IsHeaded, behind_line, content_is, headed}
use Rattle.papers.proofs.SetSizes.{alike_sides, is_told}
use Rattle.papers.proofs.Tame as tame
use Rattle.papers.proofs.ToldMedia.{found_by_name, media_told, medium_read, page_medium}

-- ---- the head of a page
head_goes : (c rest : List ℕ) → no_ends c ≡ true → is_in_head c ≡ true → head (line c ++ rest) ≡ c ∷ head rest
head_goes [] rest h is = absurd (true≢false (sym is))
head_goes (b ∷ c) rest h is =
    let bs : List ℕ = (c ++ (10 ∷ [])) ++ rest in
    head_step b bs
    ∙ ap (λ x. with_content x (head (drop (line_len (b ∷ bs)) (b ∷ bs))) (is_in_head x)) (content_is (b ∷ c) rest h)
    ∙ ap (λ x. with_content (b ∷ c) (head x) (is_in_head (b ∷ c))) (behind_line (b ∷ c) rest h)
    ∙ ap (with_content (b ∷ c) (head rest)) is

head_stops : (text : List ℕ) → is_in_head (content_of text) ≡ false → head text ≡ []
head_stops [] isnt = refl
head_stops (b ∷ bs) isnt =
    head_step b bs ∙ ap (with_content (content_of (b ∷ bs)) (head (drop (line_len (b ∷ bs)) (b ∷ bs)))) isnt

-- neither slots nor what follows them belong to it
slots_stop : (border : Option Border) (texts : List (List ℕ)) (slots : List MadeSlot) (last : List ℕ) → is_in_head (content_of last) ≡ false
    → head (flat_map (made_slot_text border texts) slots ++ last) ≡ []
slots_stop border texts [] last isnt = head_stops last isnt
slots_stop border texts (Blank ∷ slots) last isnt = slots_stop border texts slots last isnt
slots_stop border texts (Placed p item paper ∷ slots) last isnt =
    head_stops (flat_map (made_slot_text border texts) (Placed p item paper ∷ slots) ++ last) refl

abbrev page_content : ℕ → List ℕ
page_content n = codes "%%Page: " ++ decimal n ++ codes " " ++ decimal n

page_whole : (n : ℕ) → no_ends (page_content n) ≡ true
page_whole n =
    no_ends_append (codes "%%Page: " ++ decimal n ++ codes " ") (decimal n)
    (no_ends_append (codes "%%Page: " ++ decimal n) (codes " ") (no_ends_append (codes "%%Page: ") (decimal n) refl (no_ends_decimal n)) refl) (no_ends_decimal n)

regroup : (a b c d e : List ℕ) → (((a ++ b) ++ c) ++ d) ++ e ≡ a ++ (b ++ (c ++ (d ++ e)))
regroup a b c d e = append_assoc ((a ++ b) ++ c) d e ∙ append_assoc (a ++ b) c (d ++ e) ∙ append_assoc a b (c ++ (d ++ e))

-- what follows a sheet's page line and the lines at its start
abbrev behind_start : (border : Option Border) → Finish → List (List ℕ) → (s : ℕ) → MadeSheet → List ℕ
behind_start border finish texts s sheet =
    flat_map (made_slot_text border texts) sheet.slots ++ (lines_text (finish s sheet.paper) ++ line (codes "showpage"))

-- a sheet, of sheets that report these papers
abbrev page_of : (border : Option Border) → Finish → List Paper → List (List ℕ) → (s : ℕ) → MadeSheet → List ℕ
page_of border finish told texts s sheet =
    made_sheet_text border (record { header = (reporting_of told).header; start = (reporting_of told).start; finish = finish }) texts s sheet

head_of_sheet : (border : Option Border) (finish : Finish) (told : List Paper) (texts : List (List ℕ)) (s : ℕ) (sheet : MadeSheet)
    → page_head (page_of border finish told texts s sheet)
    ≡ head (lines_text ((reporting_of told).start s sheet.paper) ++ behind_start border finish texts s sheet)
head_of_sheet border finish told texts s sheet =
    let c : List ℕ = page_content (s + 1) in
    let start : List ℕ = lines_text ((reporting_of told).start s sheet.paper) in
    let inside : List ℕ = flat_map (made_slot_text border texts) sheet.slots in
    let after : List ℕ = lines_text (finish s sheet.paper) in
    let last : List ℕ = line (codes "showpage") in
    ap page_head (regroup (line c) start inside after last)
    ∙ page_head_is (line c ++ (start ++ (inside ++ (after ++ last))))
    ∙ ap head (behind_line c (start ++ (inside ++ (after ++ last))) (page_whole (s + 1)))

stopped : (border : Option Border) (finish : Finish) (texts : List (List ℕ)) (s : ℕ) (sheet : MadeSheet) → AreQuiet finish
    → head (behind_start border finish texts s sheet) ≡ []
stopped border finish texts s sheet quiet =
    slots_stop border texts sheet.slots (lines_text (finish s sheet.paper) ++ line (codes "showpage")) (quiet.no_head s sheet.paper)

abbrev named_line : Paper → List ℕ
named_line p = codes "%%PageMedia: " ++ size_name p

-- the one line of it if there are several papers
named_head : (p : Paper) (rest : List ℕ) → head (lines_text (sheet_lines p) ++ rest) ≡ named_line p ∷ []
named_head p rest =
    let c : List ℕ = named_line p in
    let next : List ℕ = codes "/PStoPSenablepage where {pop PStoPSenablepage}" in
    let others : List ℕ = lines_text (drop 1 (page_size_lines p)) in
    ap head (append_assoc (line c) (lines_text (page_size_lines p)) rest)
    ∙ head_goes c (lines_text (page_size_lines p) ++ rest) (tame.named p).whole refl
    ∙ ap (λ hs. c ∷ hs)
    (ap head (append_assoc (line next) others rest)
    ∙ head_stops (line next ++ (others ++ rest)) (ap is_in_head (content_is next (others ++ rest) refl)))

-- ---- the paper of a sheet
abbrev Found : (named : List ℕ → Option Paper) (home : Paper) (header trailer : List (List ℕ)) → (page : List ℕ) → Paper → Type 0
Found named home header trailer page paper = own_paper named home header trailer page ≡ paper

abbrev medium_comment : List ℕ
medium_comment = codes "%%DocumentMedia"

abbrev of_print : (width height : ℤ) → Paper
of_print width height = record { width = pos (nat_abs width * 1_270_000); height = pos (nat_abs height * 1_270_000) }

sized_alike : (p q : Paper) → is_reported_alike p q ≡ true → as_printed p ≡ as_printed q
sized_alike p q e =
    let same = alike_sides p q e in
    ap (λ x. of_print x (in_print p.height)) same.0 ∙ ap (λ y. of_print (in_print q.width) y) same.1

-- a box is no medium
past_exact : (b : Bool) (p : Paper) (lines more : List (List ℕ))
    → comment_value medium_comment (((if b then [] else exact_box_line p ∷ []) ++ lines) ++ more) ≡ comment_value medium_comment (lines ++ more)
past_exact true p lines more = refl
past_exact false p lines more = refl

-- one paper is the document's
document_medium : (p : Paper) (first count : List ℕ) (more : List (List ℕ)) → is_comment medium_comment first ≡ false → is_comment medium_comment count ≡ false
    → comment_value medium_comment (first ∷ count ∷ ((reporting_of (p ∷ [])).header ++ more))
    ≡ Some (value_of (medium_line (codes "%%DocumentMedia: ") (codes "Plain") p))
document_medium p first count more e f =
    let rest : List (List ℕ) = (reporting_of (p ∷ [])).header ++ more in
    ap (λ t. if t then Some (value_of first) else comment_value medium_comment (count ∷ rest)) e
    ∙ ap (λ t. if t then Some (value_of count) else comment_value medium_comment rest) f
    ∙ past_exact (is_in_whole_points p) p (medium_line (codes "%%DocumentMedia: ") (codes "Plain") p ∷ []) more

one_found : (named : List ℕ → Option Paper) (home : Paper) (first count : List ℕ) (more trailer : List (List ℕ)) (page : List ℕ) (p : Paper)
    → is_comment medium_comment first ≡ false → is_comment medium_comment count ≡ false → IsReportablePaper p → page_head page ≡ []
    → Found named home (first ∷ count ∷ ((reporting_of (p ∷ [])).header ++ more)) trailer page (as_printed p)
one_found named home first count more trailer page p e f t silent =
    let hs : List (List ℕ) = first ∷ count ∷ ((reporting_of (p ∷ [])).header ++ more) in
    let box : Option (List (List ℕ)) = box_of hs trailer in
    let others : Option Paper =
    else_take (option_map (lying_as (option_and_then box_paper box)) (first_named_in named (comment_values (codes "%%DocumentPaperSizes") hs)))
    (option_and_then (paper_of_box home) box) in
    ap (λ head. page_or (medium_by hs) head (or_this (given_by_document named home hs trailer) home)) silent
    ∙ ap (λ o. or_this (else_take (option_and_then media_paper o) others) home) (document_medium p first count more e f)
    ∙ ap (λ o. or_this (else_take o others) home) (medium_read p t)

-- what a page says whose head has this line alone
told_by_name : (known : List ℕ → Option Paper) (other : Paper) (p q : Paper) → IsReportablePaper p → known (size_name p) ≡ Some q → given_by_page known other (named_line p ∷ []) ≡ Some q
told_by_name known other p q t e =
    let box : Option Paper = option_and_then (paper_of_box other) (comment_fields (codes "%%PageBoundingBox") (named_line p ∷ [])) in
    ap (λ o. else_take o box) (ap (option_and_then known) (page_medium p t) ∙ e)

-- of several each sheet names its own
several_found : (named : List ℕ → Option Paper) (home : Paper) (first count : List ℕ) (more trailer : List (List ℕ)) (page : List ℕ) (p r : Paper) (told : List Paper) (q : Paper)
    → is_comment medium_comment first ≡ false → is_comment medium_comment count ≡ false → AllByRecursion IsReportablePaper (p ∷ r ∷ told) → IsReportablePaper q
    → list_any (is_reported_alike q) (p ∷ r ∷ told) ≡ true → page_head page ≡ named_line q ∷ []
    → Found named home (first ∷ count ∷ ((reporting_of (p ∷ r ∷ told)).header ++ more)) trailer page (as_printed q)
several_found named home first count more trailer page p r told q e f all t among names =
    let hs : List (List ℕ) = first ∷ count ∷ ((reporting_of (p ∷ r ∷ told)).header ++ more) in
    let document : Paper = or_this (given_by_document named home hs trailer) home in
    let known : medium_by hs (size_name q) ≡ Some (as_printed q) =
    ap (paper_of_medium (size_name q)) (media_told p (r ∷ told) first count more e f all.0 all.1)
    ∙ found_by_name q (p ∷ r ∷ told) (flat_map medium_in (continued more)) t all among in
    ap (λ head. page_or (medium_by hs) head document) names
    ∙ ap (λ o. or_this o document) (told_by_name (medium_by hs) document q (as_printed q) t known)

alone : (b : Bool) → (b || false) ≡ true → b ≡ true
alone true e = refl
alone false e = e

-- of any number
each_found : (named : List ℕ → Option Paper) (home : Paper) (first count : List ℕ) (more trailer : List (List ℕ)) (border : Option Border) (finish : Finish)
    (told : List Paper) (texts : List (List ℕ)) (s : ℕ) (sheet : MadeSheet)
    → is_comment medium_comment first ≡ false → is_comment medium_comment count ≡ false → AllByRecursion IsReportablePaper told → IsReportablePaper sheet.paper → AreQuiet finish
    → list_any (is_reported_alike sheet.paper) told ≡ true
    → Found named home (first ∷ count ∷ ((reporting_of told).header ++ more)) trailer
    (page_of border finish told texts s sheet) (as_printed sheet.paper)
each_found named home first count more trailer border finish [] texts s sheet e f all t quiet among = absurd (true≢false (sym among))
each_found named home first count more trailer border finish (p ∷ []) texts s sheet e f all t quiet among =
    let head_is = head_of_sheet border finish (p ∷ []) texts s sheet ∙ stopped border finish texts s sheet quiet in
    one_found named home first count more trailer (page_of border finish (p ∷ []) texts s sheet) p e f all.0 head_is
    ∙ sym (sized_alike sheet.paper p (alone (is_reported_alike sheet.paper p) among))
each_found named home first count more trailer border finish (p ∷ r ∷ told) texts s sheet e f all t quiet among =
    let head_is = head_of_sheet border finish (p ∷ r ∷ told) texts s sheet ∙ named_head sheet.paper (behind_start border finish texts s sheet) in
    several_found named home first count more trailer (page_of border finish (p ∷ r ∷ told) texts s sheet) p r told sheet.paper e f all t among head_is

-- ---- of all that is written
tellable_told : (found all : List Paper) → AllByRecursion IsReportablePaper found → AllByRecursion IsReportablePaper all → AllByRecursion IsReportablePaper (different_from found all)
tellable_told found [] h k = h
tellable_told found (p ∷ ps) h k = by_test (list_any (is_reported_alike p) found)
    (λ is. subst (λ b. AllByRecursion IsReportablePaper (if b then different_from found ps else different_from (found ++ p ∷ []) ps)) (sym is) (tellable_told found ps h k.1))
    (λ isnt. subst (λ b. AllByRecursion IsReportablePaper (if b then different_from found ps else different_from (found ++ p ∷ []) ps)) (sym isnt)
    (tellable_told (found ++ p ∷ []) ps (one_more found h k.0) k.1))
  where
    one_more : (found : List Paper) → AllByRecursion IsReportablePaper found → IsReportablePaper p → AllByRecursion IsReportablePaper (found ++ p ∷ [])
    one_more [] h t = (t, tt)
    one_more (q ∷ qs) h t = (h.0, one_more qs h.1 t)

papers_tellable : (all : List MadeSheet) → AllByRecursion (λ sheet. IsReportablePaper sheet.paper) all → AllByRecursion IsReportablePaper (map (λ sheet. sheet.paper) all)
papers_tellable [] h = tt
papers_tellable (x ∷ all) h = (h.0, papers_tellable all h.1)

continued_box : (p : Paper) → Continues (box_line p)
continued_box p = record { whole = (tame.box p).whole; goes = refl; not_last = refl }

continued_exact_box : (p : Paper) → Continues (exact_box_line p)
continued_exact_box p = record { whole = (tame.exact_box p).whole; goes = refl; not_last = refl }

continued_exact : (b : Bool) (p : Paper) (rest : List (List ℕ)) → AreContinued rest → AreContinued ((if b then [] else exact_box_line p ∷ []) ++ rest)
continued_exact true p rest h = h
continued_exact false p rest h = (continued_exact_box p, h)

continued_boxes : (p : Paper) (rest : List (List ℕ)) → AreContinued rest → AreContinued (box_lines p ++ rest)
continued_boxes p rest h = (continued_box (whole_paper p), continued_exact (is_in_whole_points p) p rest h)

continued_more : (ps : List Paper) → AreContinued (map (λ r. medium_line (codes "%%+ ") (size_name r) r) ps)
continued_more [] = tt
continued_more (p ∷ ps) = (record { whole = (tame.one_more p).whole; goes = refl; not_last = refl }, continued_more ps)

header_continues : (told : List Paper) → AreContinued (reporting_of told).header
header_continues [] = tt
header_continues (p ∷ []) = continued_boxes p _ (record { whole = (tame.medium (codes "Plain") p refl).whole; goes = refl; not_last = refl }, tt)
header_continues (p ∷ q ∷ ps) = continued_boxes (fold smallest_cover p (q ∷ ps)) _
    (record { whole = (tame.medium (size_name p) p (tame.whole_name p)).whole; goes = refl; not_last = refl }, continued_more (q ∷ ps))

tame_and : (finish : Finish) (all : List MadeSheet) → AreQuiet finish → IsTameDress (reporting_and finish all)
tame_and finish all quiet = record {
  header = (tame.reporting_is_tame all).header;
  start = (tame.reporting_is_tame all).start;
  finish = quiet.tame;
}

-- each, one after the other
one_by_one : (f : List ℕ → Paper) (g : ℕ × MadeSheet → List ℕ) (n : ℕ) (all : List MadeSheet)
    → ((k : ℕ) (sheet : MadeSheet) (s : ℕ) → slice_get all k ≡ Some sheet → f (g (s, sheet)) ≡ as_printed sheet.paper)
    → map f (map g (enumerate_from n all)) ≡ map (λ sheet. as_printed sheet.paper) all
one_by_one f g n [] each = refl
one_by_one f g n (x ∷ all) each =
    ap (λ p. p ∷ map f (map g (enumerate_from (n + 1) all))) (each 0 x n refl)
    ∙ ap (λ ps. as_printed x.paper ∷ ps) (one_by_one f g (n + 1) all (λ k sheet s is. each (suc k) sheet s is))

tellable_at : (all : List MadeSheet) (k : ℕ) (sheet : MadeSheet) → AllByRecursion (λ it. IsReportablePaper it.paper) all → slice_get all k ≡ Some sheet → IsReportablePaper sheet.paper
tellable_at [] k sheet h e = cc
tellable_at (x ∷ all) zero sheet h e = subst (λ it. IsReportablePaper it.paper) (some_same x sheet e) h.0
tellable_at (x ∷ all) (suc k) sheet h e = tellable_at all k sheet h.1 e

-- whatever paper would be taken without what the sheets report
found_in : (named : List ℕ → Option Paper) (home : Paper) (border : Option Border) (finish : Finish) (all : List MadeSheet) (text : List ℕ) (us : List NestedUnit)
    → AllByRecursion (λ sheet. IsReportablePaper sheet.paper) all → AreQuiet finish
    → document_of text ≡ Ok us → open_depth (page_run us) ≡ 0 → 0 < length all → length all ≤ most_pages
    → length (made_output border (reporting_and finish all) all us) ≤ most_input_bytes
    → map (own_paper named home (header (made_output border (reporting_and finish all) all us)) (trailer_lines (units_of (made_output border (reporting_and finish all) all us))))
    (pages (units_of (made_output border (reporting_and finish all) all us)))
    ≡ map (λ sheet. as_printed sheet.paper) all
found_in named home border finish all text us tellable quiet d shut some few l =
    let dress = reporting_and finish all in
    let out : List ℕ = made_output border dress all us in
    let told : List Paper = papers_reported (map (λ sheet. sheet.paper) all) in
    let again = made_is_document border dress all text us (tame_and finish all quiet) d some few l in
    let hs : IsHeaded dress.header out = headed border dress all text us (header_continues told) d in
    let lines : List (List ℕ) = hs.first ∷ hs.count ∷ (dress.header ++ hs.more) in
    let last : List (List ℕ) = trailer_lines (units_of out) in
    let all_told : AllByRecursion IsReportablePaper told = tellable_told [] (map (λ sheet. sheet.paper) all) tt (papers_tellable all tellable) in
    ap (λ ps. map (own_paper named home (header out) last) ps) (again.2 shut)
    ∙ ap (λ h. map (own_paper named home h last) (made_texts border dress (pages us) all)) hs.are
    ∙ one_by_one (own_paper named home lines last) (λ (s, sheet). made_sheet_text border dress (pages us) s sheet) 0 all
    (λ k sheet s is. each_found named home hs.first hs.count hs.more last border finish told (pages us) s sheet hs.no_first hs.no_count
    all_told (tellable_at all k sheet tellable is) quiet (is_told all k sheet is))

pub papers_are_found : PapersAreFound
papers_are_found named home border finish all text us =
    found_in named (usual_in home (made_output border (reporting_and finish all) all us)) border finish all text us
