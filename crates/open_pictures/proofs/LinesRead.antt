-- The tokens of the lines that impose adds to its output.
use Rattle.std.specs.Prelude.{codes, flat_map, fold, if◌then◌else◌}
use Rattle.std.proofs.Common.{◌≡◌, ℕ, refl, ap, ◌∙◌, sym, subst, Bool, true, false, List, [], ◌∷◌, ◌++◌, map, reverse}
use Rattle.rules.specs.Bytes.{line, line_feed}
use Rattle.rules.specs.Numbers.{points_text}
use Rattle.rules.specs.Papers.{Paper}
use Rattle.rules.specs.Dress.{lines_text}
use Rattle.papers.specs.Own.{smallest_cover}
use Rattle.papers.specs.Reported.{reporting_of, size_text, size_name, medium_text, medium_line, box_line, box_lines, exact_box_line, exact_box_lines, is_in_whole_points, whole_paper, page_size_lines, sheet_lines, setting_line}
use Rattle.dressing.specs.Drawn.{stroke_line, mark_lines}
use Rattle.dressing.specs.declared.strokes.Stroke.{Stroke}
use Rattle.pictures.specs.Objects.{Token, Number, Name, Literal, Opens, Closes}
use Rattle.pictures.specs.Scanner.{Reading, Between, InWord, word}
use Rattle.pictures.specs.Imposed.{ends_nowhere, is_comment_line, are_comments}
use Rattle.pictures.proofs.Placed.{both_true}
use Rattle.pictures.proofs.Comments.{comment_read, points_stay, stay_both}
use Rattle.pictures.proofs.OpeningTokens.{spaced_read}
use Rattle.pictures.proofs.NumberTokens.{IsWord, Reads, reads_join, reads_word, word_is, onto, points_word}

-- Numbers.

-- two numbers, and a text that ends the second one
point_then : (a b rest : List ℕ) (us : List Token) (q : Reading) → IsWord a → IsWord b → ((acc : List ℕ) → Reads (InWord acc) rest (word (reverse acc) ∷ us) q)
    → Reads Between ((a ++ (codes " " ++ b)) ++ rest) (Number a ∷ Number b ∷ us) q
point_then a b rest us q wa wb f =
    reads_join Between (InWord (onto b [])) q (a ++ (codes " " ++ b)) rest (Number a ∷ []) (Number b ∷ us)
    (spaced_read a b [] (InWord (onto b [])) wa (reads_word b wb))
    (f (onto b []) ∙ ap (λ t. (t ∷ us, q)) (word_is b wb))

-- Strokes.

abbrev pub line_tokens : (a b c d : List ℕ) → List Token
line_tokens a b c d =
    Name (codes "newpath") ∷ Number a ∷ Number b ∷ Name (codes "moveto") ∷ Number c ∷ Number d ∷ Name (codes "lineto") ∷ Name (codes "stroke") ∷ []

abbrev pub stroke_tokens : Stroke → List Token
stroke_tokens x = line_tokens (points_text x.start.0) (points_text x.start.1) (points_text x.end.0) (points_text x.end.1)

abbrev pub ink_tokens : List Token
ink_tokens =
    Name (codes "gsave") ∷ Number (codes "0") ∷ Name (codes "setgray") ∷ Number (codes ".25") ∷ Name (codes "setlinewidth")
    ∷ Name (codes "[") ∷ Name (codes "]") ∷ Number (codes "0") ∷ Name (codes "setdash") ∷ []

abbrev pub mark_tokens : List Stroke → List Token
mark_tokens [] = []
mark_tokens (x ∷ strokes) = ink_tokens ++ (flat_map stroke_tokens (x ∷ strokes) ++ (Name (codes "grestore") ∷ []))

abbrev line_by : (a b c d : List ℕ) → List ℕ
line_by a b c d = codes "newpath " ++ ((a ++ (codes " " ++ b)) ++ (codes " moveto " ++ ((c ++ (codes " " ++ d)) ++ codes " lineto stroke")))

line_read : (a b c d : List ℕ) → IsWord a → IsWord b → IsWord c → IsWord d → Reads Between (line (line_by a b c d)) (line_tokens a b c d) Between
line_read a b c d wa wb wc wd =
    let q : Reading = InWord (reverse (codes "stroke")) in
    let last : List ℕ = (c ++ (codes " " ++ d)) ++ codes " lineto stroke" in
    let us : List Token = Number c ∷ Number d ∷ Name (codes "lineto") ∷ [] in
    let more : List ℕ = (a ++ (codes " " ++ b)) ++ (codes " moveto " ++ last) in
    let ts : List Token = Number a ∷ Number b ∷ Name (codes "moveto") ∷ us in
    let ended : Reads Between last us q = point_then c d (codes " lineto stroke") (Name (codes "lineto") ∷ []) q wc wd (λ acc. refl) in
    let both : Reads Between more ts q =
    point_then a b (codes " moveto " ++ last) (Name (codes "moveto") ∷ us) q wa wb
    (λ acc. reads_join (InWord acc) Between q (codes " moveto ") last (word (reverse acc) ∷ Name (codes "moveto") ∷ []) us refl ended) in
    reads_join Between q Between (codes "newpath " ++ more) (line_feed ∷ []) (Name (codes "newpath") ∷ ts) (Name (codes "stroke") ∷ [])
    (reads_join Between Between q (codes "newpath ") more (Name (codes "newpath") ∷ []) ts refl both)
    refl

stroke_read : (x : Stroke) → Reads Between (line (stroke_line x)) (stroke_tokens x) Between
stroke_read x =
    line_read (points_text x.start.0) (points_text x.start.1) (points_text x.end.0) (points_text x.end.1)
    (points_word x.start.0) (points_word x.start.1) (points_word x.end.0) (points_word x.end.1)

strokes_read : (xs : List Stroke) → Reads Between (lines_text (map stroke_line xs ++ codes "grestore" ∷ [])) (flat_map stroke_tokens xs ++ (Name (codes "grestore") ∷ [])) Between
strokes_read [] = refl
strokes_read (x ∷ xs) =
    reads_join Between Between Between (line (stroke_line x)) (lines_text (map stroke_line xs ++ codes "grestore" ∷ []))
    (stroke_tokens x) (flat_map stroke_tokens xs ++ (Name (codes "grestore") ∷ [])) (stroke_read x) (strokes_read xs)

marks_read : (xs : List Stroke) → Reads Between (lines_text (mark_lines xs)) (mark_tokens xs) Between
marks_read [] = refl
marks_read (x ∷ xs) =
    reads_join Between Between Between (line (codes "gsave 0 setgray .25 setlinewidth [] 0 setdash")) (lines_text (map stroke_line (x ∷ xs) ++ codes "grestore" ∷ []))
    ink_tokens (flat_map stroke_tokens (x ∷ xs) ++ (Name (codes "grestore") ∷ [])) refl (strokes_read (x ∷ xs))

-- a sheet has them at its end
finish_is : (told : List Paper) (n : ℕ) (paper : Paper) → (reporting_of told).finish n paper ≡ []
finish_is [] n paper = refl
finish_is (p ∷ []) n paper = refl
finish_is (p ∷ q ∷ ps) n paper = refl

pub finish_read : (told : List Paper) (strokes : List Stroke) (n : ℕ) (paper : Paper) → Reads Between (lines_text ((reporting_of told).finish n paper ++ mark_lines strokes)) (mark_tokens strokes) Between
finish_read told strokes n paper =
    subst (λ ls. Reads Between (lines_text (ls ++ mark_lines strokes)) (mark_tokens strokes) Between) (sym (finish_is told n paper)) (marks_read strokes)

-- Sizes.

-- `pop PStoPSenablepage`, and what is asked if that name isn't there
abbrev pub flag_tokens : List Token
flag_tokens = Name (codes "pop") ∷ Name (codes "PStoPSenablepage") ∷ []

abbrev pub other_tokens : List Token
other_tokens =
    Name (codes "userdict") ∷ Literal (codes "showpage") ∷ Number (codes "2") ∷ Name (codes "copy") ∷ Name (codes "known")
    ∷ Opens ∷ Name (codes "get") ∷ Name (codes "dup") ∷ Name (codes "type") ∷ Literal (codes "operatortype") ∷ Name (codes "eq")
    ∷ Opens ∷ Name (codes "pop") ∷ Name (codes "true") ∷ Closes
    ∷ Opens ∷ Name (codes "length") ∷ Number (codes "0") ∷ Name (codes "ne") ∷ Closes ∷ Name (codes "ifelse") ∷ Closes
    ∷ Opens ∷ Name (codes "pop") ∷ Name (codes "pop") ∷ Name (codes "true") ∷ Closes ∷ Name (codes "ifelse") ∷ []

abbrev pub asking_tokens : List Token
asking_tokens =
    Literal (codes "PStoPSenablepage") ∷ Name (codes "where")
    ∷ Opens ∷ (flag_tokens ++ (Closes ∷ Opens ∷ (other_tokens ++ (Closes ∷ Name (codes "ifelse") ∷ []))))

-- what is run if the answer is true
abbrev pub setting_tokens : (w h : List ℕ) → List Token
setting_tokens w h =
    Number (codes "1") ∷ Name (codes "dict") ∷ Name (codes "dup") ∷ Literal (codes "PageSize")
    ∷ Name (codes "[") ∷ Number w ∷ Number h ∷ Name (codes "]") ∷ Name (codes "put")
    ∷ Name (codes "systemdict") ∷ Literal (codes "setpagedevice") ∷ Name (codes "get") ∷ Name (codes "exec") ∷ []

abbrev pub known_tokens : (w h : List ℕ) → List Token
known_tokens w h =
    Name (codes "systemdict") ∷ Literal (codes "setpagedevice") ∷ Name (codes "known") ∷ Name (codes "and")
    ∷ Opens ∷ (setting_tokens w h ++ (Closes ∷ Name (codes "if") ∷ []))

abbrev pub size_tokens : Paper → List Token
size_tokens paper = asking_tokens ++ known_tokens (points_text paper.width) (points_text paper.height)

abbrev before_size : List ℕ
before_size = codes "systemdict /setpagedevice known and {1 dict dup /PageSize ["

abbrev after_size : List ℕ
after_size = codes "] put systemdict /setpagedevice get exec} if"

set_read : (w h : List ℕ) → IsWord w → IsWord h → Reads Between (line (before_size ++ ((w ++ (codes " " ++ h)) ++ after_size))) (known_tokens w h) Between
set_read w h ww wh =
    let q : Reading = InWord (reverse (codes "if")) in
    let us : List Token =
    Name (codes "]") ∷ Name (codes "put") ∷ Name (codes "systemdict") ∷ Literal (codes "setpagedevice") ∷ Name (codes "get") ∷ Name (codes "exec") ∷ Closes ∷ [] in
    let ts : List Token =
    Name (codes "systemdict") ∷ Literal (codes "setpagedevice") ∷ Name (codes "known") ∷ Name (codes "and")
    ∷ Opens ∷ Number (codes "1") ∷ Name (codes "dict") ∷ Name (codes "dup") ∷ Literal (codes "PageSize") ∷ Name (codes "[") ∷ [] in
    reads_join Between q Between (before_size ++ ((w ++ (codes " " ++ h)) ++ after_size)) (line_feed ∷ []) (ts ++ (Number w ∷ Number h ∷ us)) (Name (codes "if") ∷ [])
    (reads_join Between Between q before_size ((w ++ (codes " " ++ h)) ++ after_size) ts (Number w ∷ Number h ∷ us) refl
    (point_then w h after_size us q ww wh (λ acc. refl)))
    refl

abbrev asking_line : List ℕ
asking_line = codes "/PStoPSenablepage where {pop PStoPSenablepage}"

abbrev other_line : List ℕ
other_line = codes "{userdict /showpage 2 copy known {get dup type /operatortype eq {pop true} {length 0 ne} ifelse} {pop pop true} ifelse} ifelse"

pub size_read : (paper : Paper) → Reads Between (lines_text (page_size_lines paper)) (size_tokens paper) Between
size_read paper =
    let w : List ℕ = points_text paper.width in
    let h : List ℕ = points_text paper.height in
    let first : List Token = Literal (codes "PStoPSenablepage") ∷ Name (codes "where") ∷ Opens ∷ (flag_tokens ++ (Closes ∷ [])) in
    let second : List Token = Opens ∷ (other_tokens ++ (Closes ∷ Name (codes "ifelse") ∷ [])) in
    reads_join Between Between Between (line asking_line) (line other_line ++ (line (setting_line paper) ++ [])) first (second ++ (known_tokens w h ++ [])) refl
    (reads_join Between Between Between (line other_line) (line (setting_line paper) ++ []) second (known_tokens w h ++ []) refl
    (reads_join Between Between Between (line (setting_line paper)) [] (known_tokens w h) [] (set_read w h (points_word paper.width) (points_word paper.height)) refl))

-- a sheet has them at its start, after the comment that names its medium
abbrev pub start_tokens : (told : List Paper) → Paper → List Token
start_tokens (p ∷ q ∷ ps) paper = size_tokens paper
start_tokens told paper = []

size_stays : (p : Paper) → ends_nowhere (size_text p) ≡ true
size_stays p =
    stay_both (points_text p.width) (codes " " ++ points_text p.height) (points_stay p.width) (stay_both (codes " ") (points_text p.height) refl (points_stay p.height))

name_stays : (p : Paper) → ends_nowhere (size_name p) ≡ true
name_stays p =
    stay_both (points_text p.width) (codes "x" ++ points_text p.height) (points_stay p.width) (stay_both (codes "x") (points_text p.height) refl (points_stay p.height))

sheet_lines_read : (paper : Paper) → Reads Between (lines_text (sheet_lines paper)) (size_tokens paper) Between
sheet_lines_read paper =
    let named : List ℕ = codes "%%PageMedia: " ++ size_name paper in
    reads_join Between Between Between (line named) (lines_text (page_size_lines paper)) [] (size_tokens paper) (comment_read named (name_stays paper)) (size_read paper)

pub start_read : (told : List Paper) (n : ℕ) (paper : Paper) → Reads Between (lines_text ((reporting_of told).start n paper)) (start_tokens told paper) Between
start_read [] n paper = refl
start_read (p ∷ []) n paper = refl
start_read (p ∷ q ∷ ps) n paper = sheet_lines_read paper

-- The header has comments alone.

medium_stays : (name : List ℕ) (p : Paper) → ends_nowhere name ≡ true → ends_nowhere (medium_text name p) ≡ true
medium_stays name p e =
    stay_both name (codes " " ++ (size_text p ++ codes " 0 () ()")) e
    (stay_both (codes " ") (size_text p ++ codes " 0 () ()") refl (stay_both (size_text p) (codes " 0 () ()") (size_stays p) refl))

others_quiet : (ps : List Paper) → are_comments (map (λ r. medium_line (codes "%%+ ") (size_name r) r) ps) ≡ true
others_quiet [] = refl
others_quiet (r ∷ ps) =
    both_true (is_comment_line (medium_line (codes "%%+ ") (size_name r) r)) (are_comments (map (λ p. medium_line (codes "%%+ ") (size_name p) p) ps))
    (medium_stays (size_name r) r (name_stays r)) (others_quiet ps)

exact_quiet : (b : Bool) (p : Paper) (ls : List (List ℕ)) → are_comments ls ≡ true → are_comments ((if b then [] else exact_box_line p ∷ []) ++ ls) ≡ true
exact_quiet true p ls e = e
exact_quiet false p ls e = both_true (is_comment_line (exact_box_line p)) (are_comments ls) (size_stays p) e

header_after : (box : Paper) (name : List ℕ) (p : Paper) (ls : List (List ℕ)) → ends_nowhere name ≡ true → are_comments ls ≡ true
    → are_comments (box_lines box ++ medium_line (codes "%%DocumentMedia: ") name p ∷ ls) ≡ true
header_after box name p ls e f =
    both_true (is_comment_line (box_line (whole_paper box))) (are_comments (exact_box_lines box ++ medium_line (codes "%%DocumentMedia: ") name p ∷ ls)) (size_stays (whole_paper box))
    (exact_quiet (is_in_whole_points box) box (medium_line (codes "%%DocumentMedia: ") name p ∷ ls)
    (both_true (is_comment_line (medium_line (codes "%%DocumentMedia: ") name p)) (are_comments ls) (medium_stays name p e) f))

pub header_quiet : (told : List Paper) → are_comments (reporting_of told).header ≡ true
header_quiet [] = refl
header_quiet (p ∷ []) = header_after p (codes "Plain") p [] refl refl
header_quiet (p ∷ q ∷ ps) = header_after (fold smallest_cover p (q ∷ ps)) (size_name p) p (map (λ r. medium_line (codes "%%+ ") (size_name r) r) (q ∷ ps)) (name_stays p) (others_quiet (q ∷ ps))
