-- The tokens of what comes before a placed page.
use Rattle.std.specs.Prelude.{Option, Some, None, codes, pos, ◌-ℤ◌, option_map}
use Rattle.std.specs.Fmt.{digits}
use Rattle.std.proofs.Common.{◌≡◌, ℕ, refl, ap, ◌∙◌, subst, List, [], ◌∷◌, ◌++◌, append-nil, reverse}
use Rattle.rules.specs.Bytes.{line, line_feed, space}
use Rattle.rules.specs.Numbers.{points_text}
use Rattle.rules.specs.Papers.{Paper}
use Rattle.rules.specs.Specification.{Item}
use Rattle.rules.specs.Placement.{Matrix, matrix_of, matrix_text, spaced}
use Rattle.rules.specs.Output.{Border, Frame, edge_text, border_text, opening_text}
use Rattle.pictures.specs.Objects.{Token, Number, Name}
use Rattle.pictures.specs.Scanner.{Reading, Between, InWord, word, ended_token, after_tokens}
use Rattle.pictures.specs.Sheets.{BorderNumbers, Numbers, zero_text, saving_tokens, placing_tokens, border_tokens}
use Rattle.pictures.specs.Documents.{border_numbers, numbers_of, OpeningIsCut}
use Rattle.pictures.proofs.NumberTokens.{IsWord, Reads, reads_join, reads_word, word_is, onto, points_word, scale_word}

-- a text, a number, and a text that ends the number
pub add_number : (x number after_tokens : List ℕ) (ts us : List Token) (q : Reading) → Reads Between x ts Between → IsWord number
    → ((acc : List ℕ) → Reads (InWord acc) after_tokens (word (reverse acc) ∷ us) q) → Reads Between ((x ++ number) ++ after_tokens) (ts ++ (Number number ∷ us)) q
add_number x number after_tokens ts us q e w f =
    let start : Reads Between (x ++ number) ts (InWord (onto number [])) =
    subst (λ l. Reads Between (x ++ number) l (InWord (onto number []))) (append-nil ts) (reads_join Between Between (InWord (onto number [])) x number ts [] e (reads_word number w)) in
    reads_join Between (InWord (onto number [])) q (x ++ number) after_tokens ts (Number number ∷ us) start
    (f (onto number []) ∙ ap (λ t. (t ∷ us, q)) (word_is number w))

-- a text, two numbers with a space between them, and a text that ends the second number
add_point : (x a b after_tokens : List ℕ) (ts us : List Token) (q : Reading) → Reads Between x ts Between → IsWord a → IsWord b
    → ((acc : List ℕ) → Reads (InWord acc) after_tokens (word (reverse acc) ∷ us) q)
    → Reads Between ((x ++ ((a ++ codes " ") ++ b)) ++ after_tokens) ((ts ++ (Number a ∷ [])) ++ (Number b ∷ us)) q
add_point x a b after_tokens ts us q e wa wb f =
    let last : Reading = InWord (onto b []) in
    let first : Reads Between (a ++ codes " ") (Number a ∷ []) Between = add_number [] a (codes " ") [] [] Between refl wa (λ acc. refl) in
    let both : Reads Between ((a ++ codes " ") ++ b) (Number a ∷ []) last =
    reads_join Between Between last (a ++ codes " ") b (Number a ∷ []) [] first (reads_word b wb) in
    let start : Reads Between (x ++ ((a ++ codes " ") ++ b)) (ts ++ (Number a ∷ [])) last = reads_join Between Between last x ((a ++ codes " ") ++ b) ts (Number a ∷ []) e both in
    reads_join Between last q (x ++ ((a ++ codes " ") ++ b)) after_tokens (ts ++ (Number a ∷ [])) (Number b ∷ us) start
    (f (onto b []) ∙ ap (λ t. (t ∷ us, q)) (word_is b wb))

-- a path by any numbers
abbrev point_with : List ℕ → List ℕ → List ℕ
point_with x y = x ++ codes " " ++ y

abbrev path_with : List ℕ → List ℕ → List ℕ → List ℕ
path_with l r t =
    codes "newpath " ++ point_with l l ++ codes " moveto " ++ point_with r l ++ codes " lineto " ++ point_with r t ++ codes " lineto " ++ point_with l t
    ++ codes " lineto closepath"

abbrev path_before : List ℕ → List ℕ → List ℕ → List Token
path_before l r t =
    Name (codes "newpath") ∷ Number l ∷ Number l ∷ Name (codes "moveto")
    ∷ Number r ∷ Number l ∷ Name (codes "lineto")
    ∷ Number r ∷ Number t ∷ Name (codes "lineto")
    ∷ Number l ∷ Number t ∷ Name (codes "lineto") ∷ []

-- within its last word
path_read : (l r t : List ℕ) → IsWord l → IsWord r → IsWord t → Reads Between (path_with l r t) (path_before l r t) (InWord (reverse (codes "closepath")))
path_read l r t wl wr wt =
    let t0 : List Token = Name (codes "newpath") ∷ [] in
    let a0 : List ℕ = codes "newpath " in
    let t1 : List Token = t0 ++ (Number l ∷ Number l ∷ Name (codes "moveto") ∷ []) in
    let a1 : List ℕ = (a0 ++ point_with l l) ++ codes " moveto " in
    let t2 : List Token = t1 ++ (Number r ∷ Number l ∷ Name (codes "lineto") ∷ []) in
    let a2 : List ℕ = (a1 ++ point_with r l) ++ codes " lineto " in
    let t3 : List Token = t2 ++ (Number r ∷ Number t ∷ Name (codes "lineto") ∷ []) in
    let a3 : List ℕ = (a2 ++ point_with r t) ++ codes " lineto " in
    add_point a3 l t (codes " lineto closepath") t3 (Name (codes "lineto") ∷ []) (InWord (reverse (codes "closepath")))
    (add_point a2 r t (codes " lineto ") t2 (Name (codes "lineto") ∷ []) Between
    (add_point a1 r l (codes " lineto ") t1 (Name (codes "lineto") ∷ []) Between
    (add_point a0 l l (codes " moveto ") t0 (Name (codes "moveto") ∷ []) Between refl wl wl (λ acc. refl))
    wr wl (λ acc. refl)) wr wt (λ acc. refl)) wl wt (λ acc. refl)

pub spaced_read : (number rest : List ℕ) (ts : List Token) (q : Reading) → IsWord number → Reads Between rest ts q → Reads Between (number ++ space ∷ rest) (Number number ∷ ts) q
spaced_read number rest ts q w e =
    reads_join Between (InWord (onto number [])) q number (space ∷ rest) [] (Number number ∷ ts) (reads_word number w)
    (ap (after_tokens (word (reverse (onto number [])) ∷ [])) e ∙ ap (λ t. (t ∷ ts, q)) (word_is number w))

in_brackets : (a b c d x y : List ℕ) → IsWord a → IsWord b → IsWord c → IsWord d → IsWord x → IsWord y
    → Reads Between (line ((codes "[" ++ spaced (a ∷ b ∷ c ∷ d ∷ x ∷ y ∷ []) ++ codes "]") ++ codes " concat"))
    (Name (codes "[") ∷ Number a ∷ Number b ∷ Number c ∷ Number d ∷ Number x ∷ Number y ∷ Name (codes "]") ∷ Name (codes "concat") ∷ []) Between
in_brackets a b c d x y wa wb wc wd wx wy =
    let six : List ℕ = spaced (a ∷ b ∷ c ∷ d ∷ x ∷ y ∷ []) in
    let five : List Token = Number a ∷ Number b ∷ Number c ∷ Number d ∷ Number x ∷ [] in
    let q : Reading = InWord (onto y []) in
    let inside : Reads Between six five q =
    spaced_read a (spaced (b ∷ c ∷ d ∷ x ∷ y ∷ [])) (Number b ∷ Number c ∷ Number d ∷ Number x ∷ []) q wa
    (spaced_read b (spaced (c ∷ d ∷ x ∷ y ∷ [])) (Number c ∷ Number d ∷ Number x ∷ []) q wb
    (spaced_read c (spaced (d ∷ x ∷ y ∷ [])) (Number d ∷ Number x ∷ []) q wc
    (spaced_read d (spaced (x ∷ y ∷ [])) (Number x ∷ []) q wd
    (spaced_read x y [] q wx (reads_word y wy))))) in
    let begins : Reads Between (codes "[" ++ six) (Name (codes "[") ∷ five) q = reads_join Between Between q (codes "[") six (Name (codes "[") ∷ []) five refl inside in
    let closed : Reads Between ((codes "[" ++ six) ++ codes "]") ((Name (codes "[") ∷ five) ++ (Number y ∷ Name (codes "]") ∷ [])) Between =
    reads_join Between q Between (codes "[" ++ six) (codes "]") (Name (codes "[") ∷ five) (Number y ∷ Name (codes "]") ∷ []) begins
    (ap (λ t. (t ∷ Name (codes "]") ∷ [], Between)) (word_is y wy)) in
    reads_join Between (InWord (reverse (codes "concat"))) Between (((codes "[" ++ six) ++ codes "]") ++ codes " concat") (line_feed ∷ []) ((Name (codes "[") ∷ five) ++ (Number y ∷ Name (codes "]") ∷ [])) (Name (codes "concat") ∷ [])
    (reads_join Between Between (InWord (reverse (codes "concat"))) ((codes "[" ++ six) ++ codes "]") (codes " concat") ((Name (codes "[") ∷ five) ++ (Number y ∷ Name (codes "]") ∷ [])) [] closed refl)
    refl

clip_line : (l r t : List ℕ) → IsWord l → IsWord r → IsWord t
    → Reads Between (line (path_with l r t ++ codes " clip newpath")) (path_before l r t ++ (Name (codes "closepath") ∷ Name (codes "clip") ∷ Name (codes "newpath") ∷ [])) Between
clip_line l r t wl wr wt =
    let path : List ℕ = path_with l r t in
    let ts : List Token = path_before l r t in
    reads_join Between (InWord (reverse (codes "newpath"))) Between (path ++ codes " clip newpath") (line_feed ∷ []) (ts ++ (Name (codes "closepath") ∷ Name (codes "clip") ∷ [])) (Name (codes "newpath") ∷ [])
    (reads_join Between (InWord (reverse (codes "closepath"))) (InWord (reverse (codes "newpath"))) path (codes " clip newpath") ts (Name (codes "closepath") ∷ Name (codes "clip") ∷ []) (path_read l r t wl wr wt) refl)
    refl

-- no length is a single digit
no_length : points_text (pos 0) ≡ codes "0"
unfolding digits
no_length = refl

edge_line : (paper : Paper)
    → Reads Between (line (edge_text paper ++ codes " clip newpath")) (path_before zero_text (points_text paper.width) (points_text paper.height) ++ (Name (codes "closepath") ∷ Name (codes "clip") ∷ Name (codes "newpath") ∷ [])) Between
edge_line paper =
    subst (λ z. Reads Between (line (edge_text paper ++ codes " clip newpath")) (path_before z (points_text paper.width) (points_text paper.height) ++ (Name (codes "closepath") ∷ Name (codes "clip") ∷ Name (codes "newpath") ∷ [])) Between) no_length
    (clip_line (points_text (pos 0)) (points_text paper.width) (points_text paper.height) (points_word (pos 0)) (points_word paper.width) (points_word paper.height))

border_line : (b l r t : List ℕ) → IsWord b → IsWord l → IsWord r → IsWord t
    → Reads Between (line (codes "gsave " ++ b ++ codes " setlinewidth " ++ path_with l r t ++ codes " stroke grestore"))
    (Name (codes "gsave") ∷ Number b ∷ Name (codes "setlinewidth") ∷ (path_before l r t ++ (Name (codes "closepath") ∷ Name (codes "stroke") ∷ Name (codes "grestore") ∷ []))) Between
border_line b l r t wb wl wr wt =
    let start : List ℕ = (codes "gsave " ++ b) ++ codes " setlinewidth " in
    let path : List ℕ = path_with l r t in
    let before : List Token = path_before l r t in
    let ts : List Token = Name (codes "gsave") ∷ Number b ∷ Name (codes "setlinewidth") ∷ [] in
    let last : Reading = InWord (reverse (codes "grestore")) in
    reads_join Between last Between ((start ++ path) ++ codes " stroke grestore") (line_feed ∷ []) ((ts ++ before) ++ (Name (codes "closepath") ∷ Name (codes "stroke") ∷ [])) (Name (codes "grestore") ∷ [])
    (reads_join Between (InWord (reverse (codes "closepath"))) last (start ++ path) (codes " stroke grestore") (ts ++ before) (Name (codes "closepath") ∷ Name (codes "stroke") ∷ [])
    (reads_join Between Between (InWord (reverse (codes "closepath"))) start path ts before
    (add_number (codes "gsave ") b (codes " setlinewidth ") (Name (codes "gsave") ∷ []) (Name (codes "setlinewidth") ∷ []) Between refl wb (λ acc. refl))
    (path_read l r t wl wr wt))
    refl)
    refl

border_read : (paper : Paper) (border : Option Border) → Reads Between (border_text paper border) (border_tokens (option_map (border_numbers paper) border)) Between
border_read paper None = refl
border_read paper (Some b) =
    let n : BorderNumbers = border_numbers paper b in
    border_line n.wide n.low n.right n.top (points_word b.width) (points_word b.inset) (points_word (paper.width -ℤ b.inset)) (points_word (paper.height -ℤ b.inset))

pub opening_read : (frame : Frame) (item : Item) → Reads Between (opening_text frame item) (saving_tokens ++ placing_tokens (numbers_of frame item)) Between
opening_read frame item =
    let n : Numbers = numbers_of frame item in
    let m : Matrix = matrix_of frame.paper item in
    let first : List ℕ = line (codes "userdict /ImposeSave save put") ++ line (codes "userdict /showpage {} put") in
    let second : List ℕ = line (matrix_text m ++ codes " concat") in
    let third : List ℕ = line (edge_text frame.paper ++ codes " clip newpath") in
    let ts : List Token = Name (codes "[") ∷ Number n.a ∷ Number n.b ∷ Number n.c ∷ Number n.d ∷ Number n.x ∷ Number n.y ∷ Name (codes "]") ∷ Name (codes "concat") ∷ [] in
    let us : List Token = path_before zero_text n.width n.height ++ (Name (codes "closepath") ∷ Name (codes "clip") ∷ Name (codes "newpath") ∷ []) in
    reads_join Between Between Between ((first ++ second) ++ third) (border_text frame.paper frame.border) ((saving_tokens ++ ts) ++ us) (border_tokens n.border)
    (reads_join Between Between Between (first ++ second) third (saving_tokens ++ ts) us
    (reads_join Between Between Between first second saving_tokens ts refl
    (in_brackets n.a n.b n.c n.d n.x n.y (scale_word m.a) (scale_word m.b) (scale_word m.c) (scale_word m.d) (points_word m.tx) (points_word m.ty)))
    (edge_line frame.paper))
    (border_read frame.paper frame.border)

pub opening_is_cut : OpeningIsCut
opening_is_cut frame item =
    let e = opening_read frame item in
    (ap (λ x. x.0 ++ ended_token x.1) e ∙ append-nil (saving_tokens ++ placing_tokens (numbers_of frame item)), ap (λ x. x.1) e)
