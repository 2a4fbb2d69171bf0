-- Texts that were appended part by part, as wholes.
use Rattle.std.proofs.Common.{◌≡◌, ℕ, List, [], ◌∷◌, ◌+◌, ◌≤◌, ◌++◌, refl, length, append_assoc}
use Rattle.std.specs.Prelude.{codes}
use Rattle.rules.specs.Placement.{spaced}
use Rattle.placement.proofs.Keeping.{fit_two, fit_three, fit_four, fit_five}

pub scales_joined :
    (o a b c d v1 v2 v3 : List ℕ) → v1 ≡ o ++ (codes "[" ++ a) → v2 ≡ v1 ++ (codes " " ++ b) → v3 ≡ v2 ++ (codes " " ++ c)
    → v3 ++ (codes " " ++ d) ≡ o ++ (codes "[" ++ a ++ codes " " ++ b ++ codes " " ++ c ++ codes " " ++ d)
scales_joined o a b c d v1 v2 v3 e1 e2 e3 = rw (e3, e2, e1) (simp append_assoc)

pub text_joined : (o text printed v1 : List ℕ) → v1 ≡ o ++ text → v1 ++ printed ≡ o ++ (text ++ printed)
text_joined o text printed v1 e1 = rw e1 (simp append_assoc)

pub matrix_joined :
    (o a b c d x y v1 v2 v3 : List ℕ) → v1 ≡ o ++ (codes "[" ++ a ++ codes " " ++ b ++ codes " " ++ c ++ codes " " ++ d) → v2 ≡ v1 ++ (codes " " ++ x)
    → v3 ≡ v2 ++ (codes " " ++ y)
    → v3 ++ codes "]" ≡ o ++ (codes "[" ++ spaced (a ∷ b ∷ c ∷ d ∷ x ∷ y ∷ []) ++ codes "]")
matrix_joined o a b c d x y v1 v2 v3 e1 e2 e3 = rw (e3, e2, e1) (simp append_assoc)

pub corner_joined : (o text x y v1 : List ℕ) → v1 ≡ o ++ (text ++ x) → v1 ++ (codes " " ++ y) ≡ o ++ (text ++ (x ++ codes " " ++ y))
corner_joined o text x y v1 e1 = rw e1 (simp append_assoc)

pub corner_fits : (text x y : List ℕ) → length (text ++ x) ≤ length (text ++ (x ++ codes " " ++ y))
corner_fits text x y = fit_two _ (text ++ x) (codes " " ++ y) (corner_joined [] text x y (text ++ x) refl)

pub path_joined :
    (o a b c d v1 v2 v3 v4 : List ℕ) → v1 ≡ o ++ (codes "newpath " ++ a) → v2 ≡ v1 ++ (codes " moveto " ++ b) → v3 ≡ v2 ++ (codes " lineto " ++ c)
    → v4 ≡ v3 ++ (codes " lineto " ++ d)
    → v4 ++ codes " lineto closepath"
    ≡ o ++ (codes "newpath " ++ a ++ codes " moveto " ++ b ++ codes " lineto " ++ c ++ codes " lineto " ++ d ++ codes " lineto closepath")
path_joined o a b c d v1 v2 v3 v4 e1 e2 e3 e4 = rw (e4, e3, e2, e1) (simp append_assoc)

pub path_fits :
    (a b c d : List ℕ)
    → let all : List ℕ = codes "newpath " ++ a ++ codes " moveto " ++ b ++ codes " lineto " ++ c ++ codes " lineto " ++ d ++ codes " lineto closepath" in
    let one : List ℕ = codes "newpath " ++ a in
    let two : List ℕ = codes " moveto " ++ b in
    let three : List ℕ = codes " lineto " ++ c in
    let four : List ℕ = codes " lineto " ++ d in
    (length one ≤ length all) × (length one + length two ≤ length all) × ((length one + length two) + length three ≤ length all)
    × (((length one + length two) + length three) + length four ≤ length all)
path_fits a b c d =
    let one : List ℕ = codes "newpath " ++ a in
    let two : List ℕ = codes " moveto " ++ b in
    let three : List ℕ = codes " lineto " ++ c in
    let four : List ℕ = codes " lineto " ++ d in
    fit_five _ one two three four (codes " lineto closepath")
    (path_joined [] a b c d one (one ++ two) ((one ++ two) ++ three) (((one ++ two) ++ three) ++ four) refl refl refl refl)

pub border_joined :
    (o width edge v1 v2 v3 : List ℕ) → v1 ≡ o ++ (codes "gsave " ++ width) → v2 ≡ v1 ++ codes " setlinewidth " → v3 ≡ v2 ++ edge
    → v3 ++ codes " stroke grestore\n" ≡ o ++ ((codes "gsave " ++ width ++ codes " setlinewidth " ++ edge ++ codes " stroke grestore") ++ 10 ∷ [])
border_joined o width edge v1 v2 v3 e1 e2 e3 = rw (e3, e2, e1) (simp append_assoc)

pub placing_joined :
    (o matrix v1 v2 : List ℕ) → v1 ≡ o ++ codes "userdict /ImposeSave save put\nuserdict /showpage {} put\n" → v2 ≡ v1 ++ matrix
    → v2 ++ codes " concat\n"
    ≡ o ++ ((codes "userdict /ImposeSave save put" ++ 10 ∷ []) ++ (codes "userdict /showpage {} put" ++ 10 ∷ []) ++ ((matrix ++ codes " concat") ++ 10 ∷ []))
placing_joined o matrix v1 v2 e1 e2 = rw (e2, e1) (simp append_assoc)

pub opening_joined :
    (o placing edge border v1 v2 v3 : List ℕ) → v1 ≡ o ++ placing → v2 ≡ v1 ++ edge → v3 ≡ v2 ++ codes " clip newpath\n"
    → v3 ++ border ≡ o ++ (placing ++ ((edge ++ codes " clip newpath") ++ 10 ∷ []) ++ border)
opening_joined o placing edge border v1 v2 v3 e1 e2 e3 = rw (e3, e2, e1) (simp append_assoc)

-- ---- each part of a text but the last is no longer than the text
pub text_fits : (text printed : List ℕ) → length text ≤ length (text ++ printed)
text_fits text printed = fit_two _ text printed refl

pub scales_fits :
    (a b c d : List ℕ) → let all : List ℕ = codes "[" ++ a ++ codes " " ++ b ++ codes " " ++ c ++ codes " " ++ d in
    (length (codes "[" ++ a) ≤ length all) × (length (codes "[" ++ a) + length (codes " " ++ b) ≤ length all)
    × ((length (codes "[" ++ a) + length (codes " " ++ b)) + length (codes " " ++ c) ≤ length all)
scales_fits a b c d =
    let one : List ℕ = codes "[" ++ a in
    let two : List ℕ = codes " " ++ b in
    let three : List ℕ = codes " " ++ c in
    fit_four _ one two three (codes " " ++ d) (scales_joined [] a b c d one (one ++ two) ((one ++ two) ++ three) refl refl refl)

pub matrix_fits :
    (a b c d x y : List ℕ) → let all : List ℕ = codes "[" ++ spaced (a ∷ b ∷ c ∷ d ∷ x ∷ y ∷ []) ++ codes "]" in
    let scales : List ℕ = codes "[" ++ a ++ codes " " ++ b ++ codes " " ++ c ++ codes " " ++ d in
    (length scales ≤ length all) × (length scales + length (codes " " ++ x) ≤ length all)
    × ((length scales + length (codes " " ++ x)) + length (codes " " ++ y) ≤ length all)
matrix_fits a b c d x y =
    let scales : List ℕ = codes "[" ++ a ++ codes " " ++ b ++ codes " " ++ c ++ codes " " ++ d in
    fit_four _ scales (codes " " ++ x) (codes " " ++ y) (codes "]")
    (matrix_joined [] a b c d x y scales (scales ++ (codes " " ++ x)) ((scales ++ (codes " " ++ x)) ++ (codes " " ++ y)) refl refl refl)

pub border_fits :
    (width edge : List ℕ)
    → let all : List ℕ = (codes "gsave " ++ width ++ codes " setlinewidth " ++ edge ++ codes " stroke grestore") ++ 10 ∷ [] in
    (length (codes "gsave " ++ width) ≤ length all) × (length (codes "gsave " ++ width) + length (codes " setlinewidth ") ≤ length all)
    × ((length (codes "gsave " ++ width) + length (codes " setlinewidth ")) + length edge ≤ length all)
border_fits width edge =
    let one : List ℕ = codes "gsave " ++ width in
    let two : List ℕ = codes " setlinewidth " in
    fit_four _ one two edge (codes " stroke grestore\n") (border_joined [] width edge one (one ++ two) ((one ++ two) ++ edge) refl refl refl)

pub placing_fits :
    (matrix placed : List ℕ) → matrix ≡ placed → let first : List ℕ = codes "userdict /ImposeSave save put\nuserdict /showpage {} put\n" in
    let all : List ℕ =
    (codes "userdict /ImposeSave save put" ++ 10 ∷ []) ++ (codes "userdict /showpage {} put" ++ 10 ∷ []) ++ ((placed ++ codes " concat") ++ 10 ∷ []) in
    (length first ≤ length all) × (length first + length matrix ≤ length all)
placing_fits matrix placed is =
    let first : List ℕ = codes "userdict /ImposeSave save put\nuserdict /showpage {} put\n" in
    rw is (fit_three _ first placed (codes " concat\n") (placing_joined [] placed first (first ++ placed) refl refl))

pub opening_fits :
    (placing edge border : List ℕ) → let all : List ℕ = placing ++ ((edge ++ codes " clip newpath") ++ 10 ∷ []) ++ border in
    (length placing ≤ length all) × (length placing + length edge ≤ length all)
    × ((length placing + length edge) + length (codes " clip newpath\n") ≤ length all)
opening_fits placing edge border =
    let clip : List ℕ = codes " clip newpath\n" in
    fit_four _ placing edge clip border (opening_joined [] placing edge border placing (placing ++ edge) ((placing ++ edge) ++ clip) refl refl refl)
