-- What is made of papers: the lines of a header, and the dress.
use Rattle.std.proofs.Common.{ℕ, append_assoc, sym, ◌≡◌, ◌∙◌, refl, ap, arith, [], ◌∷◌, ◌++◌, List, length, codes, Bool, true, false}
use Rattle.std.specs.Prelude.{if◌then◌else◌, nat_lt, Option, Some, None}
use Rattle.std.proofs.lemmas.Bool.{lt-ltb}
use Rattle.rules.specs.Papers.{Paper}
use Rattle.rules.specs.Dress.{Dress}
use Rattle.papers.specs.Reported.{box_line, box_lines, exact_box_line, is_in_whole_points, whole_paper, medium_line, size_name, reporting_of}
use Rattle.sheet_text.specs.Dressings.{report_lines_if, with_numbers}
use Rattle.sheet_text.specs.declared.numbers.Numbers.{Numbers}
use Rattle.dressing.specs.Drawn.{mark_lines}
use Rattle.dressing.specs.Numbered.{NoMarksAddNothing, drawn_on}
use Rattle.dressing.specs.declared.strokes.Stroke.{Stroke}

-- a medium after the first
abbrev pub other_medium : Paper → List ℕ
other_medium r = medium_line (codes "%%+ ") (size_name r) r

-- the box, and after it the exact one
pub both_boxes : (p : Paper) (old mid new : List (List ℕ)) → mid ≡ old ++ box_line (whole_paper p) ∷ [] → is_in_whole_points p ≡ false → new ≡ mid ++ exact_box_line p ∷ []
    → new ≡ old ++ box_lines p
both_boxes p old mid new first isnt e =
    e ∙ ap (λ (t : List (List ℕ)). t ++ exact_box_line p ∷ []) first ∙ append_assoc old (box_line (whole_paper p) ∷ []) (exact_box_line p ∷ [])
    ∙ ap (λ b. old ++ box_line (whole_paper p) ∷ (if b then [] else exact_box_line p ∷ [])) (sym isnt)

-- a dress of these parts
abbrev pub kept : (header : List (List ℕ)) (tells : Bool) (finish : List (List ℕ)) → Option Numbers → Dress
kept header tells finish numbers = record {
  header = header;
  start = λ s paper. report_lines_if tells paper;
  finish = λ s paper. with_numbers numbers finish s;
}

-- more than one
abbrev several : List Paper → Bool
several [] = false
several (p ∷ []) = false
several (p ∷ q ∷ ps) = true

are_several : (reported : List Paper) → nat_lt 1 (length reported) ≡ several reported
are_several [] = refl
are_several (p ∷ []) = refl
are_several (p ∷ q ∷ ps) = lt-ltb 1 (length (p ∷ q ∷ ps)) (omega arith)

-- with what is drawn
dressed : (reported : List Paper) (strokes : List Stroke) (numbers : Option Numbers)
    → kept (reporting_of reported).header (several reported) (mark_lines strokes) numbers ≡ drawn_on (record { strokes = strokes; numbers = numbers }) (reporting_of reported)
dressed [] strokes None = refl
dressed [] strokes (Some n) = refl
dressed (p ∷ []) strokes None = refl
dressed (p ∷ []) strokes (Some n) = refl
dressed (p ∷ q ∷ ps) strokes None = refl
dressed (p ∷ q ∷ ps) strokes (Some n) = refl

pub drawn : (reported : List Paper) (strokes : List Stroke) (numbers : Option Numbers) (header finish : List (List ℕ)) → header ≡ (reporting_of reported).header → finish ≡ mark_lines strokes
    → kept header (nat_lt 1 (length reported)) finish numbers ≡ drawn_on (record { strokes = strokes; numbers = numbers }) (reporting_of reported)
drawn reported strokes numbers header finish is_header is_finish =
    ap (λ (h : List (List ℕ)). kept h (nat_lt 1 (length reported)) finish numbers) is_header
    ∙ ap (λ (b : Bool). kept (reporting_of reported).header b finish numbers) (are_several reported)
    ∙ ap (λ (f : List (List ℕ)). kept (reporting_of reported).header (several reported) f numbers) is_finish
    ∙ dressed reported strokes numbers

pub no_marks_add_nothing : NoMarksAddNothing
no_marks_add_nothing [] = refl
no_marks_add_nothing (p ∷ []) = refl
no_marks_add_nothing (p ∷ q ∷ ps) = refl
