-- The lines that draw marks and numbers belong to no page's head.
use Rattle.std.specs.Prelude.{codes, flat_map, map, false, None, Option, Some}
use Rattle.std.proofs.Common.{◌≡◌, ◌∙◌, ◌≤◌, ℕ, List, [], ◌∷◌, ◌++◌, length, refl, sym, ap, subst, append_assoc}
use Rattle.rules.specs.Bytes.{line}
use Rattle.rules.specs.Papers.{Paper}
use Rattle.rules.specs.Run.{most_input_bytes}
use Rattle.rules.specs.Units.{content_of}
use Rattle.dsc.specs.Units.{units_of}
use Rattle.rules.specs.Dress.{lines_text, undressed}
use Rattle.rules.specs.Made.{Blank, MadeSlot, Placed}
use Rattle.rules.specs.MadeOutput.{made_output}
use Rattle.sheet_plan.specs.OfSheets.{slots_at}
use Rattle.sheet_text.specs.PageNumbers.{number_line, slot_lines}
use Rattle.sheet_text.specs.declared.numbers.Numbers.{Numbers}
use Rattle.imposed_again.specs.MadeAgain.{AreTame, IsTameDress}
use Rattle.papers.specs.Comments.{is_in_head}
use Rattle.papers.specs.Found.{AreQuiet, as_printed}
use Rattle.papers.specs.Own.{papers_of_each_page}
use Rattle.papers.specs.Reported.{papers_reported, reporting_of}
use Rattle.papers.proofs.Found.{papers_are_found}
use Rattle.papers.proofs.OutputHeads.{content_is}
use Rattle.dressing.specs.Numbered.{Drawn, drawn_on}
use Rattle.dressing.specs.Quiet.{DrawnAreFound, DrawnIsQuiet, drawing_lines}
use Rattle.dressing.specs.declared.strokes.Stroke.{Stroke}
use Rattle.dressing.proofs.Tame.{drawn_is_tame, number}

abbrev drawn_by : List Stroke → Option Numbers → Drawn
drawn_by strokes numbers = record { strokes = strokes; numbers = numbers }

same_dress : (strokes : List Stroke) (numbers : Option Numbers) (reported : List Paper)
    → drawn_on (drawn_by strokes numbers) (reporting_of reported)
    ≡ record { header = (reporting_of reported).header; start = (reporting_of reported).start; finish = drawing_lines (drawn_by strokes numbers) }
same_dress strokes None [] = refl
same_dress strokes None (p ∷ []) = refl
same_dress strokes None (p ∷ q ∷ reported) = refl
same_dress strokes (Some n) [] = refl
same_dress strokes (Some n) (p ∷ []) = refl
same_dress strokes (Some n) (p ∷ q ∷ reported) = refl

-- what follows the lines of a sheet
abbrev closed : List (List ℕ) → List ℕ
closed lines = lines_text lines ++ line (codes "showpage")

no_number_in_head : (n : Numbers) (slots : List MadeSlot) → is_in_head (content_of (closed (flat_map (slot_lines n) slots))) ≡ false
no_number_in_head n [] = refl
no_number_in_head n (Blank ∷ slots) = no_number_in_head n slots
no_number_in_head n (Placed place item paper ∷ slots) =
    let text = number_line n place item paper in
    let more = flat_map (slot_lines n) slots in
    ap (λ t. is_in_head (content_of t)) (append_assoc (line text) (lines_text more) (line (codes "showpage")))
    ∙ ap is_in_head (content_is text (closed more) (number n place item paper).whole)

no_head : (strokes : List Stroke) (numbers : Option Numbers) (s : ℕ) (paper : Paper) → is_in_head (content_of (closed (drawing_lines (drawn_by strokes numbers) s paper))) ≡ false
no_head [] None s paper = refl
no_head (x ∷ strokes) None s paper = refl
no_head [] (Some n) s paper = no_number_in_head n (slots_at n.places s)
no_head (x ∷ strokes) (Some n) s paper = refl

plain : IsTameDress undressed
plain = record { header = tt; start = λ s paper. tt; finish = λ s paper. tt }

tame_lines : (strokes : List Stroke) (numbers : Option Numbers) (s : ℕ) (paper : Paper) → AreTame (drawing_lines (drawn_by strokes numbers) s paper)
tame_lines strokes None s paper = (drawn_is_tame (drawn_by strokes None) undressed plain).finish s paper
tame_lines strokes (Some n) s paper = (drawn_is_tame (drawn_by strokes (Some n)) undressed plain).finish s paper

quiet : (drawn : Drawn) → AreQuiet (drawing_lines drawn)
quiet drawn = record { tame = tame_lines drawn.strokes drawn.numbers; no_head = no_head drawn.strokes drawn.numbers }

pub drawn_is_quiet : DrawnIsQuiet
drawn_is_quiet drawn all = (same_dress drawn.strokes drawn.numbers (papers_reported (map (λ sheet. sheet.paper) all)), quiet drawn)

pub drawn_are_found : DrawnAreFound
drawn_are_found named home border drawn all text us tellable d shut some few =
    let q = drawn_is_quiet drawn all in
    subst (λ dress. length (made_output border dress all us) ≤ most_input_bytes
    → papers_of_each_page None named home (made_output border dress all us) (units_of (made_output border dress all us)) ≡ map (λ sheet. as_printed sheet.paper) all)
    (sym q.0) (papers_are_found named home border (drawing_lines drawn) all text us tellable q.1 d shut some few)
