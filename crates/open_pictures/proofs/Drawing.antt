-- Strokes are painted.
use Rattle.std.specs.Prelude.{Some, codes, flat_map}
use Rattle.std.proofs.Common.{◌≡◌, ℕ, ◌<◌, refl, sym, subst, false, List, [], ◌∷◌, ◌++◌, length, append_assoc, arith}
use Rattle.rules.specs.Numbers.{points_text}
use Rattle.dressing.specs.declared.strokes.Stroke.{Stroke}
use Rattle.pictures.specs.Objects.{Token, Name}
use Rattle.pictures.specs.Machine.{State, Segment, Painting, Runs}
use Rattle.pictures.specs.Sheets.{run_of}
use Rattle.pictures.proofs.Runs.{runs_none, runs_join}
use Rattle.pictures.proofs.Sheets.{fresh}
use Rattle.pictures.proofs.Straight.{Known, straight, straight_runs}
use Rattle.open_pictures.specs.Marks.{marking_names, inked, line_painted, stroke_painted, with_strokes}
use Rattle.open_pictures.proofs.LinesRead.{line_tokens, stroke_tokens, ink_tokens, mark_tokens}

-- while they are drawn: with this path, and with this painted so far
abbrev drawing : State → List Segment → List Painting → State
drawing s path ps = record s {
  graphics = record { chain = s.graphics.chain; path = path; clip = s.graphics.clip; settings = inked s.graphics.settings };
  stacked = s.graphics ∷ s.stacked;
  painted = ps;
}

begun_is : (s : State) → straight marking_names ink_tokens s ≡ Some (drawing s s.graphics.path s.painted)
begun_is s = refl

line_is : (a b c d : List ℕ) (s : State) (path : List Segment) (ps : List Painting)
    → straight marking_names (line_tokens a b c d) (drawing s path ps) ≡ Some (drawing s [] (line_painted s.graphics a b c d ∷ ps))
line_is a b c d s path ps = refl

strokes_run : (xs : List Stroke) (s : State) (path : List Segment) (ps : List Painting) (rest : List Token) → Known marking_names s.work
    → Runs false (run_of (flat_map stroke_tokens xs ++ (Name (codes "grestore") ∷ rest)) (drawing s path ps)) (run_of rest (record s { painted = with_strokes s.graphics xs ps }))
strokes_run [] s path ps rest k =
    straight_runs marking_names (Name (codes "grestore") ∷ []) rest (drawing s path ps) (record s { painted = ps }) k refl
strokes_run (x ∷ xs) s path ps rest k =
    let more : List Token = flat_map stroke_tokens xs ++ (Name (codes "grestore") ∷ rest) in
    let now : State = drawing s [] (stroke_painted s.graphics x ∷ ps) in
    let end : State = run_of rest (record s { painted = with_strokes s.graphics (x ∷ xs) ps }) in
    runs_join false (run_of (stroke_tokens x ++ more) (drawing s path ps)) (run_of more now) end
    (straight_runs marking_names (stroke_tokens x) more (drawing s path ps) now k
    (line_is (points_text x.start.0) (points_text x.start.1) (points_text x.end.0) (points_text x.end.1) s path ps))
    (strokes_run xs s [] (stroke_painted s.graphics x ∷ ps) rest k)

-- whatever is painted and printed before them
pub marks_run : (xs : List Stroke) (s : State) (ps : List Painting) (sheets : List (List Painting)) (rest : List Token) → (0 < length xs → Known marking_names s.work)
    → Runs false (fresh s (mark_tokens xs ++ rest) ps sheets) (fresh s rest (with_strokes s.graphics xs ps) sheets)
marks_run [] s ps sheets rest k = runs_none false (fresh s rest ps sheets)
marks_run (x ∷ xs) s ps sheets rest k =
    let t : State = record s { painted = ps; sheets = sheets } in
    let some : 0 < length (x ∷ xs) = omega arith in
    let all : List Token = flat_map stroke_tokens (x ∷ xs) in
    let tail : List Token = all ++ (Name (codes "grestore") ∷ rest) in
    let end : State = fresh s rest (with_strokes s.graphics (x ∷ xs) ps) sheets in
    subst (λ ts. Runs false (fresh s (ink_tokens ++ ts) ps sheets) end) (sym (append_assoc all (Name (codes "grestore") ∷ []) rest))
    (runs_join false (run_of (ink_tokens ++ tail) t) (run_of tail (drawing t t.graphics.path ps)) end
    (straight_runs marking_names ink_tokens tail t (drawing t t.graphics.path ps) (k some) (begun_is t))
    (strokes_run (x ∷ xs) t t.graphics.path ps rest (k some)))
