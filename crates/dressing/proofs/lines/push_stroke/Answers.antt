use Rattle.std.proofs.Common.{◌≡◌, ◌∙◌, ap, [], ◌∷◌, ◌++◌, List, ℕ, codes}
use Rattle.sheet_text.specs.PageNumbers.{number_point_text}
use Rattle.dressing.specs.Drawn.{stroke_line}
use Rattle.dressing.proofs.Joined.{joined}
use Rattle.dressing.proofs.Plain.{may_stand}
use Rattle.dressing.proofs.Tame.{stroke}
use Rattle.dressing.proofs.lines.push_stroke.Goals as goal

pub push-requires : goal.push-requires
push-requires c =
    let s = c.args.stroke.now in
    may_stand c.as_slice.result.now (stroke_line s)
    (c.as_slice.ensures.value
    ∙ joined (codes "newpath ") (number_point_text s.start.0 s.start.1) (codes " moveto ") (number_point_text s.end.0 s.end.1) (codes " lineto stroke") _ _ _ _ _
    (c.in_ok-extend_from_slice.ensures.items ∙ ap (λ (t : List ℕ). t ++ codes "newpath ") c.new-line.ensures.items) c.in_ok-append_point.ensures c.in_ok-extend_from_slice-2.ensures.items c.in_ok-append_point-2.ensures
    c.in_ok-extend_from_slice-3.ensures.items)
    (stroke s).whole

pub returns : goal.returns
returns c =
    let s = c.args.stroke.now in
    let is : c.as_slice.result.now ≡ stroke_line s =
    c.as_slice.ensures.value
    ∙ joined (codes "newpath ") (number_point_text s.start.0 s.start.1) (codes " moveto ") (number_point_text s.end.0 s.end.1) (codes " lineto stroke") _ _ _ _ _
    (c.in_ok-extend_from_slice.ensures.items ∙ ap (λ (t : List ℕ). t ++ codes "newpath ") c.new-line.ensures.items) c.in_ok-append_point.ensures c.in_ok-extend_from_slice-2.ensures.items c.in_ok-append_point-2.ensures
    c.in_ok-extend_from_slice-3.ensures.items in
    c.in_ok-push.ensures.pushed ∙ ap (λ (l : List ℕ). c.args.lines.now ++ l ∷ []) is
