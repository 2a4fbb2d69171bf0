use Rattle.std.proofs.Common.{rules, ◌≡◌, ◌∙◌, ap, [], ◌∷◌, ◌++◌, List, ℕ}
use Rattle.papers.specs.Reported.{box_line, whole_paper}
use Rattle.papers.proofs.Tame.{box}
use Rattle.dressing.proofs.Plain.{may_stand}
use Rattle.dressing.proofs.paper_lines.push_box.Goals as goal

pub push-requires : goal.push-requires
push-requires c = may_stand c.as_slice.result.now (box_line (whole_paper c.args.paper.now)) (search rules) (box (whole_paper c.args.paper.now)).whole

pub returns : goal.returns
returns c =
    let is : c.as_slice.result.now ≡ box_line (whole_paper c.args.paper.now) = search rules in
    c.in_ok-push.ensures.pushed ∙ ap (λ (l : List ℕ). c.args.lines.now ++ l ∷ []) is
