use Rattle.std.proofs.Common.{rules, ◌≡◌, ◌∙◌, ap, [], ◌∷◌, ◌++◌, List, ℕ, codes}
use Rattle.papers.specs.Reported.{medium_line, size_name}
use Rattle.papers.proofs.Tame.{one_more}
use Rattle.dressing.proofs.Plain.{may_stand}
use Rattle.dressing.proofs.paper_lines.push_continued.Goals as goal

pub push-requires : goal.push-requires
push-requires c = may_stand c.as_slice.result.now (medium_line (codes "%%+ ") (size_name c.args.paper.now) c.args.paper.now) (search rules) (one_more c.args.paper.now).whole

pub returns : goal.returns
returns c =
    let is : c.as_slice.result.now ≡ medium_line (codes "%%+ ") (size_name c.args.paper.now) c.args.paper.now = search rules in
    c.in_ok-push.ensures.pushed ∙ ap (λ (l : List ℕ). c.args.lines.now ++ l ∷ []) is
