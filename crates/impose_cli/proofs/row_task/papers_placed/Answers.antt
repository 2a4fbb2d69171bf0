use Rattle.std.proofs.Common.{◌≡◌, ◌∙◌, length, replicate, rules, subst, sym}
use Rattle.impose_cli.specs.RowTasks.{papers_to_place}
use Rattle.impose_cli.proofs.Rows.{all_alike}
use Rattle.impose_cli.proofs.row_task.papers_placed.Goals as goal

pub returns-in_ok-resize-in-Spec : goal.returns-in_ok-resize-in-Spec
returns-in_ok-resize-in-Spec c =
    let own = c.args.own.now in
    let alike : c.resize.new.self.items ≡ replicate (length own) c.args.one.now = search rules in
    subst (λ l. c.resize.new.self.items ≡ papers_to_place l c.args.one.now c.args.taken.now own) (sym c.in-Spec.is) (alike ∙ all_alike own c.args.one.now)
