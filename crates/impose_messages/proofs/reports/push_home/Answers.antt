use Rattle.std.proofs.Common.{◌++◌, ◌∙◌, List, ℕ, ap}
use Rattle.std.specs.Prelude.{codes}
use Rattle.std.proofs.lemmas.Result.{on_ok_weaker}
use Rattle.impose_messages.proofs.Pieces.{if_ok, two}
use Rattle.impose_messages.proofs.reports.push_home.Goals as goal

pub returns : goal.returns
returns c =
    on_ok_weaker c.extend_from_slice-2.result
    (λ last.
    two c.args.said.now.items (codes "PAPERSIZE names an unknown paper, ") c.args.name.now _ _ c.in_ok-extend_from_slice.ensures.items
    (last ∙ ap (λ (x : List ℕ). c.extend_from_slice.new.self.items ++ x) c.as_slice.ensures))
    (if_ok c.extend_from_slice-2.result _ _ _ c.extend_from_slice-2.ensures.items)
