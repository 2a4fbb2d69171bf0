use Rattle.std.proofs.Common.{rules}
use Rattle.std.specs.Prelude.{codes}
use Rattle.std.proofs.lemmas.Result.{on_ok_weaker}
use Rattle.rules.specs.Numbers.{scale_text}
use Rattle.impose_messages.proofs.Pieces.{four}
use Rattle.impose_messages.proofs.reports.push_range.Goals as goal

pub returns-in_ok-extend_from_slice-2 : goal.returns-in_ok-extend_from_slice-2
returns-in_ok-extend_from_slice-2 c =
    on_ok_weaker c.print_scale-then-ne.result
    (λ last. search (
      rules,
      four c.args.said.now.items (codes "; scales from ") (scale_text c.args.least) (codes " to ") (scale_text c.args.greatest) _ _ _ _
          c.in_ok-extend_from_slice.ensures.items c.in_ok-print_scale.ensures.appended c.in_ok-extend_from_slice-2.ensures.items last,
    ))
    c.print_scale-then-ne.ensures.appended
