use Rattle.std.proofs.Common.{◌∙◌, false}
use Rattle.std.specs.Prelude.{get_or}
use Rattle.rules.specs.Parts.{bytes_of}
use Rattle.papers.specs.Reach.{page_boxes}
use Rattle.impose_cli.specs.Taken.{takes}
use Rattle.impose_cli.proofs.ReachingTaken.{same_reach}
use Rattle.impose_cli.proofs.reach.reach_of_row.Goals as goal

pub returns : goal.returns
returns c =
    rw c.as_slice.ensures.value at c.reach_beyond.ensures
    ∙ same_reach (λ n. get_or c.in_ok-taken.taken.items n false) (takes c.args.row.now) c.args.own.now (page_boxes (bytes_of c.args.document.now) c.args.document.now) c.args.cut_apart c.args.papers.now c.in_ok-taken.ensures.each
