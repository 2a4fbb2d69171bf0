use Rattle.std.proofs.Common.{◌∙◌, ap}
use Rattle.rules.specs.Parts.{bytes_of}
use Rattle.papers.specs.Reach.{page_boxes}
use Rattle.impose_cli.specs.Reaches.{reach_on}
use Rattle.impose_cli.specs.RowTasks.{has_cuts_apart}
use Rattle.impose_cli.proofs.ReachingTaken.{own_are_told}
use Rattle.impose_cli.proofs.row_task.cut_and_reach.Goals as goal

pub returns-in_ok-reach_of_row-in-None-clause-reach : goal.returns-in_ok-reach_of_row-in-None-clause-reach
returns-in_ok-reach_of_row-in-None-clause-reach c =
    let us = c.args.document.now in
    let apart = has_cuts_apart c.args.request.now.layout in
    rw c.has_cuts_apart-cut_apart.ensures at c.in_ok-reach_of_row-in-None.ensures
    ∙ ap (λ own. reach_on apart c.args.row.now c.args.placed.now own (page_boxes (bytes_of us) us)) (own_are_told c.args.request.now (bytes_of us) us c.args.own.now c.in-None.is c.requires)
