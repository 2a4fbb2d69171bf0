use Rattle.std.proofs.Common.{◌∙◌, ◌+◌, ap, sym, drop, List}
use Rattle.rules.specs.Papers.{Paper}
use Rattle.papers.specs.Reported.{different_from}
use Rattle.dressing.specs.Sizes.{papers_of}
use Rattle.dressing.proofs.Turns.{paper_more}
use Rattle.dressing.proofs.reported.reported_papers.Goals as goal

pub loop-sheet-preserved : goal.loop-sheet-preserved
loop-sheet-preserved c =
    let all = papers_of c.args.sheets.now in
    record {
      rest = ap (λ (t : List Paper). different_from t (drop (c.loop-sheet.sheet + 1) all)) c.in_ok-add_paper.ensures.reported
          ∙ sym (paper_more all c.loop-sheet.reported.items c.loop-sheet.sheet c.paper.result.now c.paper.ensures)
          ∙ c.loop-sheet.invariant.rest;
      sizes = c.in_ok-add_paper.ensures.sizes;
    }
