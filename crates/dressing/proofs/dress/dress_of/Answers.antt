use Rattle.std.proofs.Common.{◌∙◌, ap, List}
use Rattle.rules.specs.Papers.{Paper}
use Rattle.papers.specs.Reported.{reporting_of}
use Rattle.dressing.specs.Numbered.{drawn_on}
use Rattle.dressing.proofs.Given.{drawn}
use Rattle.dressing.proofs.dress.dress_of.Goals as goal

pub returns : goal.returns
returns c =
    drawn c.as_slice-papers.result.now c.args.strokes.now c.args.numbers c.in_ok-header_lines.field-0 c.in_ok-mark_lines.field-0 c.in_ok-header_lines.ensures c.in_ok-mark_lines.ensures
    ∙ ap (λ (ps : List Paper). drawn_on (record { strokes = c.args.strokes.now; numbers = c.args.numbers }) (reporting_of ps)) (c.as_slice-papers.ensures.value ∙ c.in_ok-reported.ensures)
