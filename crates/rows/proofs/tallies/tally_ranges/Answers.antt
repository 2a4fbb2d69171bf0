use Rattle.std.proofs.Common.{rules, ◌∙◌, ap, sym, length}
use Rattle.rules.specs.Choice.{most_entries}
use Rattle.rows.proofs.Walked.{tally_left, tally_step}
use Rattle.rows.proofs.tallies.tally_ranges.Goals as goal

pub loop-left-preserved : goal.loop-left-preserved
loop-left-preserved c =
    let n = length c.args.text.now in
    record {
      rest =
          tally_step most_entries c.args.pages n c.in-Some.rest.now c.split_at_byte.result.0.now c.split_at_byte.result.1 c.in-Some-read_range.range c.loop-left.tally c.with_range-tally.result c.split_at_byte.ensures.parts c.split_at_byte.ensures.whole
          (search rules) (sym c.in-Some-read_range.is ∙ c.read_range.ensures) c.with_range-tally.ensures.value
          ∙ ap (λ left. tally_left most_entries c.args.pages n left c.loop-left.tally) (sym c.in-Some.is)
          ∙ c.loop-left.invariant.rest;
      within = search rules;
      few = c.with_range-tally.ensures.few;
    }
