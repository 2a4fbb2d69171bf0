use Rattle.std.proofs.Common.{rules, arith, refl, ◌∙◌, ◌<◌, length}
use Rattle.sheet_writer.proofs.Fronts.{early_taken}
use Rattle.sheet_writer.proofs.Places.{lies_at, other_place}
use Rattle.sheet_writer.proofs.Marked.{later_as_before}
use Rattle.sheet_writer.proofs.reorder_buffer.ReorderBuffer.take_written.Goals as goal
use Rattle.sheet_writer.proofs.reorder_buffer.ReorderBuffer.take_written.Goals.{in-Some, in_default-2, in_default}

pub returns-clause-early : goal.returns-clause-early
returns-clause-early c = λ job early. early_taken job c.args.self.now.groups.items c.place_of-place.result _ c.take.ensures.after early

pub returns-clause-others : goal.returns-clause-others
returns-clause-others c = λ k other.
    let lt : c.place_of-place.result < length c.args.self.now.groups.items = search rules in
    other_place c.args.self.now.groups.items c.args.self.now.groups.items c.place_of-place.result k c.take.new.self refl (λ same. other (same ∙ c.place_of-place.ensures (omega (arith, lt))))

pub returns-clause-stays : goal.returns-clause-stays
returns-clause-stays c = λ later less.
    let lt : c.place_of-place.result < length c.args.self.now.groups.items = search rules in
    elim c.match-matches.branch [
      | in-Some w ↦ later_as_before c.args.self.now w.in-Some.finished c.place_of-place.result _ c.args.sheet later
          (lies_at c.args.self.now.groups.items c.place_of-place.result _ w.in-Some.finished lt c.index.ensures w.in-Some.is)
          c.take.ensures.after (search rules) less
      | in_default-2 w ↦ search rules
      | in_default w ↦ search rules
    ]
