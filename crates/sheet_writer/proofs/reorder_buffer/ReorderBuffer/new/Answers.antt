use Rattle.std.proofs.Common.{rules}
use Rattle.sheet_writer.proofs.Fronts.{none_pushed}
use Rattle.sheet_writer.proofs.Places.{all_are_free}
use Rattle.sheet_writer.proofs.reorder_buffer.ReorderBuffer.new.Goals as goal

pub loop-preserved : goal.loop-preserved
loop-preserved c = record {
  places = search rules;
  groups = search rules;
  places_room = search rules;
  groups_room = search rules;
  none = search (rules, none_pushed);
}

pub returns-clause-early : goal.returns-clause-early
returns-clause-early c = λ job k m at. absurd (c.loop.invariant.none k m at)

pub returns-clause-free : goal.returns-clause-free
returns-clause-free c = all_are_free c.loop.groups.items c.loop.invariant.none
