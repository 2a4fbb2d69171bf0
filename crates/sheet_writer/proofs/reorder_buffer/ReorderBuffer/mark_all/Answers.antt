use Rattle.std.proofs.Common.{arith, ap, refl, subst, sym, length, ◌≡◌, ◌<◌, ◌∙◌, ◌%◌}
use Rattle.sheet_text.specs.Texts.{sheets_of}
use Rattle.sheet_writer.specs.Places.{buffer_place}
use Rattle.sheet_writer.proofs.Marked.{marked_more, not_its_place}
use Rattle.sheet_writer.proofs.reorder_buffer.ReorderBuffer.mark_all.Goals as goal

pub loop-nth-init : goal.loop-nth-init
loop-nth-init c = record {
  groups = refl;
  count = refl;
  marked = λ some own k less. absurd (omega (arith, less));
  others = λ some k none. refl;
}

pub loop-nth-preserved : goal.loop-nth-preserved
loop-nth-preserved c =
    let i = c.loop-nth.invariant in
    let sheet = c.sheet.result in
    let place : buffer_place c.loop-nth.self sheet ≡ buffer_place c.args.self.now sheet = ap (λ v. sheet % length v.items) i.groups in
    let now : 0 < length c.args.self.now.groups.items → 0 < length c.loop-nth.self.groups.items =
    λ some. subst (λ v. 0 < length v.items) (sym i.groups) some in
    record {
      groups = c.mark.ensures.groups ∙ i.groups;
      count = c.mark.ensures.count ∙ i.count;
      marked = λ some. marked_more c.args.self.now (sheets_of c.args.finished.now) c.args.group c.loop-nth.nth sheet (buffer_place c.loop-nth.self sheet)
          c.loop-nth.self.places.items c.mark.new.self.places.items c.sheet.ensures place
          (λ within. c.mark.ensures.marked (omega (arith, within, i.count)) (now some))
          (λ k other. c.mark.ensures.others k other (now some)) (i.marked some);
      others = λ some k none.
          c.mark.ensures.others k (not_its_place c.args.self.now (sheets_of c.args.finished.now) c.loop-nth.nth sheet (buffer_place c.loop-nth.self sheet) k c.sheet.ensures place none) (now some)
          ∙ i.others some k none;
    }
