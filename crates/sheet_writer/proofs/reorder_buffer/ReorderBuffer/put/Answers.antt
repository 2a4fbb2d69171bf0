use Rattle.std.proofs.Common.{rules, arith, ap, sym, subst, length, ◌≡◌, ◌<◌, ◌∙◌}
use Rattle.std.specs.Prelude.{None, Some, slice_get, vec_len}
use Rattle.sheet_text.specs.Texts.{sheets_of}
use Rattle.sheet_writer.specs.Places.{buffer_place, last_entry}
use Rattle.sheet_writer.specs.Writing.{AreEarly}
use Rattle.sheet_writer.proofs.Fronts.{early_filled}
use Rattle.sheet_writer.proofs.Places.{free_place, filled_place, is_free, other_place, none_there}
use Rattle.sheet_writer.proofs.Marked.{have_come, come_as_before}
use Rattle.sheet_writer.proofs.reorder_buffer.ReorderBuffer.put.Goals as goal

pub index_mut-requires : goal.index_mut-requires
index_mut-requires c = let same = ap (λ v. vec_len v) c.mark_all.ensures.groups in omega (arith, same, c.if-group-len.false, c.len.ensures)

pub returns-clause-early : goal.returns-clause-early
returns-clause-early c = λ job have early.
    early_filled job _ c.place_of-group.result c.args.finished have (subst (λ v. AreEarly job v.items) (sym c.mark_all.ensures.groups) early)

pub returns-clause-put : goal.returns-clause-put
returns-clause-put c = λ free.
    let lt : c.place_of-group.result < length c.args.self.now.groups.items = search rules in
    let at : c.place_of-group.result ≡ buffer_place c.args.self.now (last_entry (sheets_of c.args.finished)) =
    c.place_of-group.ensures (omega (arith, lt)) ∙ ap (λ s. buffer_place c.args.self.now s) c.last.ensures in
    filled_place c.args.self.now (last_entry (sheets_of c.args.finished)) c.place_of-group.result c.args.finished (ap (λ v. v.items) c.mark_all.ensures.groups) at lt

pub returns-clause-others : goal.returns-clause-others
returns-clause-others c = λ k other.
    let lt : c.place_of-group.result < length c.args.self.now.groups.items = search rules in
    let at : c.place_of-group.result ≡ buffer_place c.args.self.now (last_entry (sheets_of c.args.finished)) =
    c.place_of-group.ensures (omega (arith, lt)) ∙ ap (λ s. buffer_place c.args.self.now s) c.last.ensures in
    other_place _ _ c.place_of-group.result k _ (ap (λ v. v.items) c.mark_all.ensures.groups) (λ same. other (same ∙ at))

pub returns-clause-came : goal.returns-clause-came
returns-clause-came c = λ free own.
    let lt : c.place_of-group.result < length c.args.self.now.groups.items = search rules in
    have_come c.args.self.now c.args.finished c.place_of-group.result _ _ (ap (λ v. v.items) c.mark_all.ensures.groups) lt (c.mark_all.ensures.marked (omega (arith, lt)) own)

pub returns-clause-elsewhere : goal.returns-clause-elsewhere
returns-clause-elsewhere c = λ sheet none.
    let lt : c.place_of-group.result < length c.args.self.now.groups.items = search rules in
    let free : slice_get c.args.self.now.groups.items c.place_of-group.result ≡ Some None =
    is_free c.args.self.now.groups.items c.place_of-group.result c.index.result.now lt c.index.ensures (sym c.is_some.ensures ∙ c.if-is_some.false) in
    come_as_before c.args.self.now c.args.finished c.place_of-group.result _ _ sheet (ap (λ v. v.items) c.mark_all.ensures.groups) free
    (c.mark_all.ensures.others (omega (arith, lt)) (buffer_place c.args.self.now sheet) none) none

pub returns-clause-dropped : goal.returns-clause-dropped
returns-clause-dropped c = λ other there.
    let lt : c.place_of-group.result < length c.args.self.now.groups.items = search rules in
    let at : c.place_of-group.result ≡ buffer_place c.args.self.now (last_entry (sheets_of c.args.finished)) =
    c.place_of-group.ensures (omega (arith, lt)) ∙ ap (λ s. buffer_place c.args.self.now s) c.last.ensures in
    absurd (none_there _ other (sym c.is_some.ensures ∙ c.if-is_some.false) (sym (free_place c.args.self.now _ _ _ at lt c.index.ensures) ∙ there))
