use Rattle.std.proofs.Common.{arith, rules, ◌≡◌, ◌++◌, ◌∷◌, [], ◌∙◌, length, ap, subst}
use Rattle.sheet_plan.specs.OfSheets.{slot_of}
use Rattle.rules.specs.Signatures.{entry_of}
use Rattle.row_sheets.specs.Schemes.{CellFits, EntryFitsBy, slot_by}
use Rattle.row_sheets.specs.Shapes.{filling, entry_in_cell}
use Rattle.row_sheets.proofs.Before.{cell_before, cells_shaped}
use Rattle.row_sheets.proofs.Filling.{one_more, pushed}
use Rattle.row_sheets.proofs.fill.RowFilling.fill_slots.Goals as goal

pub placed_before-before-requires-clause-cell : goal.placed_before-before-requires-clause-cell
placed_before-before-requires-clause-cell c = λ earlier less.
    let f = filling c.args.self.now.setting.now c.args.self.now.papers.now in
    let count = cells_shaped c.args.shape f c.args.self.now.row.now c.args.made.now (length c.args.made.now) earlier c.requires.made (omega (arith, less, c.len-s.ensures)) in
    omega (arith, count, c.loop-c-test.true)

pub slot-requires-clause-before : goal.slot-requires-clause-before
slot-requires-clause-before c =
    let f = filling c.args.self.now.setting.now c.args.self.now.papers.now in
    cell_before c.args.shape f c.args.self.now.row.now c.args.made.now (length c.args.made.now) c.len-s.result c.loop-c.c c.placed_before-before.result c.requires.made c.requires.fits c.len-s.ensures c.loop-c-test.true c.placed_before-before.ensures

pub loop-c-preserved : goal.loop-c-preserved
loop-c-preserved c =
    let h = c.args.shape in
    let t = c.args.self.now.setting.now in
    let f = filling t c.args.self.now.papers.now in
    let row = c.args.self.now.row.now in
    let s = length c.args.made.now in
    let k = c.loop-c.c in
    let entry = c.entry_at-entry.result in
    let at = c.entry_at-entry.ensures ∙ (ap (entry_of row) c.place.ensures ∙ ap (λ n. entry_in_cell h t row n k) c.len-s.ensures) in
    let pushed_on : c.push.new.self.items ≡ c.loop-c.slots.items ++ c.in_ok-slot.slot ∷ [] = search rules in
    let made = c.in_ok-slot.ensures.made ∙ (ap (λ n. slot_by h.scheme f h.leaves n k entry) c.len-s.ensures ∙ ap (slot_by h.scheme f h.leaves s k) at) in
    record {
      filled = pushed slot_of (λ n. slot_by h.scheme f h.leaves s n (entry_in_cell h t row s n)) c.loop-c.slots.items c.push.new.self.items c.in_ok-slot.slot k c.loop-c.invariant.filled made pushed_on;
      fits = one_more (λ n. CellFits h f row s n) k c.loop-c.invariant.fits
          (subst (EntryFitsBy h.scheme f h.leaves s) at (subst (λ n. EntryFitsBy h.scheme f h.leaves n entry) c.len-s.ensures c.in_ok-slot.ensures.fits));
    }
