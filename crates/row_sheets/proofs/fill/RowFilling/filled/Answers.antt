use Rattle.std.proofs.Common.{arith, rules, ◌≡◌, ◌<◌, ℕ, ◌∙◌, ap, ◌++◌, ◌∷◌, [], sym, subst}
use Rattle.std.specs.Prelude.{map}
use Rattle.std.specs.List.{range_with_len}
use Rattle.sheet_plan.specs.OfSheets.{slot_of}
use Rattle.row_sheets.specs.Schemes.{CellFits, StandBy, shaped, slot_by}
use Rattle.row_sheets.specs.Shapes.{filling, entry_in_cell}
use Rattle.row_sheets.proofs.Before.{sheets_shaped}
use Rattle.row_sheets.proofs.Filling.{sheet, sheet_more, one_more}
use Rattle.row_sheets.proofs.Zines.{stand_by}
use Rattle.row_sheets.proofs.fill.RowFilling.filled.Goals as goal

pub fill_slots-requires-clause-made : goal.fill_slots-requires-clause-made
fill_slots-requires-clause-made c =
    let f = filling c.args.self.now.setting.now c.args.self.now.papers.now in
    let many = sheets_shaped c.args.shape f c.args.self.now.row.now c.loop.made c.loop.counter c.loop.invariant.made in
    subst (λ n. c.loop.made ≡ shaped c.args.shape f c.args.self.now.row.now n) (sym many) c.loop.invariant.made

pub fill_slots-requires-clause-more : goal.fill_slots-requires-clause-more
fill_slots-requires-clause-more c =
    let many = sheets_shaped c.args.shape (filling c.args.self.now.setting.now c.args.self.now.papers.now) c.args.self.now.row.now c.loop.made c.loop.counter c.loop.invariant.made in
    omega (arith, many, c.loop-test.true)

pub fill_slots-requires-clause-fits : goal.fill_slots-requires-clause-fits
fill_slots-requires-clause-fits c = λ s k less in_k.
    let many = sheets_shaped c.args.shape (filling c.args.self.now.setting.now c.args.self.now.papers.now) c.args.self.now.row.now c.loop.made c.loop.counter c.loop.invariant.made in
    c.loop.invariant.fits s k (omega (arith, less, many)) in_k

pub loop-preserved : goal.loop-preserved
loop-preserved c =
    let h = c.args.shape in
    let t = c.args.self.now.setting.now in
    let f = filling t c.args.self.now.papers.now in
    let row = c.args.self.now.row.now in
    let slots = map slot_of c.fill_slots.new.slots.items in
    let many = sheets_shaped h f row c.loop.made c.loop.counter c.loop.invariant.made in
    let here = subst (λ n. slots ≡ map (λ k. slot_by h.scheme f h.leaves n k (entry_in_cell h t row n k)) (range_with_len 0 h.cells)) many c.in_ok-fill_slots.ensures.made in
    let fit = subst (λ n. (k : ℕ) → k < h.cells → CellFits h f row n k) many c.in_ok-fill_slots.ensures.fits in
    let pushed : c.push.new.self ≡ c.loop.made ++ sheet t.room.paper (map slot_of c.as_slice.result.now) ∷ [] = search rules in
    let e : c.push.new.self ≡ c.loop.made ++ sheet t.room.paper slots ∷ [] = pushed ∙ ap (λ xs. c.loop.made ++ sheet t.room.paper (map slot_of xs) ∷ []) c.as_slice.ensures.value in
    record {
      made = sheet_more t.room.paper (λ s. map (λ n. slot_by h.scheme f h.leaves s n (entry_in_cell h t row s n)) (range_with_len 0 h.cells)) c.loop.made c.push.new.self slots c.loop.counter c.loop.invariant.made here e;
      fits = λ s k less in_k. one_more (λ n. (m : ℕ) → m < h.cells → CellFits h f row n m) c.loop.counter (λ n below m in_m. c.loop.invariant.fits n m below in_m) fit s less k in_k;
    }

pub returns-clause-stands : goal.returns-clause-stands
returns-clause-stands c =
    let h = c.args.shape in
    let t = c.args.self.now.setting.now in
    subst (StandBy h.scheme t) (sym c.loop.invariant.made)
    (stand_by h.scheme (filling t c.args.self.now.papers.now) c.args.self.now.row.now h.leaves h.sheets h.cells c.loop.counter c.requires.may_be c.requires.cells c.loop.invariant.fits)

pub returns-clause-fits : goal.returns-clause-fits
returns-clause-fits c = λ s k in_s in_k. c.loop.invariant.fits s k (omega (arith, in_s)) in_k
