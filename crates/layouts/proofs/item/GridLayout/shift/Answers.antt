use Rattle.std.proofs.Common.{rules, ◌≡◌, ◌≤◌, ◌∙◌, subst, sym}
use Rattle.std.specs.Prelude.{pos, ◌+ℤ◌, ◌-ℤ◌, nat_abs, if◌then◌else◌}
use Rattle.layouts.specs.Cells.{trimmed, row_of, column_of, whole_parts}
use Rattle.layouts.proofs.Reach.{shift_fits, right_is, top_is}
use Rattle.layouts.proofs.item.GridLayout.shift.Goals as goal

pub returns-clause-right : goal.returns-clause-right
returns-clause-right c =
    let l = c.args.self.now in
    let back : c.trimmed-back.result ≡ trimmed l.room l.scale = search rules in
    let value : c.moved_by.result.0 ≡ (if l.grid.turned then pos c.corner-x.result.0 +ℤ pos c.trimmed-back.result else pos c.corner-x.result.0 -ℤ pos c.trimmed-back.result) = search rules in
    value ∙ right_is l.page l.room l.grid l.scale _ _ (row_of l.order l.grid c.args.k) (column_of l.order l.grid c.args.k) _ _ c.corner-x.ensures.x c.place_as_held-row.ensures.row c.place_as_held-row.ensures.column back

pub returns-clause-top : goal.returns-clause-top
returns-clause-top c =
    let l = c.args.self.now in
    let back : c.trimmed-back.result ≡ trimmed l.room l.scale = search rules in
    c.moved_by.ensures.top ∙ top_is l.page l.room l.grid l.scale _ _ (row_of l.order l.grid c.args.k) (column_of l.order l.grid c.args.k) _ _ c.corner-x.ensures.y c.place_as_held-row.ensures.row c.place_as_held-row.ensures.column back

pub returns-clause-across : goal.returns-clause-across
returns-clause-across c =
    let l = c.args.self.now in
    let is = returns-clause-right c in
    subst (λ z. nat_abs z ≤ 9_999_999_999) (sym is) (shift_fits l.page l.room l.grid l.order l.scale c.args.k c.requires.place c.requires.near c.requires.cell).across

pub returns-clause-up : goal.returns-clause-up
returns-clause-up c =
    let l = c.args.self.now in
    let is = returns-clause-top c in
    subst (λ z. nat_abs z ≤ 9_999_999_999) (sym is) (shift_fits l.page l.room l.grid l.order l.scale c.args.k c.requires.place c.requires.near c.requires.cell).up

pub returns-clause-back_across : goal.returns-clause-back_across
returns-clause-back_across c =
    let l = c.args.self.now in
    let is = returns-clause-right c in
    subst (λ z. nat_abs (pos (whole_parts (nat_abs l.room.paper.width)) -ℤ z) ≤ 9_999_999_999) (sym is) (shift_fits l.page l.room l.grid l.order l.scale c.args.k c.requires.place c.requires.near c.requires.cell).back_across

pub returns-clause-back_up : goal.returns-clause-back_up
returns-clause-back_up c =
    let l = c.args.self.now in
    let is = returns-clause-top c in
    subst (λ z. nat_abs (pos (whole_parts (nat_abs l.room.paper.height)) -ℤ z) ≤ 9_999_999_999) (sym is) (shift_fits l.page l.room l.grid l.order l.scale c.args.k c.requires.place c.requires.near c.requires.cell).back_up
