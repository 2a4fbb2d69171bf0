use Rattle.std.proofs.Common.{arith, ◌≡◌, sym, ap, subst, ◌∙◌, true, false, None}
use Rattle.std.specs.Prelude.{IsTrue}
use Rattle.std.proofs.lemmas.Bool.{cond-true, cond-false}
use Rattle.layouts.specs.Cells.{item_in_cell}
use Rattle.layouts.specs.Fitted.{is_whole, scale_on, why_no_scale_on, IsFitted}
use Rattle.layouts.specs.Grids.{page_alone}
use Rattle.layouts.specs.Laws.{HasPlace}
use Rattle.layouts.specs.Refusals.{within_reach}
use Rattle.layouts.proofs.Fitting.{whole_fitted, cell_fitted, has_scale}
use Rattle.layouts.proofs.setting.Setting.item.Goals as goal

pub item_in-requires-clause-place : goal.item_in-requires-clause-place
item_in-requires-clause-place c =
    let t = c.args.self.now in
    let page = c.args.page_paper.now in
    subst (HasPlace page t.room t.grid) (sym c.in_ok-scale.ensures.value) (has_scale t page c.in_ok-scale.ensures.possible).place

pub item_in-requires-clause-near : goal.item_in-requires-clause-near
item_in-requires-clause-near c =
    let t = c.args.self.now in
    let page = c.args.page_paper.now in
    subst (λ s. IsTrue (within_reach t.room s)) (sym c.in_ok-scale.ensures.value) (has_scale t page c.in_ok-scale.ensures.possible).near

pub item_in-requires-clause-scale : goal.item_in-requires-clause-scale
item_in-requires-clause-scale c =
    let most = (has_scale c.args.self.now c.args.page_paper.now c.in_ok-scale.ensures.possible).most in
    omega (arith, most, c.in_ok-scale.ensures.value)

pub returns-then-is_whole-clause-made : goal.returns-then-is_whole-clause-made
returns-then-is_whole-clause-made c =
    let t = c.args.self.now in
    let page = c.args.page_paper.now in
    let whole : is_whole t page ≡ true = sym c.is_whole.ensures.value ∙ c.if-is_whole.true in
    c.whole_page.ensures ∙ sym (cond-true (is_whole t page) (page_alone c.args.cell) (item_in_cell page t.room t.grid t.order (scale_on t page) c.args.cell) whole)

pub returns-then-is_whole-clause-fitted : goal.returns-then-is_whole-clause-fitted
returns-then-is_whole-clause-fitted c =
    let t = c.args.self.now in
    let page = c.args.page_paper.now in
    let whole : is_whole t page ≡ true = sym c.is_whole.ensures.value ∙ c.if-is_whole.true in
    subst (IsFitted t page c.args.cell) (sym c.whole_page.ensures) (whole_fitted t page c.args.cell c.is_whole.ensures.page c.is_whole.ensures.sheet c.requires whole)

pub returns-clause-made : goal.returns-clause-made
returns-clause-made c =
    let t = c.args.self.now in
    let page = c.args.page_paper.now in
    let not : is_whole t page ≡ false = sym c.is_whole.ensures.value ∙ c.if-is_whole.false in
    c.item_in.ensures ∙ ap (λ s. item_in_cell page t.room t.grid t.order s c.args.cell) c.in_ok-scale.ensures.value
    ∙ sym (cond-false (is_whole t page) (page_alone c.args.cell) (item_in_cell page t.room t.grid t.order (scale_on t page) c.args.cell) not)

pub returns-clause-fitted : goal.returns-clause-fitted
returns-clause-fitted c =
    let t = c.args.self.now in
    let page = c.args.page_paper.now in
    let is = c.item_in.ensures ∙ ap (λ s. item_in_cell page t.room t.grid t.order s c.args.cell) c.in_ok-scale.ensures.value in
    subst (IsFitted t page c.args.cell) (sym is) (cell_fitted t page c.args.cell c.is_whole.ensures.page c.is_whole.ensures.sheet c.requires c.in_ok-scale.ensures.possible)

pub returns-clause-possible : goal.returns-clause-possible
returns-clause-possible c =
    let t = c.args.self.now in
    let page = c.args.page_paper.now in
    let not : is_whole t page ≡ false = sym c.is_whole.ensures.value ∙ c.if-is_whole.false in
    cond-false (is_whole t page) None (why_no_scale_on t page) not ∙ c.in_ok-scale.ensures.possible
