use Rattle.std.proofs.Common.{arith, ◌≡◌, ℕ, ◌<◌, None, sym, ap, subst, ◌∙◌}
use Rattle.std.specs.Prelude.{IsTrue}
use Rattle.rules.specs.Papers.{Paper}
use Rattle.rules.specs.Specification.{Item}
use Rattle.layouts.specs.declared.setting.Setting.{Setting}
use Rattle.layouts.specs.Cells.{back_in, size}
use Rattle.layouts.specs.Fitted.{scale_on, why_no_scale_on}
use Rattle.layouts.specs.Laws.{IsPaper, HasPlace}
use Rattle.layouts.specs.Refusals.{within_reach}
use Rattle.layouts.proofs.Fitting.{StandsBack, stands_back, has_scale}
use Rattle.layouts.proofs.setting.Setting.back_item.Goals as goal

stands : (t : Setting) (page : Paper) (k s : ℕ) (item : Item) → IsPaper page → IsPaper t.room.paper → k < size t.grid → why_no_scale_on t page ≡ None → s ≡ scale_on t page → item ≡ back_in page t.room t.grid t.order s 0 k
    → StandsBack t page k item
stands t page k s item is on within h e f =
    subst (StandsBack t page k) (sym (f ∙ ap (λ n. back_in page t.room t.grid t.order n 0 k) e)) (stands_back t page k is on within h)

pub back_in-requires-clause-place : goal.back_in-requires-clause-place
back_in-requires-clause-place c =
    let t = c.args.self.now in
    let page = c.args.page_paper.now in
    subst (HasPlace page t.room t.grid) (sym c.in_ok-scale.ensures.value) (has_scale t page c.in_ok-scale.ensures.possible).place

pub back_in-requires-clause-near : goal.back_in-requires-clause-near
back_in-requires-clause-near c =
    let t = c.args.self.now in
    let page = c.args.page_paper.now in
    subst (λ s. IsTrue (within_reach t.room s)) (sym c.in_ok-scale.ensures.value) (has_scale t page c.in_ok-scale.ensures.possible).near

pub back_in-requires-clause-scale : goal.back_in-requires-clause-scale
back_in-requires-clause-scale c =
    let most = (has_scale c.args.self.now c.args.page_paper.now c.in_ok-scale.ensures.possible).most in
    omega (arith, most, c.in_ok-scale.ensures.value)

pub returns-clause-made : goal.returns-clause-made
returns-clause-made c =
    let t = c.args.self.now in
    c.back_in.ensures ∙ ap (λ s. back_in c.args.page_paper.now t.room t.grid t.order s 0 c.args.cell) c.in_ok-scale.ensures.value

pub returns-clause-inside : goal.returns-clause-inside
returns-clause-inside c = (stands c.args.self.now c.args.page_paper.now c.args.cell _ _ c.scale_found.ensures.page c.scale_found.ensures.sheet c.requires c.in_ok-scale.ensures.possible c.in_ok-scale.ensures.value c.back_in.ensures).inside

pub returns-clause-turned : goal.returns-clause-turned
returns-clause-turned c = (stands c.args.self.now c.args.page_paper.now c.args.cell _ _ c.scale_found.ensures.page c.scale_found.ensures.sheet c.requires c.in_ok-scale.ensures.possible c.in_ok-scale.ensures.value c.back_in.ensures).turned

pub returns-clause-exact : goal.returns-clause-exact
returns-clause-exact c = (stands c.args.self.now c.args.page_paper.now c.args.cell _ _ c.scale_found.ensures.page c.scale_found.ensures.sheet c.requires c.in_ok-scale.ensures.possible c.in_ok-scale.ensures.value c.back_in.ensures).exact
