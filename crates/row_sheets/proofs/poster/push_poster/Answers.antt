use Rattle.std.proofs.Common.{rules, ◌≡◌, ◌<◌, ◌*◌, ◌-◌, ◌+◌, ◌/◌, ◌%◌, ◌++◌, ◌∷◌, [], sym, subst, ap, ◌∙◌}
use Rattle.pagespec.specs.Items.{item_of}
use Rattle.rules.specs.Made.{Placed}
use Rattle.row_sheets.specs.Posters.{IsNear, tile_item, laid_item}
use Rattle.row_sheets.proofs.Filling.{sheet, sheet_behind}
use Rattle.row_sheets.proofs.Offsets.{tile_in, tile_near}
use Rattle.row_sheets.proofs.poster.push_poster.Goals as goal

pub tile_item-requires-clause-near : goal.tile_item-requires-clause-near
tile_item-requires-clause-near c =
    let p = c.args.poster.now in
    let n = c.loop-n.n in
    let within : n < p.rows * p.columns = search rules in
    let tile = tile_in p.rows p.columns n within in
    subst (λ l. IsNear l (n % p.columns) (p.rows - (n / p.columns + 1))) (sym c.in_ok-laid.ensures.value)
    (tile_near c.args.page_paper.now p (n % p.columns) (p.rows - (n / p.columns + 1)) c.in_ok-laid.ensures.possible tile.0 tile.1)

pub loop-n-preserved : goal.loop-n-preserved
loop-n-preserved c =
    let p = c.args.poster.now in
    let page = c.args.page_paper.now in
    let k = c.args.page in
    let n = c.loop-n.n in
    let item = item_of c.tile_item.result in
    let is = c.tile_item.ensures ∙ ap (λ l. laid_item l (n % p.columns) (p.rows - (n / p.columns + 1))) c.in_ok-laid.ensures.value in
    let here = ap (λ i. Placed k i page ∷ []) is in
    let e : c.push.new.self ≡ c.loop-n.made ++ sheet p.sheet (Placed k item page ∷ []) ∷ [] = search rules in
    sheet_behind p.sheet (λ m. Placed k (tile_item page p (m % p.columns) (p.rows - (m / p.columns + 1))) page ∷ []) c.args.made.now c.loop-n.made c.push.new.self (Placed k item page ∷ []) n c.loop-n.invariant here e

pub returns-clause-fits : goal.returns-clause-fits
returns-clause-fits c = record { page_is = c.in_ok-laid.ensures.page; fits = c.in_ok-laid.ensures.possible }
