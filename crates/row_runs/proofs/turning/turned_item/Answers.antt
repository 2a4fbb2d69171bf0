use Rattle.std.proofs.Common.{◌∙◌, ap, ap₂, refl, Bool}
use Rattle.std.specs.Prelude.{is_some, ℤ, pos, ◌&&◌}
use Rattle.rules.specs.Specification.{Item, Turn}
use Rattle.pagespec.specs.Items.{item_of, measure_of, turn_of}
use Rattle.row_runs.specs.Reaching.{is_writable_offset}
use Rattle.row_runs.specs.Turning.{turn_sum, shifted, scaled_length}
use Rattle.row_runs.proofs.Reach.{nowhere_upright, turned_is, word}
use Rattle.row_runs.proofs.turning.turned_item.Goals as goal

pub returns-clause-value : goal.returns-clause-value
returns-clause-value c =
    let item = item_of c.args.item.now in
    let turn : Turn = turn_of c.args.turn in
    turned_is turn c.args.paper.now item c.scaled_length-width.result c.scaled_length-height.result c.turned_corner-x.result.0 c.turned_corner-x.result.1 c.turned_by-right.result.0 c.turned_by-right.result.1
    (turn_of c.turn_sum.result) (measure_of c.in_ok-shifted.field-0) (measure_of c.in_ok-shifted-2.field-0)
    c.scaled_length-width.ensures.in_range c.scaled_length-height.ensures.in_range c.turned_corner-x.ensures.x_in_range c.turned_corner-x.ensures.y_in_range c.turned_by-right.ensures.x_in_range c.turned_by-right.ensures.y_in_range
    (c.scaled_length-width.ensures.value ∙ ap (λ (s : ℤ). pos (scaled_length item.scale s)) c.width.ensures.value)
    (c.scaled_length-height.ensures.value ∙ ap (λ (s : ℤ). pos (scaled_length item.scale s)) c.height.ensures.value)
    c.turned_corner-x.ensures.x c.turned_corner-x.ensures.y c.turned_by-right.ensures.x c.turned_by-right.ensures.y c.turn_sum.ensures c.in_ok-shifted.ensures.value c.in_ok-shifted-2.ensures.value

pub returns-clause-near : goal.returns-clause-near
returns-clause-near c =
    let item = item_of c.args.item.now in
    let turn : Turn = turn_of c.args.turn in
    let whole = turned_is turn c.args.paper.now item c.scaled_length-width.result c.scaled_length-height.result c.turned_corner-x.result.0 c.turned_corner-x.result.1 c.turned_by-right.result.0 c.turned_by-right.result.1
    (turn_sum turn item.turn) (shifted (word c.turned_by-right.result.0) item.x) (shifted (word c.turned_by-right.result.1) item.y)
    c.scaled_length-width.ensures.in_range c.scaled_length-height.ensures.in_range c.turned_corner-x.ensures.x_in_range c.turned_corner-x.ensures.y_in_range c.turned_by-right.ensures.x_in_range c.turned_by-right.ensures.y_in_range
    (c.scaled_length-width.ensures.value ∙ ap (λ (s : ℤ). pos (scaled_length item.scale s)) c.width.ensures.value)
    (c.scaled_length-height.ensures.value ∙ ap (λ (s : ℤ). pos (scaled_length item.scale s)) c.height.ensures.value)
    c.turned_corner-x.ensures.x c.turned_corner-x.ensures.y c.turned_by-right.ensures.x c.turned_by-right.ensures.y refl refl refl in
    ap₂ (λ (a b : Bool). a && b) c.in_ok-shifted.ensures.near c.in_ok-shifted-2.ensures.near ∙ ap (λ (i : Item). is_writable_offset i.x && is_writable_offset i.y) whole

pub returns-in_err-shifted-clause-near : goal.returns-in_err-shifted-clause-near
returns-in_err-shifted-clause-near c =
    let item = item_of c.args.item.now in
    let turn : Turn = turn_of c.args.turn in
    let whole = turned_is turn c.args.paper.now item c.scaled_length-width.result c.scaled_length-height.result c.turned_corner-x.result.0 c.turned_corner-x.result.1 c.turned_by-right.result.0 c.turned_by-right.result.1
    (turn_sum turn item.turn) (shifted (word c.turned_by-right.result.0) item.x) (shifted (word c.turned_by-right.result.1) item.y)
    c.scaled_length-width.ensures.in_range c.scaled_length-height.ensures.in_range c.turned_corner-x.ensures.x_in_range c.turned_corner-x.ensures.y_in_range c.turned_by-right.ensures.x_in_range c.turned_by-right.ensures.y_in_range
    (c.scaled_length-width.ensures.value ∙ ap (λ (s : ℤ). pos (scaled_length item.scale s)) c.width.ensures.value)
    (c.scaled_length-height.ensures.value ∙ ap (λ (s : ℤ). pos (scaled_length item.scale s)) c.height.ensures.value)
    c.turned_corner-x.ensures.x c.turned_corner-x.ensures.y c.turned_by-right.ensures.x c.turned_by-right.ensures.y refl refl refl in
    ap is_some c.from_residual.ensures ∙ ap (λ (b : Bool). b && is_writable_offset (shifted (word c.turned_by-right.result.1) item.y)) c.in_err-shifted.ensures.near ∙ ap (λ (i : Item). is_writable_offset i.x && is_writable_offset i.y) whole

pub returns-in_err-shifted-2-clause-near : goal.returns-in_err-shifted-2-clause-near
returns-in_err-shifted-2-clause-near c =
    let item = item_of c.args.item.now in
    let turn : Turn = turn_of c.args.turn in
    let whole = turned_is turn c.args.paper.now item c.scaled_length-width.result c.scaled_length-height.result c.turned_corner-x.result.0 c.turned_corner-x.result.1 c.turned_by-right.result.0 c.turned_by-right.result.1
    (turn_sum turn item.turn) (shifted (word c.turned_by-right.result.0) item.x) (shifted (word c.turned_by-right.result.1) item.y)
    c.scaled_length-width.ensures.in_range c.scaled_length-height.ensures.in_range c.turned_corner-x.ensures.x_in_range c.turned_corner-x.ensures.y_in_range c.turned_by-right.ensures.x_in_range c.turned_by-right.ensures.y_in_range
    (c.scaled_length-width.ensures.value ∙ ap (λ (s : ℤ). pos (scaled_length item.scale s)) c.width.ensures.value)
    (c.scaled_length-height.ensures.value ∙ ap (λ (s : ℤ). pos (scaled_length item.scale s)) c.height.ensures.value)
    c.turned_corner-x.ensures.x c.turned_corner-x.ensures.y c.turned_by-right.ensures.x c.turned_by-right.ensures.y refl refl refl in
    ap is_some c.from_residual-in_err-shifted-2.ensures ∙ c.in_err-shifted-2.ensures.near ∙ ap (λ (b : Bool). b && is_writable_offset (shifted (word c.turned_by-right.result.1) item.y)) c.in_ok-shifted.ensures.near ∙ ap (λ (i : Item). is_writable_offset i.x && is_writable_offset i.y) whole

pub returns-in_err-shifted-clause-upright : goal.returns-in_err-shifted-clause-upright
returns-in_err-shifted-clause-upright c up =
    let item = item_of c.args.item.now in
    let still = nowhere_upright (turn_of c.args.turn) item.turn _ _ c.turned_corner-x.result.0 c.turned_corner-x.result.1 c.turned_by-right.result.0 c.turned_by-right.result.1
    c.turned_corner-x.ensures.x c.turned_corner-x.ensures.y c.turned_by-right.ensures.x c.turned_by-right.ensures.y up in
    ap is_some c.from_residual.ensures ∙ c.in_err-shifted.ensures.stays still.0

pub returns-in_err-shifted-2-clause-upright : goal.returns-in_err-shifted-2-clause-upright
returns-in_err-shifted-2-clause-upright c up =
    let item = item_of c.args.item.now in
    let still = nowhere_upright (turn_of c.args.turn) item.turn _ _ c.turned_corner-x.result.0 c.turned_corner-x.result.1 c.turned_by-right.result.0 c.turned_by-right.result.1
    c.turned_corner-x.ensures.x c.turned_corner-x.ensures.y c.turned_by-right.ensures.x c.turned_by-right.ensures.y up in
    ap is_some c.from_residual-in_err-shifted-2.ensures ∙ c.in_err-shifted-2.ensures.stays still.1
