use Rattle.std.proofs.Common.{arith, ◌≡◌, ◌+◌, ◌-◌, ◌*◌, ◌≤◌, length, sym, ap, ◌∙◌}
use Rattle.std.specs.Prelude.{if◌then◌else◌}
use Rattle.std.specs.Int.{div_ceil}
use Rattle.std.proofs.lemmas.Nat.{mul-le}
use Rattle.rules.specs.Sheets.{blocks}
use Rattle.sheet_plan.proofs.Admitted.{bounded}
use Rattle.sheet_plan.proofs.Bounds.{blocks_ceil}
use Rattle.row_sheets.proofs.by_spec.place_in_row.Goals as goal

pub overflow_sub-result : goal.overflow_sub-result
overflow_sub-result c =
    let on = c.args.on.now in
    let b = bounded on.spec.now c.modulo-modulo.ensures.admissible in
    let up : c.div_ceil-blocks.result ≡ blocks on.spec.now.modulo (length on.row.now) =
    c.div_ceil-blocks.ensures ∙ ap (div_ceil (length on.row.now)) c.modulo-modulo.ensures.value ∙ blocks_ceil (length on.row.now) on.spec.now.modulo b.modulo in
    let less : c.args.block + 1 ≤ c.div_ceil-blocks.result = omega (arith, up, c.requires.block) in
    let m : (c.args.block + 1) * c.modulo-modulo.result ≤ c.div_ceil-blocks.result * c.modulo-modulo.result = mul-le (c.args.block + 1) c.modulo-modulo.result c.div_ceil-blocks.result c.modulo-modulo.result less (omega arith) in
    let turned : c.div_ceil-blocks.result * c.modulo-modulo.result ≡ c.modulo-modulo.result * c.div_ceil-blocks.result = grind arith in
    omega (arith, m, turned)

pub returns-then-item : goal.returns-then-item
returns-then-item c =
    let on = c.args.on.now in
    let n = length on.row.now in
    let m = on.spec.now.modulo in
    let block = c.args.block in
    let page = c.args.item.now.page in
    let b = bounded on.spec.now c.modulo-modulo.ensures.admissible in
    let up : c.div_ceil-blocks.result ≡ blocks m n =
    c.div_ceil-blocks.ensures ∙ ap (div_ceil n) c.modulo-modulo.ensures.value ∙ blocks_ceil n m b.modulo in
    ap (λ k. k * c.div_ceil-blocks.result - (block + 1) * k + page) c.modulo-modulo.ensures.value
    ∙ ap (λ k. m * k - (block + 1) * m + page) up
    ∙ sym (ap (λ t. if t then m * blocks m n - (block + 1) * m + page else block * m + page) c.if-item.true)
