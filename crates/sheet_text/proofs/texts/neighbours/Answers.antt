use Rattle.std.proofs.Common.{rules, arith, sym, ap, length, ◌+◌, ◌≡◌, ◌∙◌}
use Rattle.std.specs.Prelude.{vec_len, ◌==◌}
use Rattle.sheet_text.proofs.TextsBehind.{one_alone, one_more, piece_placed, nil_told}
use Rattle.sheet_text.proofs.texts.neighbours.Goals as goal

pub loop-next-init : goal.loop-next-init
loop-next-init c = (
  omega (arith, c.requires.most),
  omega arith,
  one_alone c.args.own.now c.args.parts.now c.args.sheet c.as_slice-slices.result.now c.args.nth c.index-parts-nth.result c.requires.nth c.requires.parts c.index-parts-nth.is
      c.requires.sheet c.as_slice-slices.ensures.value,
)

pub overflow_add-count : goal.overflow_add-count
overflow_add-count c = let i = c.loop-next.invariant in omega (arith, i.0, c.if-count-most.false, c.ranges.most.fits)

pub loop-next-preserved : goal.loop-next-preserved
loop-next-preserved c =
    let i = c.loop-next.invariant in
    let len : vec_len c.index-parts-next.result.slices ≡ length c.index-parts-next.result.slices.items = search rules in (
      omega (arith, i.0, c.if-count-most.false),
      omega (arith, i.1),
      one_more c.args.own.now c.args.parts.now c.args.sheet c.as_slice-slices.result.now c.args.nth c.loop-next.count _ c.loop-next.end c.loop-next.next c.index-parts-next.result
          c.loop-next-test.true i.1 c.requires.parts i.2 c.index-parts-next.is
          (sym c.from.ensures ∙ c.if-from-first.false ∙ ap (λ n. n + c.from-else-count-most.result) c.from-first.ensures ∙ ap (λ n. c.args.sheet + n) c.from-else-count-most.ensures)
          c.if-part-end.false (nil_told _ _ c.is_empty.ensures c.if-not-is_empty.false)
          (nil_told _ _ (c.is_empty-else-not-is_empty.ensures ∙ ap (λ n. n == 0) len) c.if-not-is_empty-2.false),
    )

pub slice_bounds-text-count : goal.slice_bounds-text-count
slice_bounds-text-count c = c.loop-next.invariant.2.up

pub slice_bounds-text-start : goal.slice_bounds-text-start
slice_bounds-text-start c =
    let up = c.loop-next.invariant.2.up in
    let within = c.loop-next.invariant.2.within in
    search rules

pub slice_bounds-text-end : goal.slice_bounds-text-end
slice_bounds-text-end c = c.loop-next.invariant.2.within

pub invariant_of-text : goal.invariant_of-text
invariant_of-text c = piece_placed c.loop-next.invariant.2

pub returns-clause-count : goal.returns-clause-count
returns-clause-count c = let i = c.loop-next.invariant in (i.2.some, i.0)

pub returns-clause-row : goal.returns-clause-row
returns-clause-row c = c.loop-next.invariant.2.row

pub returns-clause-text : goal.returns-clause-text
returns-clause-text c = sym c.loop-next.invariant.2.bytes
