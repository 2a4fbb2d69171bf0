use Rattle.std.proofs.Common.{rules, arith, ap, sym, ◌∙◌, ◌<◌, drop, length, length-drop}
use Rattle.std.proofs.lemmas.List.{drop-drop}
use Rattle.dsc.proofs.LineBlocks.{blocks_more}
use Rattle.dsc.proofs.lines.first_blocks.Goals as goal

pub loop-rest-preserved : goal.loop-rest-preserved
loop-rest-preserved c =
    let i = c.loop-rest.invariant in
    let rest = c.loop-rest.rest.now in
    let passed = c.loop-rest.passed in
    let long : 240 < length rest = search rules in
    let size = ap length i.after in
    let left = length-drop passed c.args.text.now in
    let few = c.if-feeds-count.false in
    let none = c.if-returns-ne0.false in
    record {
      fewer = omega (arith, few, i.fewer);
      within = omega (arith, long, size, left, i.within);
      after = c.split_at.ensures.back ∙ ap (drop 240) i.after ∙ drop-drop 240 passed c.args.text.now;
      so_far = blocks_more 240 c.args.count c.loop-rest.lines _ passed rest c.split_at.result.0.now c.split_at.result.1.now _ long c.split_at.ensures.front c.split_at.ensures.back
          (c.from-feeds.ensures ∙ c.ends_in-feeds.ensures.feeds) (sym c.ends_in-feeds.ensures.returns ∙ none) few i.so_far;
    }
