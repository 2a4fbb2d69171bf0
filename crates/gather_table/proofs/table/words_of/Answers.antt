use Rattle.std.proofs.Common.{rules, arith, ap, ◌++◌, ◌∷◌, [], ◌∙◌}
use Rattle.std.below.core.specs.Mem.Slots.{slots_items, slots_counts}
use Rattle.gather_table.proofs.LeftWords.{take_more, take_whole}
use Rattle.gather_table.proofs.table.words_of.Goals as goal

pub loop-k-preserved : goal.loop-k-preserved
loop-k-preserved c = record {
  items = c.push_reserved.ensures.items ∙ ap (λ xs. xs ++ c.word.result ∷ []) c.loop-k.invariant.items ∙ take_more (slots_items c.args.closed.now.words) c.loop-k.k c.word.result c.word.ensures;
  count = search rules;
  room = search rules;
}

pub returns : goal.returns
returns c = c.loop-k.invariant.items ∙ take_whole (slots_items c.args.closed.now.words) c.loop-k.k (let long = (slots_counts c.args.closed.now.words).0 in omega (arith, long))
