use Rattle.std.proofs.Common.{◌≡◌, get_or, ◌/◌, ◌∙◌}
use Rattle.std.proofs.lemmas.Grind.{get_or_default_zero}
use Rattle.imposer.proofs.OneBit.{clear_one}
use Rattle.imposer.proofs.bits.clear_bit.Goals as goal

pub returns-clause-cleared : goal.returns-clause-cleared
returns-clause-cleared c =
    let read : c.index_mut.result.now ≡ get_or c.args.words.now.items (c.args.number / 64) 0 =
    c.index_mut.ensures.value ∙ get_or_default_zero c.args.words.now.items (c.args.number / 64) c.index_mut.result.now c.requires in
    λ k. rw read (clear_one c.args.words.now.items c.args.number k c.requires)
