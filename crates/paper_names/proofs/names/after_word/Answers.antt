use Rattle.std.proofs.Common.{arith, ◌∙◌}
use Rattle.paper_names.proofs.Letters.{no_more}
use Rattle.paper_names.proofs.names.after_word.Goals as goal

pub returns-in-None : goal.returns-in-None
returns-in-None c =
    no_more c.args.word.now c.loop-letter.letter-index _ (omega (arith, c.loop-letter-test.true)) c.in-None.ensures ∙ c.loop-letter.invariant
