use Rattle.std.proofs.Common.{◌≡◌, drop}
use Rattle.paper_names.specs.Names.{after_word, letters}
use Rattle.paper_names.proofs.names.after_word.Given as goal

abbrev pub invariant-loop-letter : goal.invariant-loop-letter
invariant-loop-letter l = after_word (drop l.letter-index l.word) (letters l.rest) ≡ after_word l.word (letters l.text)
