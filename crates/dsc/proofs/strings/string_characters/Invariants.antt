use Rattle.std.proofs.Common.{◌≡◌, ◌++◌, length}
use Rattle.dsc.specs.Strings
use Rattle.dsc.proofs.strings.string_characters.Given as goal

abbrev pub invariant-loop-first : goal.invariant-loop-first
invariant-loop-first l = l.characters.items ++ Strings.characters l.rest ≡ Strings.characters l.text

abbrev pub decreases-loop-first : goal.decreases-loop-first
decreases-loop-first l = length l.rest
