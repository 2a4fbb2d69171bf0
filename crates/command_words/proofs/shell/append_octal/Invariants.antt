use Rattle.std.proofs.Common.{◌≡◌, ◌++◌, take}
use Rattle.std.specs.Prelude.{flat_map}
use Rattle.command_words.specs.Shell.{octal_byte}
use Rattle.command_words.proofs.shell.append_octal.Given as goal

abbrev pub invariant-loop-byte : goal.invariant-loop-byte
invariant-loop-byte l = l.out.items ≡ l.initial.out.items ++ flat_map octal_byte (take l.byte-index l.bytes)
