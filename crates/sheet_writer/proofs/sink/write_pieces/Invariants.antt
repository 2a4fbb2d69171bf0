use Rattle.std.proofs.Common.{ℕ, List, length, ◌≡◌, ◌++◌}
use Rattle.std.specs.Io.KnownBytes.{Appends}
use Rattle.sheet_writer.proofs.sink.write_pieces.Given as goal

abbrev pub invariant-loop-piece : goal.invariant-loop-piece
invariant-loop-piece g l = record {
  gone : List ℕ;
  all : gone ++ l.pieces ≡ l.fn.text;
  count : length gone ≡ l.written;
  taken : Appends (g.S.Sink.seen l.initial.sink).bytes (g.S.Sink.seen l.sink).bytes gone;
  steady : (g.S.Sink.seen l.sink).failures ≡ (g.S.Sink.seen l.initial.sink).failures;
}

abbrev pub decreases-loop-piece : goal.decreases-loop-piece
decreases-loop-piece g l = length l.pieces
