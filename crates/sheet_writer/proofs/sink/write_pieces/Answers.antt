use Rattle.std.proofs.Common.{ap, ◌∙◌, ◌+◌, ◌++◌, length, arith, length-append}
use Rattle.std.proofs.KnownBytes.{Appends-trans}
use Rattle.sheet_writer.proofs.sink.write_pieces.Goals as goal
use Rattle.sheet_writer.proofs.Appending.{piece_all, piece_part}

pub loop-piece-preserved : goal.loop-piece-preserved
loop-piece-preserved g c =
    let so_far = c.loop-piece.invariant in
    let sizes = length-append so_far.gone c.in-Some.piece.now in
    record {
      gone = so_far.gone ++ c.in-Some.piece.now;
      all = piece_all so_far.gone c.in-Some.piece.now _ _ _ so_far.all c.in-Some.ensures.taken;
      count = sizes ∙ ap (λ n. n + length c.in-Some.piece.now) so_far.count;
      taken = Appends-trans _ _ _ so_far.gone c.in-Some.piece.now so_far.taken c.in-Ok.ensures.whole;
      steady = c.in-Ok.ensures.steady ∙ so_far.steady;
    }

pub returns-in-Err-clause-part : goal.returns-in-Err-clause-part
returns-in-Err-clause-part g c =
    let so_far = c.loop-piece.invariant in
    piece_part _ _ _ so_far.gone c.in-Some.piece.now _ _ _ c.loop-piece.written c.in-Err.stopped.written so_far.all c.in-Some.ensures.taken so_far.count (omega (arith, c.in-Err.ensures.within)) so_far.taken c.in-Err.ensures.part
