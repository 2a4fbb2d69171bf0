use Rattle.std.proofs.Common.{arith, ◌≡◌}
use Rattle.run_steps.proofs.imposition.is_complete.Goals as goal
use Rattle.run_steps.proofs.Reading.{reads_look, seat_stays, seen_complete}

pub returns-clause-seat : goal.returns-clause-seat
returns-clause-seat c = seat_stays _ _ _ c.requires.seat (reads_look _ _ c.args.sheet c.look.result c.look.ensures)

pub returns-clause-reads : goal.returns-clause-reads
returns-clause-reads c = reads_look _ _ c.args.sheet c.look.result c.look.ensures

pub returns-clause-complete : goal.returns-clause-complete
returns-clause-complete c = λ is.
    let zero_is : c.look.result ≡ 0 = grind arith in
    seen_complete c.args.table.now _ _ c.args.sheet c.look.result c.requires.seat c.look.ensures zero_is

pub returns-clause-looked : goal.returns-clause-looked
returns-clause-looked c = (c.look.result, c.look.ensures, ((λ is. grind arith), (λ zero_is. grind arith)))
