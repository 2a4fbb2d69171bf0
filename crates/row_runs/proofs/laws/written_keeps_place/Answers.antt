use Rattle.row_runs.proofs.Kept.{written_in_cells, written_keep_room}
use Rattle.row_runs.proofs.Written.{written_in_places, written_stand}
use Rattle.row_runs.proofs.WrittenOrder.{written_are_read, written_is_bound}
use Rattle.row_runs.proofs.laws.written_keeps_place.Goals as goal

pub returns-clause-stand : goal.returns-clause-stand
returns-clause-stand c = written_stand

pub returns-clause-places : goal.returns-clause-places
returns-clause-places c = written_in_places

pub returns-clause-cells : goal.returns-clause-cells
returns-clause-cells c = written_in_cells

pub returns-clause-room : goal.returns-clause-room
returns-clause-room c = written_keep_room

pub returns-clause-read : goal.returns-clause-read
returns-clause-read c = written_are_read

pub returns-clause-bound : goal.returns-clause-bound
returns-clause-bound c = written_is_bound
