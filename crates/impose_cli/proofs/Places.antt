-- What was written for a request that lays a row keeps its places.
use Rattle.row_runs.specs.Written.{WrittenAreRead, WrittenInCells, WrittenIsBound, WrittenKeepRoom, WrittenStand}
use Rattle.impose_cli.specs.Laws.{ImposedKeepsPlaces}

pub imposed_keeps_places : WrittenStand → WrittenInCells → WrittenKeepRoom → WrittenAreRead → WrittenIsBound → ImposedKeepsPlaces
imposed_keeps_places stand cells room read bound r input old new done h =
    let made = h.imposes.made in
    let are = h.imposes.planned.are in record {
      made = made;
      turned = are;
      written = h.imposes.written;
      stand = stand h.job made are;
      cells = cells h.job made are;
      room = room h.job made are;
      read = read h.job made are;
      bound = λ t turned_backs creep how. bound h.job made t turned_backs creep how are;
    }
