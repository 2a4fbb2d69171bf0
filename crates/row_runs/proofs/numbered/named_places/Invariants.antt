use Rattle.std.proofs.Common.{◌≡◌, take}
use Rattle.row_runs.specs.Numbers.{named_places_from}
use Rattle.row_runs.proofs.numbered.named_places.Given as goal

abbrev pub invariant-loop-place : goal.invariant-loop-place
invariant-loop-place l = l.places.items ≡ named_places_from 0 (take l.place l.row)
