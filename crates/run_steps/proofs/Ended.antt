-- What a gathering leaves.
use Rattle.std.proofs.Common.{◌≡◌, ◌+◌, ◌++◌, ap, arith}
use Rattle.rules.specs.Seats.{occurrences}
use Rattle.rules.proofs.SeatTotals.{total-append}
use Rattle.handover.specs.Queue.{content, sheets_put, sheets_taken}
use Rattle.gather_table.proofs.Calls.{look_ups_find}
use Rattle.run_steps.specs.Gathered.{GatheredAreFound, TakenAtMostOnce}

pub gathered_are_found : GatheredAreFound
gathered_are_found seat s k p ok is lt holds = look_ups_find seat s k p ok (is.complete s lt) holds

pub taken_at_most_once : TakenAtMostOnce
taken_at_most_once log s is =
    let both : occurrences s (sheets_taken log ++ content log) ≡ occurrences s (sheets_taken log) + occurrences s (content log) =
    total-append _ (sheets_taken log) (content log) in
    let same : occurrences s (sheets_taken log ++ content log) ≡ occurrences s (sheets_put log) = ap (occurrences s) is.balanced in
    let once = is.once s in
    omega arith
