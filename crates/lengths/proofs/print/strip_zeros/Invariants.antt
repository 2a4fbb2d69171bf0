use Rattle.std.proofs.Common.{◌≡◌, ◌≤◌, length}
use Rattle.rules.specs.Numbers.{without_last_zeros}
use Rattle.lengths.proofs.print.strip_zeros.Given as goal

abbrev pub invariant-loop-front : goal.invariant-loop-front
invariant-loop-front l = record { same : without_last_zeros l.rest ≡ without_last_zeros l.digits; no_longer : length l.rest ≤ length l.digits }

abbrev pub decreases-loop-front : goal.decreases-loop-front
decreases-loop-front l = length l.rest
