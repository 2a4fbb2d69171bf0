-- Calls that change nothing of the table.
use Rattle.std.specs.Prelude.{◌≡◌, ℕ, List}
use Rattle.rules.specs.Seats.{total}
use Rattle.gather_table.specs.History.{Entry}
use Rattle.gather_table.specs.Laws.{fillings, closings}
use Rattle.gather_table.specs.Shared.{SeatView, MakesCalls}
use Rattle.run_steps.specs.Duty.{Duty, worth}

-- calls that only read were made, and no others
pub record OnlyReads (old new : SeatView) : Type 0 where
  pub calls : List Entry
  pub made : MakesCalls old calls new
  pub weightless : (h : Duty → ℕ) → total (worth h) calls ≡ 0
  pub closes_nothing : (s g : ℕ) → (closings s g calls ≡ 0) × (fillings s g calls ≡ 0)
