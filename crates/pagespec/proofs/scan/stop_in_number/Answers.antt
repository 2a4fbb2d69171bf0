use Rattle.std.proofs.Common.{ℕ, List, length, ap, sym, subst, ◌∙◌}
use Rattle.rules.specs.Numbers.{IsNumber}
use Rattle.lengths.specs.Reading.{number_at}
use Rattle.pagespec.specs.Places.{StuckIn}
use Rattle.pagespec.specs.Reading.{byte_at}
use Rattle.pagespec.proofs.NumberStuck.{stuck_at_decimals, stuck_at_body}
use Rattle.pagespec.proofs.scan.stop_in_number.Goals as goal

pub returns-in-Some : goal.returns-in-Some
returns-in-Some c = stuck_at_decimals c.args.bytes.now _ c.requires (ap (byte_at 46) (sym c.past_sign-body.ensures) ∙ c.in-Some.ensures)

pub returns-in-None : goal.returns-in-None
returns-in-None c =
    subst (λ (x : List ℕ). StuckIn IsNumber number_at c.args.bytes.now (length x)) (sym c.past_sign-body.ensures)
    (stuck_at_body c.args.bytes.now c.requires (ap (byte_at 46) (sym c.past_sign-body.ensures) ∙ c.in-None.ensures))
