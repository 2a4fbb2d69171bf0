use Rattle.std.proofs.Common.{arith, ap, length}
use Rattle.imposer.proofs.Made.{born_few}
use Rattle.imposer.proofs.gathering.report_on.Goals as goal

pub overflow_cast-result : goal.overflow_cast-result
overflow_cast-result c = omega (arith, c.sheets.ensures.sound.few_sheets, born_few c.plan-plan.result.now, ap (λ xs. length xs) c.born_complete.ensures.value)
