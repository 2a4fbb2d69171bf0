use Rattle.placement.proofs.Rows.{printed_row, one_row}
use Rattle.placement.proofs.Near.{printed_near}
use Rattle.placement.proofs.laws.printed_matrix_is_near.Goals as goal

pub returns-clause-row : goal.returns-clause-row
returns-clause-row c = printed_row

pub returns-clause-one : goal.returns-clause-one
returns-clause-one c = one_row

pub returns-clause-near : goal.returns-clause-near
returns-clause-near c = printed_near
