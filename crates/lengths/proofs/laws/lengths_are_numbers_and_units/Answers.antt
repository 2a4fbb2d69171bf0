use Rattle.lengths.proofs.NumbersAndUnits.{is_length, length_is_named}
use Rattle.lengths.proofs.laws.lengths_are_numbers_and_units.Goals as goal

pub returns : goal.returns
returns c paper text length = (is_length paper text length, length_is_named paper text length)
