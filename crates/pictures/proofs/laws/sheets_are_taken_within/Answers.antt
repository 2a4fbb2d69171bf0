use Rattle.pictures.proofs.Nests.{sheets_are_taken_within}
use Rattle.pictures.proofs.laws.sheets_are_taken_within.Goals as goal

pub returns : goal.returns
returns c = sheets_are_taken_within
