use Rattle.rules.proofs.Faces.{sheets_are_faces}
use Rattle.rules.proofs.laws.sheets_are_faces.Goals as goal

pub returns : goal.returns
returns c = sheets_are_faces
