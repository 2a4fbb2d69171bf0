use Rattle.open_pictures.proofs.Points.{point_is_placeless}
use Rattle.open_pictures.proofs.laws.point_is_placeless.Goals as goal

pub returns : goal.returns
returns c = point_is_placeless
