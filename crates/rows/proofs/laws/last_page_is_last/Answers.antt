use Rattle.rows.proofs.LastIsLast.{last_page_is_last}
use Rattle.rows.proofs.laws.last_page_is_last.Goals as goal

pub returns : goal.returns
returns c = last_page_is_last
