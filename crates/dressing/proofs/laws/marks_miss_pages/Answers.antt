use Rattle.dressing.proofs.Past.{marks_miss_pages}
use Rattle.dressing.proofs.laws.marks_miss_pages.Goals as goal

pub returns : goal.returns
returns c = marks_miss_pages
