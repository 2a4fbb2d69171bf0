use Rattle.std.proofs.Common.{arith, ap, length, ◌≡◌}
use Rattle.dsc.specs.Marks.{starts_of}
use Rattle.dsc.specs.Units.{units_of}
use Rattle.dsc.proofs.PartMarks.{page_count}
use Rattle.dsc.proofs.document.Document.pages.Goals as goal

pub returns : goal.returns
returns c =
    let d = c.self.inside in
    let same : length d.starts.items ≡ length (starts_of (units_of d.text.now)) = ap length c.self.invariant.starts_are in
    let count = page_count (units_of d.text.now) in
    rw (← c.self.view_is) (omega (arith, c.len.ensures, d.starts.ok.0, same, count))
