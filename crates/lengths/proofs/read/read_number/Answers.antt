use Rattle.lengths.proofs.Scans.{reads}
use Rattle.lengths.proofs.read.read_number.Goals as goal

pub returns-clause-longest : goal.returns-clause-longest
returns-clause-longest c =
    reads c.args.bytes.now c.scan_number.result c.scan_number.ensures.found c.scan_number.ensures.within c.scan_number.ensures.in_range c.scan_number.ensures.refused
