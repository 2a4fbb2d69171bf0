use Rattle.std.proofs.Common.{Some}
use Rattle.papers.proofs.KnownNames.{updated}
use Rattle.papers.proofs.known_media.KnownMedia.put.Goals as goal

pub returns : goal.returns
returns c = updated c.args.self.now (record { papers = c.insert.new.self }) c.args.name.items (Some c.args.found) c.in_ok-insert.ensures.updates
