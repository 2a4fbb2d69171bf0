use Rattle.std.proofs.Common.{◌≡◌, take}
use Rattle.std.specs.Prelude.{fold}
use Rattle.papers.specs.Own.{smallest_cover}
use Rattle.impose_cli.proofs.loose.cover_of.Given as goal

abbrev pub invariant-loop-paper : goal.invariant-loop-paper
invariant-loop-paper l = l.cover ≡ fold smallest_cover l.initial.cover (take l.paper-index l.rest)
