use Rattle.std.proofs.Common.{◌<◌, ℕ, []}
use Rattle.std.specs.Prelude.{slice_index_or}
use Rattle.rules.specs.Parts.{pages}
use Rattle.papers.specs.Named.{IsNameKept}
use Rattle.papers.proofs.known_media.KnownMedia.named.Given as goal

-- the names of the pages so far are kept
abbrev pub invariant-loop-page : goal.invariant-loop-page
invariant-loop-page l = (k : ℕ) → k < l.page → IsNameKept l.known (slice_index_or (pages l.document) k [])
