use Rattle.std.proofs.Common.{◌≡◌, ℕ, List, length}
use Rattle.std.specs.Prelude.{flat_map, option_map}
use Rattle.papers.specs.Media.{contents, continued}
use Rattle.papers.specs.Comments.{medium_in}
use Rattle.papers.specs.Named.{found_at, with_media}
use Rattle.papers.proofs.known_media.KnownMedia.take_continued.Given as goal

-- with the media that are left all is found that is to be
abbrev pub invariant-loop-value : goal.invariant-loop-value
invariant-loop-value l = (at : List ℕ) →
    option_map (λ found. with_media at found (flat_map medium_in (continued (contents l.rest)))) (found_at l.self at)
    ≡ option_map (λ found. with_media at found (flat_map medium_in (continued (contents l.text)))) (found_at l.fn.self at)

abbrev pub decreases-loop-value : goal.decreases-loop-value
decreases-loop-value l = length l.rest
