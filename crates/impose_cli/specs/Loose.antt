-- A named paper that is larger than the papers of all pages of a row. All here is this project's own rules.
use Rattle.std.specs.Prelude.{Bool, not, ◌&&◌, if◌then◌else◌, List, Option, Some, None, option_and_then}
use Rattle.std.specs.List.{reduce}
use Rattle.rules.specs.Papers.{Paper}
use Rattle.papers.specs.Cuts.{is_cut}
use Rattle.papers.specs.Own.{smallest_cover}

-- a paper is larger than this cover of pages: it would be cut by it, and cuts nothing of it
abbrev pub is_loose : (named cover : Paper) → Bool
is_loose named cover = is_cut cover named && not (is_cut named cover)

-- the cover, if the paper is larger
abbrev pub cover_within : (named : Paper) → (cover : Paper) → Option Paper
cover_within named cover = if is_loose named cover then Some cover else None

-- the least paper that covers all of these, if the named one is larger (RULES, 17)
abbrev pub loose_on : (named : Paper) → List Paper → Option Paper
loose_on named papers = option_and_then (cover_within named) (reduce smallest_cover papers)
