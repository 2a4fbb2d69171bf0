-- Media that pages name, as the code keeps them.
use Rattle.std.specs.Prelude.{◌≡◌, ℕ, ◌<◌, Bool, true, false, if◌then◌else◌, List, [], ◌∷◌, length, slice_index_or, Option, Some, None, IfSome, option_and_then}
use Rattle.std.specs.Ordering.{nat_cmp}
use Rattle.std.specs.Cmp.Lexicographic.{slice_cmp}
use Rattle.std.specs.BTreeMap.{get_by}
use Rattle.std.specs.Str.{bytes_eq}
use Rattle.rules.specs.Papers.{Paper}
use Rattle.papers.specs.Comments.{Medium, medium_of_page, page_head, paper_of_medium}
use Rattle.papers.specs.declared.known_media.KnownMedia.{KnownMedia}

-- what is kept at this name: of the first medium with it the paper, once it is found
abbrev pub found_at : KnownMedia → (name : List ℕ) → Option (Option (Option Paper))
found_at known name = get_by (λ k. slice_cmp nat_cmp name k.items) known.papers

-- the paper by this name
abbrev pub known_paper : KnownMedia → (name : List ℕ) → Option Paper
known_paper known name = option_and_then (λ found. option_and_then (λ paper. paper) found) (found_at known name)

-- a name is kept, and nothing is found of it
abbrev pub is_name_missing : Option (Option (Option Paper)) → Bool
is_name_missing None = false
is_name_missing (Some None) = true
is_name_missing (Some (Some paper)) = false

-- what is found of a name with one more medium, and with more of them
abbrev pub with_medium : (name : List ℕ) → Option (Option Paper) → Medium → Option (Option Paper)
with_medium name (Some paper) m = Some paper
with_medium name None m = if bytes_eq m.name name then Some m.paper else None

abbrev pub with_media : (name : List ℕ) → Option (Option Paper) → List Medium → Option (Option Paper)
with_media name found [] = found
with_media name found (m ∷ ms) = with_media name (with_medium name found m) ms

-- a page's name is kept, and nothing is found of it
abbrev pub IsNameKept : KnownMedia → (page : List ℕ) → Type 0
IsNameKept known page = IfSome (medium_of_page (page_head page)) (λ name. found_at known name ≡ Some None)

-- by its name a page has the paper of the first of these media with it
abbrev pub Knows : KnownMedia → List Medium → (page : List ℕ) → Type 0
Knows known media page = IfSome (medium_of_page (page_head page)) (λ name. known_paper known name ≡ paper_of_medium name media)

-- the known media are those of all of these pages
abbrev pub KnowsAll : KnownMedia → List Medium → (pages : List (List ℕ)) → Type 0
KnowsAll known media pages = (k : ℕ) → k < length pages → Knows known media (slice_index_or pages k [])
