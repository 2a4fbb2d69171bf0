-- Arguments that count for themselves alone, each under an id of its own.
use Rattle.std.specs.Prelude.{◌∷◌, ◌&&◌, Bool, true, not, List, [], codes}
use Rattle.std.specs.List.{list_any}
use Rattle.std.specs.Str.{bytes_eq}
use Rattle.clap.specs.Words.{Rule, Text}

-- the id is neither empty nor one that clap adds
abbrev pub is_own_id : Text → Bool
is_own_id id = not (bytes_eq id []) && (not (bytes_eq id (codes "help")) && not (bytes_eq id (codes "version")))

-- an argument that counts for itself alone, whatever is beside it
abbrev pub stands_by_itself : Rule → Bool
stands_by_itself r = r.is_simple && (r.is_free && is_own_id r.id)

-- one of the rules has the id
abbrev pub is_met : Text → List Rule → Bool
is_met id = list_any (λ r. bytes_eq r.id id)

-- no two rules have the same id
abbrev pub are_distinct : List Rule → Bool
are_distinct [] = true
are_distinct (r ∷ rest) = not (is_met r.id rest) && are_distinct rest
