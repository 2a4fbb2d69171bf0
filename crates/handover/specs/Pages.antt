-- Prepared pages, as clauses see them.
use Rattle.std.specs.Prelude.{◌≡◌, ℕ, List, Ok}
use Rattle.rules.specs.Filters.{prepared}

-- a page with its number, its bytes in the input, and its body
pub record PreparedPage : Type 0 where
  pub page : ℕ
  pub raw : List ℕ
  pub body : List ℕ

-- the body is the prepared form of the page's bytes
abbrev pub IsPrepared : PreparedPage → Type 0
IsPrepared p = prepared p.raw ≡ Ok p.body
