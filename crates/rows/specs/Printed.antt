-- The row that is printed: which entries it has, in which order, and where it begins on the first sheet (RULES, 11 and 14).
use Rattle.std.specs.Prelude.{◌≡◌, ℕ, ◌==◌, ◌++◌, Bool, true, false, ◌&&◌, not, is_none, drop, flat_map, replicate, take, option_map, Option, Some, None, Result, Ok}
use Rattle.rules.specs.Units.{◌>>=◌}
use Rattle.rules.specs.Rows.{Row}
use Rattle.rules.specs.Choice.{Choice, Part, All, Odd, Even, RowFault, Signing, chosen, signed_if}
use Rattle.rows.specs.Choices.{choice_of}
use Rattle.rows.specs.LastPage.{last_at_back_if}
use Rattle.rows.specs.Sewing.{signing_of}
use Rattle.rows.specs.declared.printed.RowRequest as code
use Rattle.rows.specs.declared.printed.Begun.{Begun}
use Rattle.rows.specs.declared.printed.Begun.TheVariants as begun

-- what is asked of a row: its pages, how it is put into signatures, whether the last page is at the back, and where it begins
pub record RowAsked : Type 0 where
  pub choice : Choice
  pub signing : Option Signing
  pub last_at_back : Bool
  pub begun : Begun

abbrev pub asked_by : code.RowRequest → RowAsked
asked_by r = record { choice = choice_of r.choice; signing = option_map signing_of r.signing; last_at_back = r.last_at_back; begun = r.begun }

-- a row begins after the used cells; cards have each entry in all cells of a sheet, except in used ones
abbrev pub begun_row : Begun → Row → Row
begun_row (begun.Pages used) row = replicate used None ++ row
begun_row (begun.Cards cells used) row = replicate used None ++ drop used (flat_map (replicate cells) row)

-- a row as it is laid: in signatures, or from where it begins
abbrev pub laid_row : Begun → Option Signing → Row → Row
laid_row b None row = begun_row b row
laid_row b (Some how) row = signed_if (Some how) row

-- the row as it is read, of a document with so many pages, or its fault; blanks come before its last page if that is asked for
abbrev pub row_read : (pages : ℕ) → RowAsked → Result Row RowFault
row_read pages a = chosen pages a.choice >>= λ row. Ok (last_at_back_if a.last_at_back a.signing row)

-- the same row as it is printed
abbrev pub printed_row : RowAsked → Row → Row
printed_row a row = laid_row a.begun a.signing row

-- ---- a row that asks for nothing of its own

abbrev pub keeps_all : Part → Bool
keeps_all All = true
keeps_all Odd = false
keeps_all Even = false

abbrev pub is_at_first : Begun → Bool
is_at_first (begun.Pages used) = used == 0
is_at_first (begun.Cards cells used) = false

-- all pages in their order, from the first cell on, with blanks after the last one; in signatures or not
abbrev pub is_plain : RowAsked → Bool
is_plain a = is_none a.choice.ranges && keeps_all a.choice.part && not a.choice.backwards && not a.last_at_back && is_at_first a.begun

-- ---- laws

-- used cells are blank. After them is the row, or in each cell what cards have there on a whole sheet
pub record LeavesUsed (cells used : ℕ) (row : Row) : Type 0 where
  pub blank : take used (begun_row (begun.Pages used) row) ≡ replicate used None
  pub kept : drop used (begun_row (begun.Pages used) row) ≡ row
  pub blank_cards : take used (begun_row (begun.Cards cells used) row) ≡ replicate used None
  pub kept_cards : drop used (begun_row (begun.Cards cells used) row) ≡ drop used (flat_map (replicate cells) row)

abbrev pub BegunLeavesUsed : Type 0
BegunLeavesUsed = (cells used : ℕ) (row : Row) → LeavesUsed cells used row
