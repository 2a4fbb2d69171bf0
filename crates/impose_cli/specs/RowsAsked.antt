-- The row that a request asks for, and how it is put into the cells of sheets.
use Rattle.std.specs.Prelude.{ℕ, ◌==◌, if◌then◌else◌, Option, Some, None, option_map}
use Rattle.layouts.specs.Grids.{cells_per_sheet}
use Rattle.rows.specs.Printed.{RowAsked}
use Rattle.rows.specs.Sewing.{signing_of}
use Rattle.rows.specs.declared.printed.Begun.{Begun}
use Rattle.rows.specs.declared.printed.Begun.TheVariants as begun
use Rattle.rows.specs.declared.sewing.Signing.{Signing}
use Rattle.row_sheets.specs.declared.fill.Scheme.{Scheme}
use Rattle.row_sheets.specs.declared.fill.Scheme.TheVariants as scheme
use Rattle.impose_words.specs.Choices.{choice_in}
use Rattle.impose_words.specs.declared.request.Spacing.{Spacing}
use Rattle.impose_words.specs.declared.request.Layout.{Layout}
use Rattle.impose_words.specs.declared.request.Layout.TheVariants as layout
use Rattle.impose_words.specs.declared.request.ImposeRequest.{ImposeRequest}

-- how a layout's row is sewn
abbrev pub signing_in : Layout → Option Signing
signing_in (layout.Booklet signing long_edge) = Some signing
signing_in (layout.Spec specs signing) = signing
signing_in other = None

-- where the row begins on the first sheet
abbrev pub begun_in : Layout → Spacing → Begun
begun_in (layout.Cards cells) s = if s.skipped == 0 then begun.Pages 0 else begun.Cards (cells_per_sheet cells) s.skipped
begun_in other s = begun.Pages s.skipped

-- the scheme by which a row fills this number of cells: cell by cell, unless the layout has another one. If some cells are used already, cards are
-- filled cell by cell too, each entry as often as it has cards
abbrev pub scheme_in : Layout → Spacing → (cells : ℕ) → Scheme
scheme_in (layout.Cards cells) s n = if s.skipped == 0 then scheme.Cards n else scheme.Grid n
scheme_in (layout.Stack cells duplex) s n = if duplex then scheme.Leaves else scheme.Stack n
scheme_in (layout.Notes pages) s n = scheme.Grid pages
scheme_in layout.Zine s n = scheme.Zine
scheme_in other s n = scheme.Grid n

abbrev pub row_asked : ImposeRequest → RowAsked
row_asked r = record {
  choice = choice_in r.choice;
  signing = option_map signing_of (signing_in r.layout);
  last_at_back = r.last_at_back;
  begun = begun_in r.layout r.spacing;
}
