-- A chosen row is laid as the document that consists of its pages.
use Rattle.std.specs.Prelude.{◌≡◌, ℕ, ◌<◌, Bool, List, length, map, Option, Some, slice_index_or}
use Rattle.std.specs.List.{AllByRecursion}
use Rattle.rules.specs.Papers.{Paper}
use Rattle.rules.specs.Made.{MadeSlot, Blank, Placed, MadeSheet}
use Rattle.rules.specs.Rows.{Row, all_pages, in_order_of}
use Rattle.layouts.specs.declared.setting.Setting.{Setting}
use Rattle.row_sheets.specs.Creep.{creeping_sheets}
use Rattle.row_sheets.specs.Filled.{card_sheets, duplex_sheets, grid_sheets, stack_sheets}
use Rattle.row_sheets.specs.RowSheets.{selected}
use Rattle.row_sheets.specs.SameScale.{at_one_scale}
use Rattle.row_sheets.specs.Shapes.{filling}

-- a slot with another number of its page
abbrev pub renamed_slot : (number : ℕ → ℕ) → MadeSlot → MadeSlot
renamed_slot number Blank = Blank
renamed_slot number (Placed page item paper) = Placed (number page) item paper

abbrev pub renamed : (number : ℕ → ℕ) → MadeSheet → MadeSheet
renamed number sheet = record { paper = sheet.paper; slots = map (renamed_slot number) sheet.slots }

-- in whatever way they are laid in these cells, or each alone, two rows of pages with these papers make the same sheets, but for
-- the numbers of pages; and they have the same scale, if it is to be one
pub record AreLaidAlike (number : ℕ → ℕ) (t : Setting) (papers others : List Paper) (row other : Row) : Type 0 where
  pub grid : (cells : ℕ) → grid_sheets (filling t papers) cells row ≡ map (renamed number) (grid_sheets (filling t others) cells other)
  pub cards : (cells : ℕ) → card_sheets (filling t papers) cells row ≡ map (renamed number) (card_sheets (filling t others) cells other)
  pub stack : (cells : ℕ) → stack_sheets (filling t papers) cells row ≡ map (renamed number) (stack_sheets (filling t others) cells other)
  pub leaves : duplex_sheets (filling t papers) row ≡ map (renamed number) (duplex_sheets (filling t others) other)
  pub booklet : (turned_backs : Bool) (creep leaves : ℕ)
      → creeping_sheets (filling t papers) turned_backs creep leaves row
      ≡ map (renamed number) (creeping_sheets (filling t others) turned_backs creep leaves other)
  pub alone : (blank : Paper) → selected papers blank row ≡ map (renamed number) (selected others blank other)
  pub one_scale : at_one_scale (filling t papers) row ≡ at_one_scale (filling t others) other

-- which page of a document is page k of the one that consists of these; one that isn't there has no paper
abbrev pub chosen_page : List Paper → (pages : List ℕ) → (k : ℕ) → ℕ
chosen_page papers pages k = slice_index_or pages k (length papers)

-- the papers of these pages; all have one
abbrev pub papers_at : List Paper → (other : Paper) → (pages : List ℕ) → List Paper
papers_at papers other pages = map (λ p. slice_index_or papers p other) pages

-- A row of pages, in signatures or not, is laid as all pages of a document that consists of them, as `select` writes it, where
-- the cells are the same (RULES, 11.2)
abbrev pub RowIsDocument : Type 0
RowIsDocument = (t : Setting) (sides : Option ℕ) (papers : List Paper) (other : Paper) (pages : List ℕ)
    → AllByRecursion (λ p. p < length papers) pages
    → AreLaidAlike (chosen_page papers pages) t papers (papers_at papers other pages) (in_order_of sides (map Some pages))
    (in_order_of sides (all_pages (length pages)))
