-- Which pages are on which sheets. Pages, sheets, items and slots are counted from 0. Blocks, and the minus that
-- counts pages from the end of the document, are of pstops(1), DESCRIPTION and EXAMPLES. It is a rule of this
-- project that the last block is filled with blanks before pages are counted from the end.
use Rattle.std.specs.Prelude.{◌≡◌, ℕ, ◌+◌, ◌-◌, ◌*◌, ◌/◌, nat_lt, if◌then◌else◌, List, map, flat_map, Option, Some}
use Rattle.std.specs.Prelude.{None, length}
use Rattle.std.specs.List.{range_with_len}
use Rattle.rules.specs.Specification.{Item, Spec}

-- how many blocks of m the places 0 to n - 1 take, the last one filled up
abbrev pub blocks : (m n : ℕ) → ℕ
blocks m n = (n + (m - 1)) / m

-- the place that an item names in a block. With a minus, blocks are counted from the end of the filled row; places
-- inside a block are counted from its start in either case
abbrev pub place : (m n block : ℕ) → Item → ℕ
place m n block item = if item.from_end then m * blocks m n - (block + 1) * m + item.page else block * m + item.page

-- the page at a place; None is a blank
abbrev pub page_at : (n place : ℕ) → Option ℕ
page_at n place = if nat_lt place n then Some place else None

-- one place on a sheet: a page or a blank, and the item that says how it is placed
pub record Slot : Type 0 where
  pub page : Option ℕ
  pub item : Item

-- the sheets of a specification on a row of this many entries, each of which is a page or a blank. There is one
-- sheet for each group of each block, block by block
abbrev pub sheets_over : Spec → (entries : ℕ) → (entry : ℕ → Option ℕ) → List (List Slot)
sheets_over spec entries entry =
    flat_map (λ b. map (λ g.
    map (λ i. record { page = entry (place spec.modulo entries b i); item = i }) g) spec.groups)
    (range_with_len 0 (blocks spec.modulo entries))

-- the sheets of a specification on n pages
abbrev pub sheets : Spec → ℕ → List (List Slot)
sheets spec n = sheets_over spec n (page_at n)

-- a law: there is a sheet for each group in each block
abbrev pub SheetCount : Type 0
SheetCount = (spec : Spec) (entries : ℕ) (entry : ℕ → Option ℕ)
    → length (sheets_over spec entries entry) ≡ blocks spec.modulo entries * length spec.groups

-- a number of pages, and the sheets that they are placed on
pub record Plan : Type 0 where
  pub pages : ℕ
  pub sheets : List (List Slot)

-- what is gathered for a plan: per sheet its slots, each with its page or blank
pub record Layout : Type 0 where
  pub pages : ℕ
  pub sheets : List (List (Option ℕ))

abbrev pub layout : Plan → Layout
layout plan = record { pages = plan.pages; sheets = map (λ slots. map (λ slot. slot.page) slots) plan.sheets }
