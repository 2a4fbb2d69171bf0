-- What a table of the program keeps beside its words.
use Rattle.std.specs.Prelude.{◌≡◌, ℕ, ◌<◌, List, length, slice_index_or}
use Rattle.rules.specs.Sheets.{Layout}
use Rattle.gather_table.specs.declared.lane.Home.{Home}
use Rattle.gather_table.specs.Table.{IsSoundLayout}
use Rattle.gather_table.specs.Lanes.{wide_at}
use Rattle.gather_table.specs.Homes.{IsHome}

-- the number of words and of pages, and for each sheet the number of its slots and where its bits are
pub record KeepsCounts (layout : Layout) (words page_count : ℕ) (homes : List Home) : Type 0 where
  pub sound : IsSoundLayout layout
  pub pages : page_count ≡ layout.pages
  pub words_are : words ≡ wide_at layout (length layout.sheets)
  pub count : length homes ≡ length layout.sheets
  pub homes_are : (s : ℕ) (d : Home) → s < length layout.sheets → IsHome layout s (slice_index_or homes s d)
