-- What a shelf holds: pages, each with whether it was put as one of the document's own.
use Rattle.std.specs.Prelude.{◌≡◌, ℕ, Bool, List, [], IsTrue, slice_index_or}
use Rattle.boxcar.specs.Table.{Where}
use Rattle.handover.specs.Pages.{PreparedPage}
use Rattle.handover.specs.Naming.{pages_in}
use Rattle.handover.specs.declared.entry.Entry.{Entry}

-- the page has the bytes that the document named by this row has for its number, and none if that document has no such page
abbrev pub IsPageOfRow : List ℕ → PreparedPage → Type 0
IsPageOfRow row page = page.raw ≡ slice_index_or (pages_in row) page.page []

-- the rule of a shelf's entries: a page that was put as one of the document that the shelf's tag names is one
abbrev pub IsRightlyOwn : List ℕ → Entry → Type 0
IsRightlyOwn row entry = IsTrue entry.is_own → IsPageOfRow row entry.page

-- what a clause sees of the token of an entry: the index, the page, whether it was put as one of the document's own, and where the
-- shelf keeps it
pub record EntryToken : Type 0 where
  pub index : ℕ
  pub value : PreparedPage
  pub is_own : Bool
  pub bucket : ℕ
  pub row : ℕ
  pub item : ℕ

abbrev pub entry_token : Where Entry → EntryToken
entry_token token = record {
  index = token.index;
  value = token.value.page;
  is_own = token.value.is_own;
  bucket = token.bucket;
  row = token.row;
  item = token.item;
}
