-- The shelf, and the tokens of its entries.
use Rattle.std.specs.Prelude.{◌≡◌, ◌<◌, List}
use Rattle.boxcar.specs.Table.{Shelves, id_at}
use Rattle.rules.specs.Parts.{NestedUnit, pages}
use Rattle.handover.specs.Pages.{PreparedPage}
use Rattle.handover.specs.Naming.{pages_in}
use Rattle.handover.specs.Entries.{EntryToken, IsPageOfRow}
use Rattle.handover.specs.declared.receipts.PutError.{PutError}
use Rattle.handover.specs.declared.receipts.PutError.TheVariants.{NoMemory, ShelfFull}

-- the token was given for an entry of this shelf, so some call returned it. As plain data there is a token for each
-- index and page, so no clause can say only that there is one
abbrev pub IsOn : Shelves → EntryToken → Type 0
IsOn shelf token = token.row ≡ id_at shelf.buckets token.bucket

-- what a put without a receipt leaves: the page is returned, or it is on the shelf at an index of more than 32 bits
abbrev pub GivesNoReceipt : Shelves → PreparedPage → PutError → Type 0
GivesNoReceipt shelf page (NoMemory back) = back ≡ page
GivesNoReceipt shelf page (ShelfFull token) = IsOn shelf token × (token.value ≡ page) × (4_294_967_295 < token.index)

-- the shelf belongs to the document with these units
abbrev pub IsShelfOf : Shelves → List NestedUnit → Type 0
IsShelfOf shelf us = pages_in shelf.tag ≡ pages us

-- the page is one of the document of the shelf
abbrev pub IsOwn : Shelves → PreparedPage → Type 0
IsOwn shelf page = IsPageOfRow shelf.tag page
