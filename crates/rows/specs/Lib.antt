-- Read in this order: what is found in a document of this many pages; how ranges are counted; what refusals say;
-- choices; how rows are sewn, and read; the last page at the back; rows as they are printed.
pub mod Found
pub mod Tallies
pub mod Refusals
pub mod Choices
pub mod Sewing
pub mod LastPage
pub mod Printed
