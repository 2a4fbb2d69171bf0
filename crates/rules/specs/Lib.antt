-- Read in this order: bytes, numbers and papers; what a specification says; which pages are on which sheets and
-- where; how a document is cut and what is kept of it; what is written; what is refused. Then, of impose: sheets as they
-- are made; what is added to the text of an output; the output of made sheets, and which are accepted; rows; texts that name
-- rows; what is chosen of them; leaves, and how they are read. Last, for any history: what its seats know and how that moves
-- between them; what every seat keeps to; seats as clauses see them; the laws of seats. The sources of the first part are pstops(1)
-- of psutils 1, the Document Structuring Conventions 3.0 (DSC below) and the PostScript Language Reference. Each
-- file first says what it takes from them; the rest are rules of this project.
pub mod Bytes
pub mod Numbers
pub mod Papers
pub mod Specification
pub mod Admissible
pub mod Sheets
pub mod Signatures
pub mod Placement
pub mod Units
pub mod Parts
pub mod Filters
pub mod Output
pub mod Run
pub mod Made
pub mod Dress
pub mod MadeOutput
pub mod Dressed
pub mod MadePlans
pub mod Rows
pub mod Ranges
pub mod Choice
pub mod Leaves
pub mod Seats
pub mod SeatRules
pub mod SeatCalls
pub mod SeatLaws
