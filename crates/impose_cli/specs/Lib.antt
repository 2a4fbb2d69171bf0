-- Read in this order: fonts that pages borrow, copies that are lost, and what a document says of itself; which of its pages are taken, and the row
-- that a request asks for; what a document's error makes of a request; what a run on a row writes; how large a poster is; what a request comes to with a document, and
-- what is refused; what its run leaves; what a look shows; what is printed; what is checked unread; laws; the fronts of files; the whole
-- program, and what its success means.
pub mod Fonts
pub mod Copies
pub mod Claims
pub mod Taken
pub mod RowsAsked
pub mod Reaches
pub mod Loose
pub mod Faults
pub mod Tasks
pub mod Lying
pub mod RowRuns
pub mod PosterSizes
pub mod RowTasks
pub mod Refusals
pub mod Endings
pub mod Looks
pub mod Printed
pub mod Precheck
pub mod Laws
pub mod Fronts
pub mod Programs
pub mod Finished
