-- Read in this order: what is written of made sheets. Then, of a row: what errors are called; layings with one scale; limits;
-- the sheets that are asked for, how their pages are placed and read, turned pages; backs; which places can be written; their marks and
-- numbers; what the answers mean; how sheets are read; what is shown of them before they are imposed.
-- At last, how many pages a document says that it has.
pub mod SheetsRuns
pub mod Errors
pub mod Evened
pub mod Limits
pub mod Sheets
pub mod Standing
pub mod InPlaces
pub mod ReadAsBound
pub mod Turning
pub mod SwappedMargins
pub mod Reaching
pub mod Marked
pub mod Numbers
pub mod NumbersLie
pub mod Runs
pub mod Written
pub mod Readings
pub mod Looks
pub mod DeclaredPages
