pub mod Commands
pub mod Cutting
pub mod Values
pub mod Found
mod Listed
pub mod Examples
pub mod CommandLines
pub mod SpacingExamples
mod SheetPaperExamples
