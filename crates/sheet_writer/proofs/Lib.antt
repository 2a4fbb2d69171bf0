pub mod Appending
pub mod Examples
pub mod Sheets
pub mod Fronts
pub mod Places
pub mod InRow
pub mod Marked
