pub mod Chain
pub mod Numerals
pub mod Examples
