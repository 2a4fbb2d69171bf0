pub mod Reading
pub mod Naming
pub mod Examples
pub mod Lates
