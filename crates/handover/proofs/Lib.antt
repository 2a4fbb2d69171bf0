pub mod Naming
pub mod Histories
pub mod Rooms
mod RuleKept
mod Views
pub mod Moves
