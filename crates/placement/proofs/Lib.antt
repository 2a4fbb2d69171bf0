pub mod Joining
pub mod Keeping
pub mod Near
pub mod Putting
pub mod Rows
mod Sizes
