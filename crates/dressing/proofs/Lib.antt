pub mod Plain
pub mod Tame
pub mod Joined
pub mod Pairs
pub mod Outside
mod Past
pub mod Between
pub mod OnFold
pub mod Beside
pub mod RowByRow
pub mod Examples
pub mod Turns
pub mod Given
pub mod Quiet
pub mod AtFoot
