pub mod Examples
pub mod SideExamples
pub mod Places
mod TrailerLines
mod Outside
mod Alone
mod Counted
mod AsMany
mod OneScale
mod NotLaid
mod Turned
mod Turns
mod Reach
mod Backs
pub mod Refused
mod Fit
mod Written
mod Boxes
mod InCells
mod Rooms
mod InHalves
mod Kept
mod NumbersLie
mod ReadInOrder
mod WrittenOrder
