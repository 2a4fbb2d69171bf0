-- LinesIn says what lines are; PageNumbers which of them draw numbers; Dressings which a dress gives to sheets; Jobs what is to
-- be imposed, and the texts that come of it; Ropes which bytes a text in pieces has; Rooms how much room it is given.
pub mod Dressings
pub mod Jobs
pub mod LinesIn
pub mod PageNumbers
pub mod PapersOf
pub mod Rooms
pub mod Ropes
pub mod Texts
