-- Read in this order: a run; a run on planned sheets (if you only want to know what `gather` leaves, stop after `Listening`); its
-- workers; their threads, which know no pages; numbers that an imposer holds. What a delivery and an imposition call is in
-- `run_steps`.
pub mod Options
pub mod Faults
pub mod Statuses
pub mod Runs
pub mod Again
pub mod Workers
pub mod Outcomes
pub mod Gathering
pub mod Listening
pub mod Tokens
pub mod Rooms
pub mod Windows
pub mod Joining
pub mod CollectorStart
pub mod Promises
pub mod Growth
pub mod HandlePromises
pub mod SheetNumbers
