-- Read in this order: what the values of options mean; what a command line asks for; lines and
-- statuses; what a run of a request leaves and says; the whole program.
pub mod Values
pub mod Command
pub mod Messages
pub mod RequestRuns
pub mod Programs
