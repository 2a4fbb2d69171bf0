pub mod SimpleCommand
pub mod WorkerNumbers
pub mod ValueFaults
pub mod Statuses
pub mod Programs
pub mod Examples
