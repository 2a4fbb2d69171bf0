-- Read in this order: faults, also of inputs; with which status the program ends; how large pages become; what is said of its end.
pub mod Faults
pub mod Inputs
pub mod Statuses
pub mod Scales
pub mod Said
