-- Read in this order: the ranges of numbers, lengths and papers; units; reading the front of a text, as a function;
-- what a refusal says; how printed numbers are read again; lengths as people write them.
pub mod Ranges
pub mod Units
pub mod Reading
pub mod Refusals
pub mod Printed
pub mod Lengths
