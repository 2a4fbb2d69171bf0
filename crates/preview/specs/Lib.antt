-- Read in this order: how sheets are numbered; which place is where on them; in which ways pages lie on them; the text of
-- a plan.
pub mod Naming
pub mod Reading
pub mod Ways
pub mod Listing
