-- Read in this order: what is seen of an output; what is left of a world; how an input is read; what a world was asked; an
-- output that is created late.
pub mod Outputs
pub mod Rests
pub mod Input
pub mod Worlds
pub mod Creating
pub mod Lates
