-- Read in this order: papers by their names; papers by their sizes; the paper at home.
pub mod Names
pub mod Sizes
pub mod Home
