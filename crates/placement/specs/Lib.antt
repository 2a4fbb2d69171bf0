-- Read in this order: what an append leaves of a vector; the meaning of a matrix of the code; the texts before a
-- page, in parts; what is read from a printed matrix.
pub mod Kept
pub mod Matrices
pub mod Fronts
pub mod Printed
