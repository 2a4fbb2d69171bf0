-- What files in memory give; what a world of them was asked for.
pub mod Files
pub mod Traces
