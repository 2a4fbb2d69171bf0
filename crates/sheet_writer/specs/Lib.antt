-- Read in this order: what is seen of a sink; how far a run's output is written, which has all that `imposer` uses;
-- and the sink that keeps its bytes in memory, which tests use.
pub mod Sinks
pub mod Writing
pub mod Memory
pub mod Places
