-- What a run of pstops over files in memory leaves.
pub mod InMemory
