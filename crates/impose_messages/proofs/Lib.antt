mod OneByOne
mod Pieces
mod NoRoom
pub mod Examples
mod InputExamples
