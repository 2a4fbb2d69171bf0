pub mod RowOptions
pub mod ZineCells
pub mod InCells
pub mod Counted
pub mod Coming
pub mod Rows
mod SomePages
mod LooseOnes
mod DrawnAgain
mod FirstFound
mod PlacedEdges
pub mod Looking
pub mod Again
pub mod Examples
pub mod SheetExamples
pub mod Programs
pub mod TakenPages
pub mod ReachingTaken
mod Guarding
mod OfSize
pub mod Places
pub mod Finishing
pub mod OneText
