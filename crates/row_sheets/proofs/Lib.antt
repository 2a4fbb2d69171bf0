pub mod BlockByBlock
pub mod GroupByGroup
mod Runs
mod Behind
mod BackToBack
mod Inside
pub mod OnSheets
pub mod InCells
mod Places
pub mod OnLeaves
pub mod Halves
pub mod LeftGap
pub mod Refused
mod Leaves
mod Creeping
pub mod Folding
pub mod Stacking
pub mod Zines
pub mod ZineCells
mod Largest
mod AtRest
mod Tiles
mod Fewest
pub mod Shown
mod OneScale
mod Examples
pub mod Filling
mod Before
mod Offsets
mod AsDocument
pub mod NoPlan
pub mod CardGrid
