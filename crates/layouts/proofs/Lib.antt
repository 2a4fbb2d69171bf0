pub mod AlongSide
mod Standing
pub mod Sides
pub mod OnSide
pub mod InGrid
pub mod InOrder
mod Reach
pub mod Apart
mod BestGrid
mod Middle
pub mod InCell
mod Printing
mod Backs
pub mod Folds
mod LaidOut
pub mod Possible
pub mod Fitting
mod Narrow
mod Examples
