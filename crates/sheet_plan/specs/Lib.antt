-- Read in this order: what is read from a plan, which plans are accepted, where the pages are, what holds of that,
-- how the code lists them.
pub mod Plans
pub mod Refusals
pub mod Places
pub mod Placed
pub mod Laws
pub mod Index
pub mod Nothing
pub mod OfSheets
pub mod Store
pub mod MadeRefusals
pub mod Sources
