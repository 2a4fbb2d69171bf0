pub mod Digits
pub mod Numbers
pub mod Powers
mod Shares
pub mod Scans
pub mod LastZeros
pub mod WholeNumbers
pub mod Table
pub mod ReadAgain
pub mod NumbersAndUnits
pub mod Examples
