pub mod Chains
pub mod Numbered
pub mod Cuts
pub mod InOrder
pub mod Examples
