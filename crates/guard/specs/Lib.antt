-- Read in this order: what is inserted, and where; how a text with room is seen; what stays; setups that place pages.
pub mod PutIn
pub mod Guard
pub mod Texts
pub mod Laws
pub mod Setups
