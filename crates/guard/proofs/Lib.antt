pub mod Guarding
pub mod Gluing
pub mod TheGuard
pub mod Serving
pub mod Sizes
mod SetupTokens
pub mod Examples
