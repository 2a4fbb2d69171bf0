-- Read in this order. Who asks what `deliver` calls may stop after `HandingBack`; what `impose` calls is in
-- `LookUps` alone. The others weigh the calls of a whole run, which the laws speak of.
pub mod Delivery
pub mod HandingBack
pub mod LookUps
pub mod Duty
pub mod Reading
pub mod Gathered
