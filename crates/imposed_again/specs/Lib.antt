-- What joined texts are cut into. What a run wrote, read again: of a specification's sheets, and of made ones.
pub mod Seams
pub mod Again
pub mod MadeAgain
