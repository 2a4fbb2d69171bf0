-- For what the calls promise, read `Units`, `Views`, `Faults`, `Bodies`, `TrailerBoxes`, `PagesAfter`, `Serving` and `Laws`,
-- in this order; the others are about parts of the code.
pub mod Bodies
pub mod Plain
pub mod Walks
pub mod Fields
pub mod Letters
pub mod Views
pub mod Laws
pub mod Marks
pub mod BodyStarts
pub mod Faults
pub mod Units
pub mod Documents
pub mod Later
pub mod Serving
pub mod Filters
pub mod Strings
pub mod TrailerBoxes
pub mod PagesAfter
pub mod Header
