-- Read in this order: sheets of a row, and those of a specification; sheets whose cells are filled from a row, and how, or
-- which of its pages is refused; one scale for all; leaves that creep; how sheets are laid out; where booklets have their pages; how booklets, stacks and
-- zines are read; posters; sheets of a specification, as it is printed; rows that are laid as documents.
pub mod RowSheets
pub mod BySpec
pub mod Filled
pub mod FirstFault
pub mod Shapes
pub mod SameScale
pub mod Creep
pub mod Standing
pub mod Halves
pub mod Bound
pub mod Stacked
pub mod Zine
pub mod Posters
pub mod AsDocument
pub mod Schemes
