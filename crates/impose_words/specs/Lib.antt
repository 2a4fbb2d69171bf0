-- Read in this order: the command, and its values, sizes, edges, signatures, cells, the sizes of posters, choices of pages,
-- what is kept free, the paper of the sheets and what is made among them; what the words ask for; what would do nothing; what is refused; the options as a text.
pub mod Command
pub mod Sizes
pub mod Edges
pub mod Signatures
pub mod Arranging
pub mod PosterSizes
pub mod Choices
pub mod Spacings
pub mod SheetPapers
pub mod Products
pub mod Words
pub mod IdleOptions
pub mod Faults
pub mod Options
