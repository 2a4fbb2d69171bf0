-- Read in this order: what comments say; a page's own paper, and what is said of two papers; how sheets report theirs;
-- what is found of it.
-- Read in this order: media that a document knows, as the code keeps them; papers that count as one; pages that a
-- paper cuts; pages that reach beyond their papers.
pub mod Media
pub mod Comments
pub mod Own
pub mod Reported
pub mod SetSizes
pub mod Found
pub mod Named
pub mod AsOne
pub mod Cuts
pub mod Reach
