-- Read in this order: prepared pages and what they keep of their bodies, the row that names a document's pages,
-- what a shelf holds, the shelf and its tokens; histories of the queue, the queue and its passes as clauses see
-- them, the laws of histories and of passes; the rule that every step keeps, and what each step reveals.
pub mod Pages
pub mod Kept
pub mod Naming
pub mod Entries
pub mod Shelves
pub mod Queue
pub mod Passes
pub mod Laws
pub mod Rule
pub mod Steps
