-- Read in this order: which strokes mark where sheets are cut and folded; lines for notes; the lines that draw strokes, and
-- the dress that has these; numbers of pages; what holds of them.
-- Read in this order: sizes as they are printed; what marks leave of what is found.
pub mod Strokes
pub mod Ruled
pub mod Drawn
pub mod Numbered
pub mod AtFoot
pub mod Laws
pub mod Between
pub mod Sizes
pub mod Quiet
