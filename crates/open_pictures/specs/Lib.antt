-- Read in this order: the machine with further operators; what is asked of these; the current point, and operators that see no
-- place; pages, sheets and documents. Then, of guarded documents: a page by itself; pages, sheets and documents; made sheets; documents
-- with a showpage of their own, or an empty one. Operators on values and on matrices of numbers, and a table of such. What strokes
-- paint; how a sheet's size is set; what is printed of all sheets, with the guard and without. Last, what is said of a real
-- document; and documents of cases/documents, byte for byte (checks/paintings/theorems compares them).
pub mod Machine
pub mod Blindness
pub mod Strings
pub mod Points
pub mod Operators
pub mod Sheets
pub mod Documents
pub mod DocumentRun
pub mod Shelter
pub mod Pages
pub mod Imposed
pub mod OwnShowpage
pub mod Silenced
pub mod Stores
pub mod Composites
pub mod Matrices
pub mod Values
pub mod Marks
pub mod Sizes
pub mod DressedDocuments
pub mod Unguarded
pub mod RealDocuments
pub mod Barcode
pub mod Groff
