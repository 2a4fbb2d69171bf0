-- Pages after a trailer, as in a file of two documents, one appended to the other. They belong to no document here,
-- so none of them is imposed. Counting them is a rule of this project.
use Rattle.std.specs.Prelude.{ℕ, List, filter, length}
use Rattle.rules.specs.Parts.{NestedUnit, begins_page, trailer}

-- the number of these units that begin a page
abbrev pub page_lines : List NestedUnit → ℕ
page_lines us = length (filter begins_page us)

-- the number of pages after the line that begins the trailer: none, if there is no trailer
abbrev pub pages_after : List NestedUnit → ℕ
pages_after us = page_lines (trailer us)
