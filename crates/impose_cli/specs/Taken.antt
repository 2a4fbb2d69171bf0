-- Which of its pages a request takes of a document, and how many.
use Rattle.std.specs.Prelude.{ℕ, zero, suc, ◌+◌, ◌==◌, ◌||◌, Bool, false, if◌then◌else◌, List, [], ◌∷◌, length, Option, Some, None, Result, Ok, Err}
use Rattle.rules.specs.Parts.{NestedUnit, pages}
use Rattle.rules.specs.Choice.{RowFault, imposed_row}
use Rattle.rules.specs.Rows.{Row}
use Rattle.impose_words.specs.Choices.{choice_in}
use Rattle.impose_words.specs.declared.request.ImposeRequest.{ImposeRequest}

-- an entry of a row is this page
abbrev pub is_entry_of : Option ℕ → (page : ℕ) → Bool
is_entry_of None page = false
is_entry_of (Some entry) page = entry == page

-- a row takes this page
abbrev pub takes : Row → (page : ℕ) → Bool
takes [] page = false
takes (entry ∷ row) page = is_entry_of entry page || takes row page

-- the row that is imposed, before it is sewn; an empty one if there is no such row, which the run says
abbrev pub row_or_none : Result Row RowFault → Row
row_or_none (Ok row) = row
row_or_none (Err fault) = []

abbrev pub row_in : ImposeRequest → List NestedUnit → Row
row_in r us = row_or_none (imposed_row (length (pages us)) (choice_in r.choice) None)

-- how many of the first so many pages a row takes: each counts once
abbrev pub taken_below : Row → (pages : ℕ) → ℕ
taken_below row zero = 0
taken_below row (suc n) = taken_below row n + (if takes row n then 1 else 0)

-- how many of a document's pages a request takes (RULES, 17)
abbrev pub taken_in : ImposeRequest → List NestedUnit → ℕ
taken_in r us = taken_below (row_in r us) (length (pages us))
