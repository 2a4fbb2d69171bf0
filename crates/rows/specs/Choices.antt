-- The row that is chosen, in terms of the code.
use Rattle.std.specs.Prelude.{ℕ, List, Option, Some, None}
use Rattle.std.specs.Borrow.{Bor}
use Rattle.rules.specs.Rows.{Row, all_pages}
use Rattle.rules.specs.Choice.{Choice, Part, All, Odd, Even}
use Rattle.rows.specs.declared.choices.Choice as code
use Rattle.rows.specs.declared.choices.Part as part
use Rattle.rows.specs.declared.choices.Part.TheVariants as part_is
use Rattle.rows.specs.Found.{row_found}

abbrev pub part_named : part.Part → Part
part_named part_is.All = All
part_named part_is.Odd = Odd
part_named part_is.Even = Even

abbrev pub ranges_text : Option (Bor (List ℕ)) → Option (List ℕ)
ranges_text None = None
ranges_text (Some text) = Some text.now

-- RULES, 11
abbrev pub choice_of : code.Choice → Choice
choice_of c = record { ranges = ranges_text c.ranges; part = part_named c.part; backwards = c.backwards }

-- the row of ranges that the document has, or of all pages
abbrev pub named_found : (pages : ℕ) → Option (Bor (List ℕ)) → Row
named_found pages None = all_pages pages
named_found pages (Some text) = row_found pages text.now
