-- Which pages a request chooses.
use Rattle.std.specs.Prelude.{Bool, true, false, ◌&&◌, not, is_none, option_map, string_bytes}
use Rattle.rules.specs.Choice.{Choice}
use Rattle.rows.specs.Choices.{part_named}
use Rattle.rows.specs.declared.choices.Part.{Part}
use Rattle.rows.specs.declared.choices.Part.TheVariants.{All, Odd, Even}
use Rattle.impose_words.specs.declared.request.PageChoice.{PageChoice}

-- as the row's definition has it
abbrev pub choice_in : PageChoice → Choice
choice_in c = record { ranges = option_map string_bytes c.ranges; part = part_named c.part; backwards = c.backwards }

abbrev pub is_all : Part → Bool
is_all All = true
is_all Odd = false
is_all Even = false

-- all pages in their order, without any range
abbrev pub is_all_pages : PageChoice → Bool
is_all_pages c = is_none c.ranges && is_all c.part && not c.backwards
