-- How a booklet is sewn, by the word of an option.
use Rattle.std.specs.Prelude.{ℕ, ◌%◌, ◌==◌, ◌&&◌, Bool, nat_eq, nat_le, if◌then◌else◌, List, Option, Some, None, codes}
use Rattle.std.specs.List.{starts_with}
use Rattle.std.specs.Str.{bytes_eq}
use Rattle.rules.specs.Signatures.{most_sides}
use Rattle.command_words.specs.Matches.{u32_of}
use Rattle.rows.specs.declared.sewing.Signing.{Signing}
use Rattle.rows.specs.declared.sewing.Signing.TheVariants.{OfSides, Auto}

-- a whole number in digits alone, as no sign is before a count
abbrev pub whole_number : List ℕ → Option ℕ
whole_number text = if starts_with nat_eq text (codes "+") then None else u32_of text

-- a signature may have so many pages: each of its leaves has four (RULES, 11.3)
abbrev pub are_sides : ℕ → Bool
are_sides n = nat_le 4 n && nat_le n most_sides && (n % 4 == 0)

abbrev pub of_sides : Option ℕ → Option Signing
of_sides None = None
of_sides (Some n) = if are_sides n then Some (OfSides n) else None

-- `auto`, or a number of pages
abbrev pub signing_named : List ℕ → Option Signing
signing_named text = if bytes_eq text (codes "auto") then Some Auto else of_sides (whole_number text)
