-- What a refusal to read a specification says.
use Rattle.std.specs.Prelude.{◌≤◌, ℕ, List, length, Option, Some, None}
use Rattle.rules.specs.Admissible.{Refuses, Fault, most_slots, most_spec_bytes}
use Rattle.pagespec.specs.declared.error.SpecError.{SpecError}
use Rattle.pagespec.specs.declared.error.SpecError.TheVariants.{Syntax}
use Rattle.pagespec.specs.Faults.{fault_named}
use Rattle.pagespec.specs.Places.{IsPlaceIn}

-- a text's first fault; out of memory says only that the text isn't too long
abbrev pub NamesFault : List ℕ → Option Fault → Type 0
NamesFault text None = length text ≤ most_spec_bytes
NamesFault text (Some fault) = Refuses most_slots text fault

abbrev pub IsRefusal : List ℕ → SpecError → Type 0
IsRefusal text e = NamesFault text (fault_named e)

-- the place of a syntax fault is how far some text of the grammar goes along with the text
abbrev pub IsSyntaxPlace : List ℕ → SpecError → Type 0
IsSyntaxPlace text (Syntax at) = IsPlaceIn text at
IsSyntaxPlace text e = Unit {0}
