-- The first fault, on the items as they were parsed.
use Rattle.std.specs.Prelude.{ℕ, Bool, ◌==◌, ◌||◌, nat_lt, nat_le, if◌then◌else◌, List, length, position, Option, Some}
use Rattle.std.specs.Prelude.{None, option_map}
use Rattle.std.specs.List.{list_any}
use Rattle.std.specs.Option.{option_or}
use Rattle.rules.specs.Numbers.{greatest_whole}
use Rattle.rules.specs.Admissible as rules
use Rattle.pagespec.specs.declared.error.SpecError.{SpecError}
use Rattle.pagespec.specs.declared.error.SpecError.TheVariants.{TooLong, Syntax, TooLarge, ModuloZero, PageOutOfBlock}
use Rattle.pagespec.specs.declared.error.SpecError.TheVariants.{ScaleZero, Repeated, TooManySlots, TooManyGroups}
use Rattle.pagespec.specs.declared.error.SpecError.TheVariants.{NoMemory}
use Rattle.pagespec.specs.declared.parsed.ParsedItem.{ParsedItem}

-- the fault that a refusal names; out of memory names none
abbrev pub fault_named : SpecError → Option rules.Fault
fault_named TooLong = Some rules.TooLong
fault_named (Syntax at) = Some rules.Syntax
fault_named TooLarge = Some rules.TooLarge
fault_named ModuloZero = Some rules.ModuloZero
fault_named (PageOutOfBlock item) = Some (rules.PageOutOfBlock item)
fault_named (ScaleZero item) = Some (rules.ScaleZero item)
fault_named (Repeated item) = Some (rules.Repeated item)
fault_named (TooManySlots group) = Some (rules.TooManySlots group)
fault_named TooManyGroups = Some rules.TooManyGroups
fault_named NoMemory = None

abbrev pub has_too_large : ℕ → List ParsedItem → Bool
has_too_large modulo items =
    nat_lt greatest_whole modulo || list_any (λ i. nat_lt greatest_whole i.page || i.modifiers.too_large) items

abbrev pub fault_if : Bool → SpecError → Option SpecError
fault_if fails fault = if fails then Some fault else None

abbrev pub first_fault_of : (modulo : ℕ) → List ParsedItem → (lengths : List ℕ) → Option SpecError
first_fault_of modulo items lengths =
    option_or (fault_if (has_too_large modulo items) TooLarge)
    (option_or (fault_if (modulo == 0) ModuloZero)
    (option_or (option_map PageOutOfBlock (position (λ i. nat_le modulo i.page) items))
    (option_or (option_map ScaleZero (position (λ i. i.modifiers.scale_zero) items))
    (option_or (option_map Repeated (position (λ i. i.modifiers.repeated) items))
    (option_or (option_map TooManySlots (position (λ n. nat_lt rules.most_slots n) lengths))
    (fault_if (nat_lt rules.most_groups (length lengths)) TooManyGroups))))))
