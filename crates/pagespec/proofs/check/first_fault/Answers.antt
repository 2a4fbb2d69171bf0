use Rattle.std.proofs.Common.{rules, ◌≡◌, length, position, nat_lt, nat_le, option_map}
use Rattle.std.specs.Prelude.{◌==◌}
use Rattle.rules.specs.Admissible.{most_slots, most_groups}
use Rattle.pagespec.specs.Faults.{has_too_large, fault_if}
use Rattle.pagespec.specs.declared.error.SpecError.TheVariants.{TooLarge, ModuloZero, PageOutOfBlock, ScaleZero, Repeated, TooManySlots, TooManyGroups}
use Rattle.pagespec.specs.declared.parsed.ParsedItem.{ParsedItem}
use Rattle.pagespec.proofs.FirstFault.{in_order}
use Rattle.pagespec.proofs.check.first_fault.Goals as goal

pub returns : goal.returns
returns c =
    let large : c.fault_if.result ≡ fault_if (has_too_large c.args.modulo c.args.items.now) TooLarge = search rules in
    let zero : c.fault_if-2.result ≡ fault_if (c.args.modulo == 0) ModuloZero = search rules in
    let pages : c.map.result ≡ option_map PageOutOfBlock (position (λ (i : ParsedItem). nat_le c.args.modulo i.page) c.args.items.now) = search rules in
    let scales : c.map-2.result ≡ option_map ScaleZero (position (λ (i : ParsedItem). i.modifiers.scale_zero) c.args.items.now) = search rules in
    let again : c.map-3.result ≡ option_map Repeated (position (λ (i : ParsedItem). i.modifiers.repeated) c.args.items.now) = search rules in
    let slots : c.map-4.result ≡ option_map TooManySlots (position (λ n. nat_lt most_slots n) c.args.lengths.now) = search rules in
    let groups : c.fault_if-3.result ≡ fault_if (nat_lt most_groups (length c.args.lengths.now)) TooManyGroups = search rules in
    in_order c.or.ensures c.or-2.ensures c.or-3.ensures c.or-4.ensures c.or-5.ensures c.or-6.ensures large zero pages scales again slots groups
