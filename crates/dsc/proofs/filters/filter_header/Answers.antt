use Rattle.std.proofs.Common.{◌∙◌}
use Rattle.dsc.proofs.Cases.{if_ok}
use Rattle.dsc.proofs.Filtering.{header_found, same_found, no_fault}
use Rattle.dsc.proofs.filters.filter_header.Goals as goal

pub unreachable-requires : goal.unreachable-requires
unreachable-requires c =
    no_fault _ _ _ (header_found c.args.drops c.args.front.items c.args.text.now c.requires) (rw c.in-Err-Faulty.field-0-is at c.in-Err-Faulty.ensures)

pub returns-in-Ok : goal.returns-in-Ok
returns-in-Ok c =
    if_ok c.into_copy.result (λ v e. e ∙ same_found _ _ _ c.in-Ok.ensures (header_found c.args.drops c.args.front.items c.args.text.now c.requires)) c.into_copy.ensures
