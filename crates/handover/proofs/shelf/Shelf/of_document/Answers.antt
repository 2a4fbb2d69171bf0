use Rattle.std.proofs.Common.{ap, ◌∙◌}
use Rattle.rules.specs.Parts.{pages}
use Rattle.handover.specs.Naming.{pages_in}
use Rattle.handover.proofs.Naming.{rows_name_pages}
use Rattle.handover.proofs.shelf.Shelf.of_document.Goals as goal

pub returns : goal.returns
returns c = record { of = ap pages_in (c.in_ok-list.ensures ∙ c.of-tag.ensures) ∙ rows_name_pages (pages c.args.document.now) }
