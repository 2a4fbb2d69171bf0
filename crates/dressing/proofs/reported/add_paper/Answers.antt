use Rattle.std.proofs.Common.{◌∙◌, sym, subst}
use Rattle.dressing.specs.Sizes.{AreSizesOf}
use Rattle.dressing.proofs.Turns.{told_already, not_told_yet, sizes_more}
use Rattle.dressing.proofs.reported.add_paper.Goals as goal

pub returns-then-contains-clause-reported : goal.returns-then-contains-clause-reported
returns-then-contains-clause-reported c =
    sym (told_already c.args.reported.now.items c.args.paper.now c.args.sizes.now c.size_in_print-size.result c.contains.result c.contains.ensures c.size_in_print-size.ensures c.requires c.if-contains.true)

pub returns-clause-reported : goal.returns-clause-reported
returns-clause-reported c =
    c.in_ok-push.ensures.items
    ∙ sym (not_told_yet c.args.reported.now.items c.args.paper.now c.args.sizes.now c.size_in_print-size.result c.contains.result c.contains.ensures c.size_in_print-size.ensures c.requires c.if-contains.false)

pub returns-clause-sizes : goal.returns-clause-sizes
returns-clause-sizes c =
    subst (λ reported. AreSizesOf reported c.insert.new.self) (sym c.in_ok-push.ensures.items)
    (sizes_more c.args.reported.now.items c.args.paper.now c.args.sizes.now c.insert.new.self c.size_in_print-size.result c.size_in_print-size.ensures c.requires c.in_ok-insert.ensures.updates)
