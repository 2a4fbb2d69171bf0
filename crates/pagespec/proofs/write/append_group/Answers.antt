use Rattle.std.proofs.Common.{◌∙◌, ◌++◌, ap, sym, map}
use Rattle.rules.specs.Specification.{item_text}
use Rattle.pagespec.specs.Items.{item_of, group_text}
use Rattle.pagespec.proofs.Joining.{joined_text, on_ok}
use Rattle.pagespec.proofs.write.append_group.Goals as goal

pub returns-in_ok-append_item-in-Some : goal.returns-in_ok-append_item-in-Some
returns-in_ok-append_item-in-Some c =
    on_ok c.append_more_items.result
    (λ more. joined_text 43 item_text (item_of c.in-Some.first.now) (map item_of c.in-Some.rest.now) c.args.out.now.items _ _ c.in_ok-append_item-in-Some.ensures more
    ∙ ap (λ g. c.args.out.now.items ++ group_text (map item_of g)) (sym c.in-Some.ensures.cases.0))
    c.append_more_items.ensures
