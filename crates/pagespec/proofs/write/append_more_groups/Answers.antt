use Rattle.std.proofs.Common.{map, ap, ◌∙◌, ◌++◌}
use Rattle.pagespec.specs.Items.{item_of, group_text}
use Rattle.pagespec.proofs.Joining.{one_more}
use Rattle.pagespec.proofs.write.append_more_groups.Goals as goal

pub loop-group-preserved : goal.loop-group-preserved
loop-group-preserved c =
    one_more 44 (λ g. map item_of g.items) group_text c.args.groups.now c.loop-group.group-index c.group-item.result c.args.out.now.items _ _ _ c.loop-group.invariant
    c.in_ok-append_bytes.ensures (c.in_ok-append_group.ensures ∙ ap (λ g. c.append_bytes.new.out.items ++ group_text (map item_of g)) c.deref.ensures.value) c.group-item.is c.loop-group-test.true
