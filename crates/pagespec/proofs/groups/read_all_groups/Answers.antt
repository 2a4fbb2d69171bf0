use Rattle.pagespec.proofs.AllGroups.{all_there, all_stuck, bare_outcome, stuck_at}
use Rattle.pagespec.specs.Reading.{whole_groups_at}
use Rattle.pagespec.specs.Groups.{AreWholeGroups}
use Rattle.pagespec.proofs.groups.read_all_groups.Goals as goal

pub returns-in-Ok : goal.returns-in-Ok
returns-in-Ok c = bare_outcome c.args.bytes.now c.in-Ok.item c.one_item.result c.in-Ok.ensures c.one_item.ensures.alone c.one_item.ensures.stop

pub returns-in-Ok-read_groups_to_end : goal.returns-in-Ok-read_groups_to_end
returns-in-Ok-read_groups_to_end c = all_there c.args.bytes.now _ c.in-Ok-read_groups_to_end.ensures

pub returns-in-Err-Stuck : goal.returns-in-Err-Stuck
returns-in-Err-Stuck c =
    all_stuck c.args.bytes.now _ _ _ c.in-Err.ensures
    (stuck_at AreWholeGroups whole_groups_at c.args.bytes.now c.in-Err-Stuck.field-0 c.in-Err-Stuck.stuck c.in-Err-Stuck.field-0-is c.in-Err-Stuck.ensures) c.later_stop.ensures
