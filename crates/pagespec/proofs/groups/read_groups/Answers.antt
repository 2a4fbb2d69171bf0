use Rattle.std.proofs.Common.{arith, ◌-◌, ◌+◌, length}
use Rattle.pagespec.specs.Reading.{group_at, groups_at}
use Rattle.pagespec.specs.Groups.{IsGroup, AreWholeGroups}
use Rattle.pagespec.proofs.GroupLoops.{groups_more, groups_last, groups_stuck, groups_ended, groups_out, stop_same, handed_on}
use Rattle.pagespec.proofs.groups.read_groups.Goals as goal

pub returns-in-None : goal.returns-in-None
returns-in-None c = (
  groups_last (length c.args.bytes.now + 1 - (c.loop.counter + 1)) _ _ _ _ _ _ _ _ (omega arith) c.loop.invariant c.in_ok-length.ensures.0 c.in-Ok.ensures.items c.in-None.ensures,
  groups_ended _ _ _ _ _ _ _ c.loop.invariant c.in-None.ensures c.in_ok-length.ensures.1,
)

pub loop-preserved : goal.loop-preserved
loop-preserved c =
    groups_more (length c.args.bytes.now + 1 - (c.loop.counter + 1)) _ _ _ _ _ _ _ _ _ _ (omega arith) c.loop.invariant c.in_ok-length.ensures.0 c.in-Ok.ensures.items c.in-Some.ensures

pub returns : goal.returns
returns c = groups_out _ _ _ _ _ _ (omega arith) c.loop.invariant

pub returns-in_err-length : goal.returns-in_err-length
returns-in_err-length c =
    handed_on _ _ _ _ c.from_residual.ensures.1 (stop_same IsGroup group_at c.loop.rest.now AreWholeGroups groups_at c.args.bytes.now _ (λ left s. groups_stuck _ left _ _ _ _ c.loop.invariant s) c.in_err-length.ensures)
