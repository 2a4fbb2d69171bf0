use Rattle.std.proofs.Common.{arith, ◌-◌, ◌+◌, length}
use Rattle.rules.specs.Specification.{IsItem}
use Rattle.pagespec.specs.Reading.{item_at, group_at}
use Rattle.pagespec.specs.Groups.{IsGroup}
use Rattle.pagespec.proofs.GroupLoops.{keeps_first, keeps_more, keeps_last, keeps_stuck, keeps_ended, keeps_out, stop_same, handed_on}
use Rattle.pagespec.proofs.groups.read_group.Goals as goal

pub loop-i-init : goal.loop-i-init
loop-i-init c = keeps_first _ _ _ (omega arith)

pub returns-in-None : goal.returns-in-None
returns-in-None c = (
  keeps_last (length c.args.bytes.now + 1 - (c.loop-i.i + 1)) _ _ _ _ _ _ _ _ (omega arith) c.loop-i.invariant c.in_ok-after.ensures.0 c.in-None.ensures,
  keeps_ended _ _ _ _ _ _ _ _ c.loop-i.invariant c.in-None.ensures c.in_ok-after.ensures.1,
)

pub loop-i-preserved : goal.loop-i-preserved
loop-i-preserved c =
    keeps_more (length c.args.bytes.now + 1 - (c.loop-i.i + 1)) _ _ _ _ _ _ _ _ _ (omega arith) c.loop-i.invariant c.in_ok-after.ensures.0 c.in-Some.ensures

pub returns : goal.returns
returns c = keeps_out _ _ _ _ _ _ _ (omega arith) c.loop-i.invariant

pub returns-in_err-after : goal.returns-in_err-after
returns-in_err-after c =
    handed_on _ _ _ _ c.from_residual.ensures.1 (stop_same IsItem item_at c.loop-i.rest.now IsGroup group_at c.args.bytes.now _ (λ left s. keeps_stuck _ _ left _ _ _ _ c.loop-i.invariant s) c.in_err-after.ensures)
