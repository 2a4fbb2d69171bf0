use Rattle.pagespec.specs.Reading.{groups_at, whole_groups_at}
use Rattle.pagespec.specs.Groups.{AreWholeGroups}
use Rattle.pagespec.proofs.GroupLoops.{stop_same, handed_on, nil_told, some_told}
use Rattle.pagespec.proofs.AllGroups.{whole_there, whole_ended, whole_stuck}
use Rattle.pagespec.proofs.groups.read_groups_to_end.Goals as goal

pub returns-then-is_empty : goal.returns-then-is_empty
returns-then-is_empty c = whole_there c.args.bytes.now _ _ c.in_ok-parsed.ensures.0 (nil_told _ _ c.is_empty.ensures c.if-is_empty.true)

pub returns-else-is_empty : goal.returns-else-is_empty
returns-else-is_empty c = whole_ended c.args.bytes.now _ _ _ c.in_ok-parsed.ensures.0.1 (some_told _ _ c.is_empty.ensures c.if-is_empty.false) c.in_ok-parsed.ensures.1

pub returns-in_err-parsed : goal.returns-in_err-parsed
returns-in_err-parsed c =
    handed_on _ _ _ _ c.from_residual.ensures.1 (stop_same AreWholeGroups groups_at c.args.bytes.now AreWholeGroups whole_groups_at c.args.bytes.now _ (λ left s. whole_stuck c.args.bytes.now left s) c.in_err-parsed.ensures)
