use Rattle.std.proofs.Common.{arith, ◌∙◌, subst, List, ℕ}
use Rattle.rules.specs.Specification.{IsSpec}
use Rattle.pagespec.specs.Places.{IsPlaceIn}
use Rattle.pagespec.specs.Reading.{spec_at}
use Rattle.pagespec.proofs.AllGroups.{stuck_at}
use Rattle.pagespec.proofs.Places.{place_in}
use Rattle.pagespec.proofs.Outcomes.{all_read, syntax_refused, few_parsed, few_lengths, fault_refused, fault_placed, lengths_right, admissible, taken, split_same}
use Rattle.pagespec.proofs.read.read_spec.Goals as goal

pub returns-in-Err-Stuck-clause-refused : goal.returns-in-Err-Stuck-clause-refused
returns-in-Err-Stuck-clause-refused c =
    syntax_refused c.args.text.now _ c.if-text-gt-MOST_BYTES.false c.as_bytes-bytes.ensures.value
    (stuck_at IsSpec spec_at c.as_bytes-bytes.result.now c.in-Err-Stuck.field-0 c.in-Err-Stuck.stuck c.in-Err-Stuck.field-0-is c.in-Err-Stuck.ensures).0

pub returns-in-Err-Stuck-clause-placed : goal.returns-in-Err-Stuck-clause-placed
returns-in-Err-Stuck-clause-placed c =
    subst (λ (t : List ℕ). IsPlaceIn t c.saturating_sub.result) c.as_bytes-bytes.ensures.value
    (place_in c.as_bytes-bytes.result.now c.in-Err-Stuck.stuck.left c.saturating_sub.result
    (stuck_at IsSpec spec_at c.as_bytes-bytes.result.now c.in-Err-Stuck.field-0 c.in-Err-Stuck.stuck c.in-Err-Stuck.field-0-is c.in-Err-Stuck.ensures) (omega (arith, rw c.in-Err-Stuck.field-0-is at c.saturating_sub.ensures)))

pub first_fault-requires-clause-items : goal.first_fault-requires-clause-items
first_fault-requires-clause-items c =
    few_parsed _ _ _ _ (all_read _ _ _ _ _ _ c.as_bytes-bytes.ensures.value c.in-Ok.ensures c.deref.ensures.value c.deref-2.ensures.value) c.if-text-gt-MOST_BYTES.false

pub first_fault-requires-clause-groups : goal.first_fault-requires-clause-groups
first_fault-requires-clause-groups c =
    few_lengths _ _ _ _ (all_read _ _ _ _ _ _ c.as_bytes-bytes.ensures.value c.in-Ok.ensures c.deref.ensures.value c.deref-2.ensures.value) c.if-text-gt-MOST_BYTES.false

pub returns-in-Some-clause-refused : goal.returns-in-Some-clause-refused
returns-in-Some-clause-refused c =
    fault_refused _ _ _ _ c.in-Some.fault (all_read _ _ _ _ _ _ c.as_bytes-bytes.ensures.value c.in-Ok.ensures c.deref.ensures.value c.deref-2.ensures.value) c.if-text-gt-MOST_BYTES.false
    c.in-Some.ensures

pub returns-in-Some-clause-placed : goal.returns-in-Some-clause-placed
returns-in-Some-clause-placed c =
    fault_placed _ _ _ _ c.in-Some.fault (all_read _ _ _ _ _ _ c.as_bytes-bytes.ensures.value c.in-Ok.ensures c.deref.ensures.value c.deref-2.ensures.value) c.if-text-gt-MOST_BYTES.false
    c.in-Some.ensures

pub settled_groups-requires : goal.settled_groups-requires
settled_groups-requires c = lengths_right _ _ _ _ (all_read _ _ _ _ _ _ c.as_bytes-bytes.ensures.value c.in-Ok.ensures c.deref-3.ensures.value c.deref-4.ensures.value)

pub new-requires : goal.new-requires
new-requires c =
    admissible _ _ _ _ _ (all_read _ _ _ _ _ _ c.as_bytes-bytes.ensures.value c.in-Ok.ensures c.deref.ensures.value c.deref-2.ensures.value) c.if-text-gt-MOST_BYTES.false c.in_default.ensures
    (c.in-Ok-settled_groups.ensures ∙ split_same _ _ _ _ _ _ c.deref-3.ensures.value c.deref.ensures.value c.deref-4.ensures.value c.deref-2.ensures.value)

pub returns-in-Ok-settled_groups-clause-taken : goal.returns-in-Ok-settled_groups-clause-taken
returns-in-Ok-settled_groups-clause-taken c =
    taken _ _ _ _ _ c.new.result (all_read _ _ _ _ _ _ c.as_bytes-bytes.ensures.value c.in-Ok.ensures c.deref.ensures.value c.deref-2.ensures.value) c.if-text-gt-MOST_BYTES.false c.in_default.ensures
    (c.in-Ok-settled_groups.ensures ∙ split_same _ _ _ _ _ _ c.deref-3.ensures.value c.deref.ensures.value c.deref-4.ensures.value c.deref-2.ensures.value) c.new.ensures
