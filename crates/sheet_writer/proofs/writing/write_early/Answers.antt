use Rattle.std.proofs.Common.{arith, rules, refl, ◌≡◌, ◌∙◌, None}
use Rattle.sheet_writer.proofs.writing.write_early.Goals as goal

pub loop-progress-init : goal.loop-progress-init
loop-progress-init g c = record { going = c.requires.going; early = c.requires.early; goes_on = λ start stands. stands; stays = λ sheet le. refl; steady = refl }

pub write_sheets-progress-requires-clause-within : goal.write_sheets-progress-requires-clause-within
write_sheets-progress-requires-clause-within g c = let few = c.in-Some.ensures.count in omega (arith, few)

pub write_sheets-progress-requires-clause-text : goal.write_sheets-progress-requires-clause-text
write_sheets-progress-requires-clause-text g c = c.in-Some.ensures.text c.args.job.now c.loop-progress.invariant.early

pub loop-progress-preserved : goal.loop-progress-preserved
loop-progress-preserved g c =
    let few = c.in-Some.ensures.count in
    let next = c.write_sheets-progress.ensures.next in
    let going : c.write_sheets-progress.result.halted ≡ None = search rules in
    record {
      going = going;
      early = c.take_written.ensures.early c.args.job.now c.loop-progress.invariant.early;
      goes_on = λ start stands. c.write_sheets-progress.ensures.goes_on start (c.loop-progress.invariant.goes_on start stands);
      stays = λ sheet le. c.take_written.ensures.stays sheet (omega (arith, le, few, next)) ∙ c.loop-progress.invariant.stays sheet (omega (arith, le, next));
      steady = c.write_sheets-progress.ensures.steady going ∙ c.loop-progress.invariant.steady;
    }

pub returns-after-loop-progress-clause-early : goal.returns-after-loop-progress-clause-early
returns-after-loop-progress-clause-early g c = c.loop-progress.invariant.early

pub returns-in_default-clause-early : goal.returns-in_default-clause-early
returns-in_default-clause-early g c = c.loop-progress.invariant.early

pub returns-then-is_some-clause-goes_on : goal.returns-then-is_some-clause-goes_on
returns-then-is_some-clause-goes_on g c = λ start stands. c.write_sheets-progress.ensures.goes_on start (c.loop-progress.invariant.goes_on start stands)

pub returns-then-is_some-clause-early : goal.returns-then-is_some-clause-early
returns-then-is_some-clause-early g c = c.take_written.ensures.early c.args.job.now c.loop-progress.invariant.early

pub returns-then-is_some-clause-stays : goal.returns-then-is_some-clause-stays
returns-then-is_some-clause-stays g c =
    let few = c.in-Some.ensures.count in
    let next = c.write_sheets-progress.ensures.next in
    λ sheet le. c.take_written.ensures.stays sheet (omega (arith, le, few, next)) ∙ c.loop-progress.invariant.stays sheet (omega (arith, le, next))
