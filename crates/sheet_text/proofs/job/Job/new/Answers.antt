use Rattle.std.proofs.Common.{ap, ◌∙◌}
use Rattle.rules.specs.Output.{Frame, framed}
use Rattle.sheet_text.specs.Jobs.{of_frame, output_of}
use Rattle.sheet_text.proofs.OnePaper.{of_plan, output_is, text_is}
use Rattle.sheet_text.proofs.job.Job.new.Goals as goal

pub invariant_of-result-2 : goal.invariant_of-result-2
invariant_of-result-2 c = (c.requires.same_pages, c.sheets.ensures.value, c.sheets.ensures.sound, of_plan c.args.paper c.args.plan.now)

pub returns-clause-output : goal.returns-clause-output
returns-clause-output c = λ sides spec is.
    let frame : Frame = framed c.args.paper c.args.border in
    ap (λ plan. output_of (of_frame plan c.args.document.now frame)) is ∙ output_is frame sides spec c.args.document.now

pub returns-clause-texts : goal.returns-clause-texts
returns-clause-texts c = λ s.
    let frame : Frame = framed c.args.paper c.args.border in
    text_is frame c.args.plan.now c.args.document.now s
