use Rattle.std.proofs.Common.{◌∙◌}
use Rattle.rules.specs.Output.{border_within}
use Rattle.rules.specs.Dressed.{dressed_sheets}
use Rattle.rules.proofs.Dressed.{dressed_is_made}
use Rattle.sheet_text.specs.Dressings.{dress_in}
use Rattle.sheet_text.proofs.Dressed.{of_plan}
use Rattle.sheet_text.proofs.Outputs.{output_dressed}
use Rattle.sheet_text.proofs.job.Job.made.Goals as goal

pub invariant_of-result : goal.invariant_of-result
invariant_of-result c = (c.requires.same_pages, c.sheets.ensures.value, c.sheets.ensures.sound, of_plan c.args.plan.now (dress_in c.args.dress.now) c.args.sheets.now c.requires.same_sheets)

pub returns-clause-output : goal.returns-clause-output
returns-clause-output c =
    let dress = dress_in c.args.dress.now in
    let border = border_within c.args.inset c.args.border in
    output_dressed (record {
      plan = c.args.plan.now;
      units = c.args.document.now;
      border = border;
      header = c.args.dress.now.header;
      sheets = dressed_sheets dress c.args.sheets.now;
    })
    (of_plan c.args.plan.now dress c.args.sheets.now c.requires.same_sheets)
    ∙ dressed_is_made border dress c.args.sheets.now c.args.document.now
