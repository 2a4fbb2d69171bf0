use Rattle.std.proofs.Common.{rules, ap, length, ◌∙◌}
use Rattle.rules.specs.MadeOutput.{dressed_preamble}
use Rattle.imposer.proofs.setup.Setup.new.Goals as goal

pub returns-clause-parts : goal.returns-clause-parts
returns-clause-parts g c = record {
  header = c.in_ok-header.ensures.text c.args.job.now.header c.header.ensures
      ∙ ap (λ n. dressed_preamble n c.args.job.now.header c.document.result.now) c.sheets.ensures
      ∙ ap (dressed_preamble (length c.args.job.now.plan.sheets) c.args.job.now.header) c.document.ensures;
  trailer = search rules;
  early = search rules;
}
