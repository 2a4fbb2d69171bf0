use Rattle.std.proofs.Common.{sym, subst, IfErr}
use Rattle.clap.specs.Words.{found_of, rows_of}
use Rattle.pstops_cli.specs.Command.{RefusesValues}
use Rattle.pstops_cli.proofs.ValueFaults.{handed_on, refuses_found}
use Rattle.pstops_cli.proofs.command.request_of.Goals as goal

pub returns-in_err-options-clause-refused : goal.returns-in_err-options-clause-refused
returns-in_err-options-clause-refused c =
    let found = rows_of (found_of c.args.matches.now) in
    let fault = c.in_err-options.field-0.0 in
    subst (λ r. IfErr r (RefusesValues found)) (sym (handed_on _ fault c.from_residual.ensures.1))
    (refuses_found found fault (sym c.in_err-options.ensures))
