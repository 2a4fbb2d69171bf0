use Rattle.std.proofs.Common.{inl, inr}
use Rattle.std.proofs.lemmas.Result.{IfErr-weaker}
use Rattle.layouts.proofs.Fitting.{handed_on}
use Rattle.impose_words.specs.Words.{rows_in}
use Rattle.impose_words.proofs.Found.{at_once, says_next}
use Rattle.impose_words.proofs.command.subcommand_request.Goals as goal

pub returns-in-Err-clause-refused : goal.returns-in-Err-clause-refused
returns-in-Err-clause-refused c = inl (c.bad_value.ensures _ (at_once _ c.in-Err.ensures.wrong))

pub returns-in_err-layout-clause-refused : goal.returns-in_err-layout-clause-refused
returns-in_err-layout-clause-refused c =
    handed_on c.from_residual.result _ _ c.from_residual.ensures.1
    (inl (says_next (rows_in c.args.found.now) c.in_err-layout.field-0.0 _ _ c.in-Ok.ensures.wrong c.in_err-layout.ensures.refused))

pub returns-clause-refused : goal.returns-clause-refused
returns-clause-refused c =
    IfErr-weaker c.request_for.result _ _
    (λ f h. inr (c.in_ok-layout.layout, c.in_ok-layout.ensures.read, c.in-Ok.ensures.wrong, h)) c.request_for.ensures.refused
