use Rattle.std.proofs.Common.{map, sym, subst}
use Rattle.std.specs.Prelude.{string_bytes}
use Rattle.std.proofs.lemmas.Result.{IfErr-weaker, IfOk-weaker}
use Rattle.clap.specs.Words.{found_of, rows_of}
use Rattle.imposer.specs.Workers.{AreWorkers}
use Rattle.pstops_cli.specs.Command.{Reads, RefusesWords}
use Rattle.pstops_cli.specs.Values.{AreInRange}
use Rattle.pstops_cli.proofs.ValueFaults.{refuses_words, sides_stay, workers_stay}
use Rattle.pstops_cli.proofs.command.read_command.Goals as goal

pub returns-clause-refused : goal.returns-clause-refused
returns-clause-refused c =
    let words = map string_bytes c.args.words.now in
    let found = rows_of (found_of c.in_ok-matches.matches) in
    IfErr-weaker c.request_of.result _ (RefusesWords words) (λ f h. refuses_words words found f c.in_ok-matches.ensures.taken c.in_ok-matches.ensures.found.rows h) c.request_of.ensures.refused

pub returns-clause-workers : goal.returns-clause-workers
returns-clause-workers c =
    let found = rows_of (found_of c.in_ok-matches.matches) in
    IfOk-weaker c.request_of.result (Reads found) (λ r. AreWorkers r.options.workers)
    (λ r reads. subst AreWorkers (sym (workers_stay found r.options reads.options)) c.in_ok-matches.ensures.found.workers) c.request_of.ensures.read

pub returns-clause-sides : goal.returns-clause-sides
returns-clause-sides c =
    let found = rows_of (found_of c.in_ok-matches.matches) in
    IfOk-weaker c.request_of.result (Reads found) (λ r. AreInRange r.options.sides)
    (λ r reads. subst AreInRange (sym (sides_stay found r.options reads.options)) c.in_ok-matches.ensures.found.sides) c.request_of.ensures.read
