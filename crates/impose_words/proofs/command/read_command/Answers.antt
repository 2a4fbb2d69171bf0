use Rattle.std.proofs.Common.{◌∙◌, map, sym, inl}
use Rattle.std.specs.Prelude.{string_bytes}
use Rattle.std.proofs.lemmas.Result.{IfErr-weaker, IfOk-weaker}
use Rattle.clap.specs.Words.{found_of, rows_of}
use Rattle.impose_words.specs.Words.{Enters}
use Rattle.layouts.proofs.Fitting.{handed_on}
use Rattle.impose_words.proofs.Found.{met, refuses_parse, refuses_words, unmet}
use Rattle.impose_words.proofs.command.read_command.Goals as goal

pub returns-in_err-matches-clause-refused : goal.returns-in_err-matches-clause-refused
returns-in_err-matches-clause-refused c =
    handed_on c.from_residual.result _ _ c.from_residual.ensures.1 (refuses_parse (map string_bytes c.args.words.now) _ c.in_err-matches.ensures.refused)

pub returns-in-Some-clause-read : goal.returns-in-Some-clause-read
returns-in-Some-clause-read c =
    let words = map string_bytes c.args.words.now in
    let name = c.in-Some.name.now in
    let found = rows_of (found_of c.in-Some.found.now) in
    let entered = sym c.in_ok-matches.ensures.found ∙ met c.in_ok-matches.matches name found (sym c.in-Some.ensures.name) (sym c.in-Some.ensures.rows) in
    let enters : Enters words name found = record { taken = c.in_ok-matches.ensures.taken; entered = entered } in
    IfOk-weaker c.subcommand_request.result _ _ (λ r h. (name, found, enters, h)) c.subcommand_request.ensures.read

pub returns-in-Some-clause-refused : goal.returns-in-Some-clause-refused
returns-in-Some-clause-refused c =
    let words = map string_bytes c.args.words.now in
    let name = c.in-Some.name.now in
    let found = rows_of (found_of c.in-Some.found.now) in
    let entered = sym c.in_ok-matches.ensures.found ∙ met c.in_ok-matches.matches name found (sym c.in-Some.ensures.name) (sym c.in-Some.ensures.rows) in
    let enters : Enters words name found = record { taken = c.in_ok-matches.ensures.taken; entered = entered } in
    IfErr-weaker c.subcommand_request.result _ _ (λ f h. refuses_words words name found f enters h) c.subcommand_request.ensures.refused

pub returns-clause-refused : goal.returns-clause-refused
returns-clause-refused c = inl (c.in_ok-matches.ensures.taken, sym c.in_ok-matches.ensures.found ∙ unmet c.in_ok-matches.matches c.in-None.ensures.name)
