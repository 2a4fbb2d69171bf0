use Rattle.std.proofs.Common.{rules, inl, ◌∙◌}
use Rattle.sheet_writer.specs.Writing.{HasAll}
use Rattle.sheet_writer.proofs.Fronts.{while_going, if_failed, if_starved}
use Rattle.imposer.proofs.gathering.conclude.Goals as goal

pub returns-in-None-clause-ended : goal.returns-in-None-clause-ended
returns-in-None-clause-ended g c = λ _ start stands.
    let p = c.write_rest-rest.result in
    let now = g.S.Sink.seen c.write_rest-rest.new.sink in
    let ended = while_going c.args.job.now start now p (HasAll c.args.job.now start now p) c.in-None.is (c.write_rest-rest.ensures.ended start stands) in
    (ended.1.0, ended.1.1, c.report_on.ensures.numbers ended.0)

pub returns-in-None-clause-swept : goal.returns-in-None-clause-swept
returns-in-None-clause-swept g c = c.report_on.ensures.swept ∙ c.write_rest-rest.ensures.counted c.in-None.is

pub returns-in-Some-Failed-clause-ended : goal.returns-in-Some-Failed-clause-ended
returns-in-Some-Failed-clause-ended g c = λ _ start stands.
    let p = c.write_rest-rest.result in
    let now = g.S.Sink.seen c.write_rest-rest.new.sink in
    let ended = if_failed c.args.job.now start now p (HasAll c.args.job.now start now p) (search rules) (c.write_rest-rest.ensures.ended start stands) in
    (ended.0, ended.1)

pub returns-in-Some-NoMemory-clause-ended : goal.returns-in-Some-NoMemory-clause-ended
returns-in-Some-NoMemory-clause-ended g c = λ _ start stands.
    let p = c.write_rest-rest.result in
    let now = g.S.Sink.seen c.write_rest-rest.new.sink in
    let ended = if_starved c.args.job.now start now p (HasAll c.args.job.now start now p) (search rules) (c.write_rest-rest.ensures.ended start stands) in
    (ended.0, inl ended.1)
