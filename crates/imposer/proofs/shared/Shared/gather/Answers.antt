use Rattle.std.proofs.Common.{rules, arith, sym, subst}
use Rattle.crossbeam_channel.specs.Claims.{IsSeatAt}
use Rattle.crossbeam_channel.specs.Ends.{sends_on}
use Rattle.imposer.specs.Tokens.{AreTokens}
use Rattle.imposer.proofs.Ends.{ends_on}
use Rattle.imposer.proofs.Holdings.{begun, all_back}
use Rattle.imposer.proofs.shared.Shared.gather.Goals as goal

pub run_threads-state-requires-clause-held : goal.run_threads-state-requires-clause-held
run_threads-state-requires-clause-held g c κs within =
    let run = c.args.self.now in
    let held = c.begin-inputs.ensures.held in
    record {
      tokens = subst (λ n. AreTokens run.objects.table.now run.objects.ready.now n c.begin-inputs.result.held.tokens) (sym held.tokens.seat_share) held.tokens;
      unshelved = held.unshelved;
    }

pub run_threads-state-requires-clause-share : goal.run_threads-state-requires-clause-share
run_threads-state-requires-clause-share g c κs within =
    let few = c.begin-inputs.ensures.counts.1 in
    (c.begin-inputs.ensures.counts.0, omega (arith, few, c.begin-inputs.ensures.held.tokens.seat_share))

pub run_threads-state-requires-clause-ticket : goal.run_threads-state-requires-clause-ticket
run_threads-state-requires-clause-ticket g c κs within =
    subst (λ t. IsSeatAt (sends_on c.in-Ok.setup.channel.sender) t) (sym c.begin-inputs.ensures.ticket) c.in-Ok.ensures.sending

pub returns : goal.returns
returns g c =
    let run = c.args.self.now in
    let state = c.run_threads-state.result in
    let inputs = c.begin-inputs.result in
    let begins = c.begin-inputs.ensures in
    let first = inputs.held in
    let ended = c.run_threads-state.new.ended in
    let finished = c.conclude-gathered.ensures in
    let back = all_back run first.tokens inputs.counts.preparers ended begins.counts.0 begins.held.tokens.seat_share
    c.run_threads-state.ensures.held c.run_threads-state.ensures.share
    (c.run_threads-state.ensures.gathered first (begun run inputs.counts.preparers first begins.blank_sheets.no_calls)) in
    ends_on run first.tokens (g.S.Sink.seen c.args.sink.now) (g.S.Sink.seen state.sink.now) (g.S.Sink.seen c.conclude-gathered.new.state.sink.now) _
    state.progress ended c.conclude-gathered.result begins.pages begins.blank_sheets
    (search rules) (search rules) (search rules) back finished.ended finished.tokens finished.missing
