use Rattle.std.proofs.Common.{◌≡◌, ◌∙◌, ap, sym, arith}
use Rattle.std.proofs.lemmas.Bool.{le-leb}
use Rattle.rules.specs.Sheets.{Plan, Layout, layout}
use Rattle.run_steps.specs.Duty.{most_puts_in_all}
use Rattle.imposer.proofs.Ends.{fresh_tokens, leaves_if}
use Rattle.imposer.proofs.gathering.gather_objects.Goals as goal

pub gather-requires-clause-tokens : goal.gather-requires-clause-tokens
gather-requires-clause-tokens g c κs within = fresh_tokens _ _ _ c.requires.seat c.requires.pass c.share.ensures.seat c.share-2.ensures.pass

pub returns : goal.returns
returns g c =
    let objects = c.args.objects in
    let count = c.args.workers.preparers in
    let gathered = c.gather.ensures in
    let same : most_puts_in_all (layout c.plan.result.now) count ≡ most_puts_in_all objects.table.now.layout count
    = ap (λ (plan : Plan). most_puts_in_all (layout plan) count) c.plan.ensures.value ∙ ap (λ (l : Layout). most_puts_in_all l count) (sym objects.same_plan) in
    record {
      outcome = gathered.outcome;
      tokens = gathered.tokens;
      whole = leaves_if _ _ _ _ c.gather.result
          (λ room. le-leb _ _ (omega (arith, room, same, c.most_puts_in_all.ensures, c.room-room.ensures, c.from.ensures)))
          gathered.whole;
      unshelved = gathered.unshelved;
    }
