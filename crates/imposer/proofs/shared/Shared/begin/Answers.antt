use Rattle.std.proofs.Common.{arith, refl, ◌≡◌, ◌≤◌, ◌∙◌, ℕ, List, length, sym, subst, ap}
use Rattle.rules.specs.Seats.{whole_share, occurrences}
use Rattle.rules.specs.Sheets.{layout}
use Rattle.sheet_plan.specs.Places.{born_complete}
use Rattle.imposer.specs.Tokens as tokens
use Rattle.imposer.specs.declared.tokens.Tokens.{Tokens}
use Rattle.run_steps.proofs.Counts.{table_has_pages}
use Rattle.imposer.proofs.HandedOn.{started_puts, started_by_right}
use Rattle.imposer.proofs.Held.{are_tokens, seat_with, pass_with, pass_handed_on}
use Rattle.imposer.proofs.shared.Shared.begin.Goals as goal

-- what the threads begin with: the blank sheets have been put
pub returns : goal.returns
returns g c =
    let run = c.args.self.now in
    let table = run.objects.table.now in
    let queue = run.objects.ready.now in
    let put = c.put_blank_sheets.ensures.put in
    let sheets = c.born_complete-sheets.result.now in
    let born : sheets ≡ born_complete table.layout = c.born_complete-sheets.ensures.value ∙ ap (λ p. born_complete (layout p)) c.plan.ensures.value ∙ ap born_complete (sym run.objects.same_plan) in
    let same = ap (λ (xs : List ℕ). length xs) born in
    let first : Tokens = record { seat = c.args.tokens.seat; pass = c.put_blank_sheets.new.pass } in
    record {
      pages = table_has_pages run.objects.job.now.plan table c.plan.ensures.sound run.objects.same_plan;
      counts = (let w = c.requires.workers in let one = w.a_preparer in let few = w.few_preparers in let few' = w.few_imposers in (omega arith, omega arith));
      held = record {
        tokens = are_tokens table queue whole_share first (seat_with table queue whole_share c.args.tokens c.requires.tokens.0)
            (pass_handed_on queue queue whole_share sheets put.0 c.args.tokens.pass c.put_blank_sheets.new.pass (pass_with table queue whole_share c.args.tokens c.requires.tokens.0) put.1);
        unshelved = tt;
      };
      blank_sheets = record {
        no_calls = c.requires.tokens.1.no_calls;
        no_others = λ s. subst (λ xs. tokens.put_by s first ≤ occurrences s xs) born (started_puts s queue sheets put.0 c.args.tokens first c.requires.tokens.1 put.1);
        all = λ yes.
            let room = c.requires.room yes in
            let all = (started_by_right queue sheets put.0 c.args.tokens first c.requires.tokens.1 put.1 (omega (arith, room, same))).0 in
            (λ s. subst (λ xs. tokens.put_by s first ≡ occurrences s xs) born (all s));
      };
      enough = λ yes.
          let room = c.requires.room yes in
          let left = (started_by_right queue sheets put.0 c.args.tokens first c.requires.tokens.1 put.1 (omega (arith, room, same))).1 in
          omega (arith, room, same, left);
      ticket = refl;
    }
