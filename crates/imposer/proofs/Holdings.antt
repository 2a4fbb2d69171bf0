-- What workers hold, when shares are given away and when all is joined.
use Rattle.std.proofs.Common.{◌≡◌, ℕ, suc, ◌+◌, ◌<◌, [], Option, Some, None, if◌then◌else◌, refl, sym, ap, ◌∙◌, subst, true≢false, arith}
use Rattle.std.specs.Option.{option_or}
use Rattle.std.specs.Prelude.{IfSome, IsNone, IsTrue}
use Rattle.rules.specs.SeatRules.{entries_at}
use Rattle.rules.specs.Seats.{whole_share}
use Rattle.gather_table.specs.Laws.{completes}
use Rattle.gather_table.specs.Shared.{SeatView}
use Rattle.handover.specs.Passes.{PassView}
use Rattle.handover.specs.Shelves.{IsOn}
use Rattle.run_steps.specs.Delivery.{CloseWhatTheyFill}
use Rattle.run_steps.specs.Duty.{Duty, worth, shares, owed}
use Rattle.imposer.specs.Joining.{AreInOrderSince}
use Rattle.imposer.specs.Tokens as held
use Rattle.imposer.specs.Tokens.{AreTokens, AreUnused, AreOfBoth, calls_done, put_by}
use Rattle.imposer.specs.Promises.{IsHeld, HasPrepared, HasImposed, HasGathered}
use Rattle.imposer.specs.declared.shared.Shared.{Shared}
use Rattle.imposer.specs.declared.tokens.Tokens.{Tokens}
use Rattle.imposer.specs.declared.tokens.WorkerTokens.{WorkerTokens}
use Rattle.imposer.proofs.Held.{closes_both}
use Rattle.imposer.proofs.ByRight.{imposers_complete_nothing}
use Rattle.run_steps.proofs.Shares.{together}

-- a holding of which shares were given away has done the same
pub given_away : {G : Type 0} (run : Shared G) (first : Tokens) (count joined n m : ℕ) (room : Option ℕ) (old : WorkerTokens) (seat : SeatView) (pass : PassView)
    → seat ≡ record old.tokens.seat { share = n } → pass ≡ record old.tokens.pass { share = m; room = room }
    → HasGathered run first count joined old
    → HasGathered run first count joined (record { tokens = record { seat = seat; pass = pass }; unshelved = old.unshelved })
given_away run first count joined n m room old seat pass seat_is pass_is had =
    subst (λ (s : SeatView). HasGathered run first count joined (record { tokens = record { seat = s; pass = pass }; unshelved = old.unshelved })) (sym seat_is)
    (subst (λ (p : PassView). HasGathered run first count joined (record { tokens = record { seat = record old.tokens.seat { share = n }; pass = p }; unshelved = old.unshelved })) (sym pass_is)
    (record { work = had.work; order = record { puts = had.order.puts; closes = had.order.closes }; puts = had.puts }))

-- what was begun with, before anything was called
pub begun : {G : Type 0} (run : Shared G) (count : ℕ) (h : WorkerTokens) (seat_unused : h.tokens.seat.own ≡ [])
    → HasGathered run h.tokens count 0 h
begun run count h unused =
    let first = h.tokens in record {
      work = λ none w. ap (λ own. held.calls_done w (record first { seat = record first.seat { own = own } })) unused;
      order = record {
        puts = λ s. omega arith;
        closes = subst (λ own. CloseWhatTheyFill (entries_at first.seat.front own)) (sym unused) (λ s g. refl);
      };
      puts = λ by_right s.
          let none : held.completed_by s first ≡ 0 = ap (λ own. held.completed_by s (record first { seat = record first.seat { own = own } })) unused in
          omega (arith, none);
    }

-- what is not there has any property
pub of_none : {A : Type 0} (o : Option A) (P : A → Type 0) → IsNone o → IfSome o P
of_none None P none = tt
of_none (Some a) P none = absurd (true≢false none)

none_of_two : {A : Type 0} (one two new : Option A) → new ≡ option_or one two → IsNone new → IsNone one × IsNone two
none_of_two None two new is none = (refl, subst IsNone is none)
none_of_two (Some a) two new is none = absurd (true≢false (subst IsNone is none))

-- a preparer's holding is joined
pub with_prepared : {G : Type 0} (run : Shared G) (first : Tokens) (count k : ℕ) (all theirs new : WorkerTokens)
    → AreOfBoth all.tokens theirs.tokens new.tokens → new.unshelved ≡ option_or all.unshelved theirs.unshelved
    → HasGathered run first count k all → HasPrepared run count k theirs → HasGathered run first count (k + 1) new
with_prepared run first count k all theirs new both is had did =
    let grown : suc k ≡ k + 1 = omega arith in record {
      work = λ none w.
          let missing = none_of_two all.unshelved theirs.unshelved new.unshelved is none in
          let one = had.work missing.0 w in let two = did.work missing.1 w in let sum = both.calls (worth w) in
          subst (λ n. calls_done w new.tokens ≡ shares w run.objects.table.now.layout count run.objects.table.now.layout.pages n) grown (omega arith);
      order = record {
        puts = λ s.
            let one = had.order.puts s in let two = did.order.puts s in let puts = both.puts s in
            let completions = both.calls (λ e. if completes s e then 1 else 0) in omega arith;
        closes = closes_both all.tokens theirs.tokens new.tokens both had.order.closes did.order.closes;
      };
      puts = λ by_right s.
          let one = had.puts by_right s in let two = did.puts by_right s in let puts = both.puts s in
          let completions = both.calls (λ e. if completes s e then 1 else 0) in omega (arith, one, two, puts, completions);
    }

-- an imposer's holding is joined
pub with_imposed : {G : Type 0} (run : Shared G) (first : Tokens) (count k : ℕ) (all theirs new : WorkerTokens)
    → AreOfBoth all.tokens theirs.tokens new.tokens → new.unshelved ≡ option_or all.unshelved theirs.unshelved
    → HasGathered run first count k all → HasImposed theirs → HasGathered run first count k new
with_imposed run first count k all theirs new both is had did = record {
  work = λ none w.
      let missing = none_of_two all.unshelved theirs.unshelved new.unshelved is none in
      let one = had.work missing.0 w in let two = did.work w in let sum = both.calls (worth w) in omega arith;
  order = record {
    puts = λ s.
        let one = had.order.puts s in let two = did.order.puts s in let puts = both.puts s in
        let completions = both.calls (λ e. if completes s e then 1 else 0) in omega arith;
    closes = closes_both all.tokens theirs.tokens new.tokens both had.order.closes did.order.closes;
  };
  puts = λ by_right s.
      let one = had.puts by_right s in let puts = both.puts s in let few = did.order.puts s in
      let none = imposers_complete_nothing theirs.tokens did.work did.order.closes s in
      let completions = both.calls (λ e. if completes s e then 1 else 0) in omega (arith, one, puts, few, none, completions);
}

-- with all shares again, and all preparers joined
pub record AllAreBack {G : Type 0} (run : Shared G) (first : Tokens) (h : WorkerTokens) : Type 0 where
  pub tokens : AreTokens run.objects.table.now run.objects.ready.now whole_share h.tokens
  pub unshelved : IfSome h.unshelved (IsOn run.objects.shelf.now)
  pub work : IsNone h.unshelved → (w : Duty → ℕ) → calls_done w h.tokens ≡ owed w run.objects.table.now.layout run.objects.table.now.layout.pages
  pub order : AreInOrderSince first h.tokens
  pub puts : IsTrue run.by_right → (s : ℕ) → put_by s h.tokens ≡ put_by s first + held.completed_by s h.tokens

pub whole : {G : Type 0} (run : Shared G) (first : Tokens) (count : ℕ) (h : WorkerTokens) → 0 < count
    → IsHeld run h.tokens.seat.share h → h.tokens.seat.share ≡ whole_share → HasGathered run first count count h
    → AllAreBack run first h
whole run first count h some held all did = record {
  tokens = subst (λ n. AreTokens run.objects.table.now run.objects.ready.now n h.tokens) all held.tokens;
  unshelved = held.unshelved;
  work = λ none w. did.work none w ∙ together w run.objects.table.now.layout count some run.objects.table.now.layout.pages;
  order = did.order;
  puts = did.puts;
}

pub all_back : {G : Type 0} (run : Shared G) (first : Tokens) (count : ℕ) (ended : Option WorkerTokens) → 0 < count → first.seat.share ≡ whole_share
    → IfSome ended (λ h. IsHeld run h.tokens.seat.share h) → IfSome ended (λ h. h.tokens.seat.share ≡ first.seat.share)
    → IfSome ended (HasGathered run first count count) → IfSome ended (AllAreBack run first)
all_back run first count None some all held share did = tt
all_back run first count (Some h) some all held share did = whole run first count h some held (share ∙ all) did
