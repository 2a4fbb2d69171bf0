-- What each worker of a run promises, and what is known of all that are joined.
use Rattle.std.specs.Prelude.{◌≡◌, ℕ, ◌+◌, ◌≤◌, [], IfSome, IsNone, IsTrue}
use Rattle.rules.specs.Seats.{occurrences}
use Rattle.sheet_plan.specs.Places.{born_complete}
use Rattle.gather_table.specs.Shared.{own_calls}
use Rattle.handover.specs.Passes.{puts_in}
use Rattle.handover.specs.Shelves.{IsOn}
use Rattle.run_steps.specs.Delivery.{CloseWhatTheyFill}
use Rattle.run_steps.specs.Duty.{Duty, share_below, shares, most_puts, most_puts_of}
use Rattle.imposer.specs.Tokens.{AreTokens, AreUnused, TokensAreInOrder, calls_done, put_by, completed_by}
use Rattle.imposer.specs.Rooms.{PutsAll}
use Rattle.imposer.specs.Joining.{AreInOrderSince}
use Rattle.imposer.specs.declared.shared.Shared.{Shared}
use Rattle.imposer.specs.declared.tokens.Tokens.{Tokens}
use Rattle.imposer.specs.declared.tokens.WorkerTokens.{WorkerTokens}

-- the tokens are of the run's table and queue, with this share, and the token of a page without a receipt is of its
-- shelf
pub record IsHeld {G : Type 0} (run : Shared G) (share : ℕ) (h : WorkerTokens) : Type 0 where
  pub tokens : AreTokens run.objects.table.now run.objects.ready.now share h.tokens
  pub unshelved : IfSome h.unshelved (IsOn run.objects.shelf.now)

-- what the workers of a run begin with: nothing was called on the table, and no sheets were put but those without pages; if
-- puts are made by right, all of these were
pub record HavePutBlankSheets {G : Type 0} (run : Shared G) (first : Tokens) : Type 0 where
  pub no_calls : first.seat.own ≡ []
  pub no_others : (s : ℕ) → put_by s first ≤ occurrences s (born_complete run.objects.table.now.layout)
  pub all : IsTrue run.by_right → (s : ℕ) → put_by s first ≡ occurrences s (born_complete run.objects.table.now.layout)

-- one share, with which nothing was done yet
pub record IsNew {G : Type 0} (run : Shared G) (h : WorkerTokens) : Type 0 where
  pub tokens : AreTokens run.objects.table.now run.objects.ready.now 1 h.tokens
  pub unused : AreUnused h.tokens
  pub unshelved : IsNone h.unshelved

-- the same of preparer `number` of `count`: if puts are made by right, there is room for all of its puts
pub record IsNewPreparer {G : Type 0} (run : Shared G) (count number : ℕ) (h : WorkerTokens) : Type 0 where
  pub new : IsNew run h
  pub room : IsTrue run.by_right → most_puts run.objects.table.now.layout count number ≤ puts_in h.tokens.pass.room

-- if puts are made by right, there is room for all puts of the preparers from this number on
abbrev pub IsEnough : {G : Type 0} → Shared G → (count number : ℕ) → WorkerTokens → Type 0
IsEnough run count number h =
    IsTrue run.by_right → most_puts_of run.objects.table.now.layout count count
    ≤ most_puts_of run.objects.table.now.layout count number + puts_in h.tokens.pass.room

-- what preparer `number` of `count` promises: if each of its pages got a receipt, exactly their work was done; all was
-- called and put in order; and if puts are made by right, every sheet that its calls completed was put
pub record HasPrepared {G : Type 0} (run : Shared G) (count number : ℕ) (h : WorkerTokens) : Type 0 where
  pub work : IsNone h.unshelved → (w : Duty → ℕ)
      → calls_done w h.tokens ≡ share_below w run.objects.table.now.layout count number run.objects.table.now.layout.pages
  pub order : TokensAreInOrder h.tokens
  pub puts : IsTrue run.by_right → PutsAll h.tokens

-- an imposer's tokens
abbrev pub AreOfImposer : {G : Type 0} → Shared G → Tokens → Type 0
AreOfImposer run tokens = AreTokens run.objects.table.now run.objects.ready.now 1 tokens

-- what an imposer does in between: it keeps its tokens, nothing was published, marked or put, and no group is left open that
-- was closed
pub record OnlyImposes {G : Type 0} (run : Shared G) (old new : Tokens) : Type 0 where
  pub tokens : AreOfImposer run new
  pub work : (w : Duty → ℕ) → calls_done w new ≡ calls_done w old
  pub puts : (s : ℕ) → put_by s new ≡ put_by s old
  pub closes : CloseWhatTheyFill (own_calls old.seat) → CloseWhatTheyFill (own_calls new.seat)

-- what an imposer promises: it has no page without a receipt, and nothing was published, marked or put
pub record HasImposed (h : WorkerTokens) : Type 0 where
  pub shelved : IsNone h.unshelved
  pub work : (w : Duty → ℕ) → calls_done w h.tokens ≡ 0
  pub order : TokensAreInOrder h.tokens

-- what began with these tokens and is joined with those of the first preparers, this number of so many; if puts are made
-- by right, every sheet that calls completed since was put
pub record HasGathered {G : Type 0} (run : Shared G) (first : Tokens) (count joined : ℕ) (h : WorkerTokens) : Type 0 where
  pub work : IsNone h.unshelved → (w : Duty → ℕ)
      → calls_done w h.tokens ≡ shares w run.objects.table.now.layout count run.objects.table.now.layout.pages joined
  pub order : AreInOrderSince first h.tokens
  pub puts : IsTrue run.by_right → (s : ℕ) → put_by s h.tokens ≡ put_by s first + completed_by s h.tokens
