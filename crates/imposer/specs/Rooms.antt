-- What room there is for the puts of a gathering, if puts are made by right.
use Rattle.std.specs.Prelude.{◌≡◌, ◌⊎◌, ℕ, ◌+◌, ◌≤◌, length}
use Rattle.rules.specs.Sheets.{Layout}
use Rattle.sheet_plan.specs.Places.{places_of}
use Rattle.handover.specs.Passes.{PassView, puts_in}
use Rattle.run_steps.specs.Duty.{is_place, share_below, most_puts_in_all}
use Rattle.imposer.specs.Tokens.{completed_by, completed_below, put_by}
use Rattle.imposer.specs.declared.tokens.Tokens.{Tokens}

-- the pass has room for all puts of a gathering by so many preparers
abbrev pub HasRoomForAll : Layout → (count : ℕ) → PassView → Type 0
HasRoomForAll layout count pass = most_puts_in_all layout count ≤ puts_in pass.room

-- every sheet was put as often as calls completed it
abbrev pub PutsAll : Tokens → Type 0
PutsAll tokens = (s : ℕ) → put_by s tokens ≡ completed_by s tokens

-- there is room for what preparer `number` of `count` may complete from page n on: a put for each place that is left, or
-- one for each sheet that it hasn't completed
abbrev pub HasRoomFrom : Layout → (count number n : ℕ) → Tokens → Type 0
HasRoomFrom layout count number n tokens =
    (share_below is_place layout count number layout.pages
    ≤ puts_in tokens.pass.room + share_below is_place layout count number n)
    ⊎ (length layout.sheets ≤ puts_in tokens.pass.room + completed_below (length layout.sheets) tokens)

-- there is room for what the delivery of page p may complete
abbrev pub HasRoomForPage : Layout → (p : ℕ) → Tokens → Type 0
HasRoomForPage layout p tokens =
    (length (places_of layout p) ≤ puts_in tokens.pass.room)
    ⊎ (length layout.sheets ≤ puts_in tokens.pass.room + completed_below (length layout.sheets) tokens)

-- what the delivery of page p completed was put by right
pub record PutsByRight (layout : Layout) (p : ℕ) (old new : Tokens) : Type 0 where
  pub count : ℕ
  pub few : count ≤ length (places_of layout p)
  pub room : puts_in new.pass.room + count ≡ puts_in old.pass.room
  pub counted : completed_below (length layout.sheets) new ≡ completed_below (length layout.sheets) old + count
  pub all : PutsAll old → PutsAll new
