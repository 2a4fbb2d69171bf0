-- What the delivery of a page calls, and what it hands on.
use Rattle.std.specs.Prelude.{◌≡◌, ◌⊎◌, ℕ, ◌+◌, ◌<◌, ◌≤◌, Bool, true, false, List, [], ◌∷◌, ◌++◌, length, filter}
use Rattle.std.specs.Prelude.{Option, Some, None, if◌then◌else◌}
use Rattle.rules.specs.Sheets.{Layout}
use Rattle.rules.specs.Seats.{whole_share, occurrences}
use Rattle.sheet_plan.specs.Places.{places_of}
use Rattle.gather_table.specs.declared.answers.Published.{Published}
use Rattle.gather_table.specs.declared.answers.Reply.{Reply}
use Rattle.gather_table.specs.declared.answers.Reply.TheVariants.{Fresh, Repeated, Completing, Fills}
use Rattle.gather_table.specs.declared.answers.Closing.{Closing}
use Rattle.gather_table.specs.Table.{IsMarkable}
use Rattle.gather_table.specs.History.{Entry, Publish, Mark, Look, PageAt, CloseGroup, LookGroup, after_history}
use Rattle.gather_table.specs.Laws.{is_completing, closes_last, completings, fillings, closings}
use Rattle.handover.specs.Queue.{Put, content}
use Rattle.handover.specs.Passes.{QueueView, PassView, MadeMove, puts_in}
use Rattle.run_steps.specs.declared.delivery.Delivered.{Delivered}

-- a mark that was answered that it fills a group
abbrev pub is_filling : Reply → Bool
is_filling Fresh = false
is_filling Repeated = false
is_filling Completing = false
is_filling (Fills g) = true

-- directly after a mark of sheet s that was answered so: the closing of the group that it filled, with the next answer
abbrev pub closing_after : ℕ → Reply → List Closing → List Entry
closing_after s Fresh cs = []
closing_after s Repeated cs = []
closing_after s Completing cs = []
closing_after s (Fills g) [] = []
closing_after s (Fills g) (c ∷ cs) = CloseGroup s g c ∷ []

-- the answers that are left for later closings
abbrev pub left_after : Reply → List Closing → List Closing
left_after Fresh cs = cs
left_after Repeated cs = cs
left_after Completing cs = cs
left_after (Fills g) [] = []
left_after (Fills g) (c ∷ cs) = cs

-- one mark for each place, in order, each with its reply, and directly after each that filled a group the closing of it
abbrev pub place_calls : List (ℕ × ℕ) → List Reply → List Closing → List Entry
place_calls [] rs cs = []
place_calls (x ∷ xs) [] cs = []
place_calls (x ∷ xs) (r ∷ rs) cs =
    Mark x.0 x.1 r ∷ (closing_after x.0 r cs ++ place_calls xs rs (left_after r cs))

-- the answer of one closing, if there was one
abbrev pub answer_list : Option Closing → List Closing
answer_list None = []
answer_list (Some c) = c ∷ []

-- a mark that was answered so completed its sheet, or the closing of the group that it filled did
abbrev pub completes_sheet : Reply → Option Closing → Bool
completes_sheet Fresh c = false
completes_sheet Repeated c = false
completes_sheet Completing c = true
completes_sheet (Fills g) None = false
completes_sheet (Fills g) (Some c) = closes_last c

-- what a delivery of page p calls: a publish, and a mark for each place of the page, with the closings
abbrev pub delivery_calls : Layout → (p index : ℕ) → Published → List Reply → List Closing → List Entry
delivery_calls layout p index was replies closings =
    Publish p index was ∷ place_calls (places_of layout p) replies closings

-- what was called by a delivery of page p that was answered so
abbrev pub calls_of : Layout → (p : ℕ) → Delivered → List Entry
calls_of layout p d = delivery_calls layout p d.receipt.index d.published d.replies.items d.closings.items

-- there is an answer for each place of the page, and one for each group that a mark filled
pub record AreAnswered (layout : Layout) (p : ℕ) (replies : List Reply) (closings : List Closing) : Type 0 where
  pub marks : length replies ≡ length (places_of layout p)
  pub closes : length closings ≡ length (filter is_filling replies)

-- a place that may be marked by who has seen this much
abbrev pub IsReady : Layout → List Entry → ℕ × ℕ → Type 0
IsReady layout front x = (x.0 < length layout.sheets) × IsMarkable layout (after_history layout front) x.0 x.1

-- the sheet that a call completed
abbrev pub sheet_completed : Entry → List ℕ
sheet_completed (Publish p i r) = []
sheet_completed (Mark s k r) = if is_completing r then s ∷ [] else []
sheet_completed (Look s m) = []
sheet_completed (PageAt p o) = []
sheet_completed (CloseGroup s g c) = if closes_last c then s ∷ [] else []
sheet_completed (LookGroup s g m) = []

-- the sheets that these calls completed, in order
abbrev pub completed : List Entry → List ℕ
completed [] = []
completed (e ∷ es) = sheet_completed e ++ completed es

-- they are as many as there are calls that complete a sheet: a law
abbrev pub CompletedAreCounted : Type 0
CompletedAreCounted = (s : ℕ) (es : List Entry) → occurrences s (completed es) ≡ completings s es

-- each group that these calls filled they closed
abbrev pub CloseWhatTheyFill : List Entry → Type 0
CloseWhatTheyFill es = (s g : ℕ) → closings s g es ≡ fillings s g es

-- so it is with a delivery: a law
abbrev pub DeliveriesClose : Type 0
DeliveriesClose = (layout : Layout) (p i : ℕ) (was : Published) (rs : List Reply) (cs : List Closing)
    → AreAnswered layout p rs cs → CloseWhatTheyFill (delivery_calls layout p i was rs cs)

-- the calls of a delivery complete no more sheets than the page has places: a law
abbrev pub CompletedAreFew : Type 0
CompletedAreFew = (layout : Layout) (p i : ℕ) (was : Published) (rs : List Reply) (cs : List Closing)
    → length (completed (delivery_calls layout p i was rs cs)) ≤ length (places_of layout p)

-- the queue answered Full to this pass, whose put wasn't by right: one that has all shares had seen as many sheets in the
-- queue as it has room for
abbrev pub WasRefused : QueueView → PassView → Type 0
WasRefused queue pass =
    (puts_in pass.room ≡ 0) × (pass.share ≡ whole_share → length (content pass.front) ≡ queue.capacity)

-- these sheets were put on the queue, in order, but for those handed back, for each of which the queue answered Full in
-- its turn
abbrev pub HandedOn : QueueView → (sheets back : List ℕ) → PassView → PassView → Type 0
HandedOn queue [] back old new = (back ≡ []) × (new ≡ old)
HandedOn queue (s ∷ sheets) back old new =
    ((mid : PassView) × MadeMove old (Put s) mid × HandedOn queue sheets back mid new)
    ⊎ ((others : List ℕ) × (back ≡ s ∷ others) × WasRefused queue old × HandedOn queue sheets others old new)

-- of sheets for which the pass has room none is handed back: the puts are made by right, and lower the room by as many. A
-- law
abbrev pub NoneHandedBack : Type 0
NoneHandedBack =
    (queue : QueueView) (sheets back : List ℕ) (old new : PassView) → HandedOn queue sheets back old new
    → length sheets ≤ puts_in old.room → (back ≡ []) × (puts_in new.room + length sheets ≡ puts_in old.room)
