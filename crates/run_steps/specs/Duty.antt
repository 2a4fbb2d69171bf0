-- What preparers owe, weighed: each page is published once, and each place of it is marked once.
use Rattle.std.specs.Prelude.{◌≡◌, ℕ, zero, suc, ◌+◌, ◌<◌, ◌%◌, ◌==◌, if◌then◌else◌, List, ◌∷◌, length, map, min}
use Rattle.rules.specs.Sheets.{Layout}
use Rattle.rules.specs.Seats.{total}
use Rattle.sheet_plan.specs.Places.{places_of, born_complete}
use Rattle.gather_table.specs.declared.answers.Published.{Published}
use Rattle.gather_table.specs.declared.answers.Reply.{Reply}
use Rattle.gather_table.specs.History.{Entry, Publish, Mark, Look, PageAt, CloseGroup, LookGroup}
use Rattle.gather_table.specs.declared.answers.Closing.{Closing}
use Rattle.run_steps.specs.Delivery.{delivery_calls}

-- a change of the table that is wanted, whatever it is answered: a page gets an index, a slot of a sheet is marked
pub data Duty : Type 0 where
  OfPage : ℕ → Duty
  OfSlot : ℕ → ℕ → Duty

-- the weight of a call; one that only reads has none, and none has the closing of a group, which follows from marks
abbrev pub worth : (Duty → ℕ) → Entry → ℕ
worth h (Publish p i r) = h (OfPage p)
worth h (Mark s k r) = h (OfSlot s k)
worth h (Look s m) = 0
worth h (PageAt p o) = 0
worth h (CloseGroup s g c) = 0
worth h (LookGroup s g m) = 0

abbrev pub of_place : ℕ × ℕ → Duty
of_place x = OfSlot x.0 x.1

-- what page p wants done
abbrev pub duties : Layout → ℕ → List Duty
duties layout p = OfPage p ∷ map of_place (places_of layout p)

-- what preparer `number` of `count` owes for the pages below n: those p with p mod count = number
abbrev pub share_below : (Duty → ℕ) → Layout → (count number n : ℕ) → ℕ
share_below h layout count number zero = 0
share_below h layout count number (suc p) =
    share_below h layout count number p + (if p % count == number then total h (duties layout p) else 0)

-- what all pages below n want done
abbrev pub owed : (Duty → ℕ) → Layout → ℕ → ℕ
owed h layout zero = 0
owed h layout (suc p) = owed h layout p + total h (duties layout p)

-- what the first k preparers of `count` owe together for the pages below n
abbrev pub shares : (Duty → ℕ) → Layout → (count n k : ℕ) → ℕ
shares h layout count n zero = 0
shares h layout count n (suc k) = shares h layout count n k + share_below h layout count k n

-- a mark of a place, whichever it is
abbrev pub is_place : Duty → ℕ
is_place (OfPage p) = 0
is_place (OfSlot s k) = 1

-- how many puts preparer `number` of `count` makes at most: it completes no more sheets than its pages have places, and no
-- more than there are
abbrev pub most_puts : Layout → (count number : ℕ) → ℕ
most_puts layout count number =
    min (share_below is_place layout count number layout.pages) (length layout.sheets)

-- how many puts the first k preparers of `count` make at most
abbrev pub most_puts_of : Layout → (count k : ℕ) → ℕ
most_puts_of layout count zero = 0
most_puts_of layout count (suc k) = most_puts_of layout count k + most_puts layout count k

-- how many puts a gathering by so many preparers makes at most: those of the preparers, and the sheets without pages
abbrev pub most_puts_in_all : Layout → (count : ℕ) → ℕ
most_puts_in_all layout count = most_puts_of layout count count + length (born_complete layout)

-- a delivery does what its page wants done
abbrev pub DeliveriesWeigh : Type 0
DeliveriesWeigh =
    (h : Duty → ℕ) (layout : Layout) (p i : ℕ) (was : Published) (rs : List Reply) (cs : List Closing)
    → length rs ≡ length (places_of layout p)
    → total (worth h) (delivery_calls layout p i was rs cs) ≡ total h (duties layout p)

-- the shares of all preparers are what all pages want done
abbrev pub SharesAreAll : Type 0
SharesAreAll = (h : Duty → ℕ) (layout : Layout) (count : ℕ) → 0 < count → (n : ℕ)
    → shares h layout count n count ≡ owed h layout n
