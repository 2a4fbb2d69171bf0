-- Pages of all papers in their cells.
use Rattle.std.proofs.Common.{◌≡◌, ℕ, ◌-◌, ◌*◌, Bool, true, false, Option, Some, None, sym, subst}
use Rattle.std.specs.Prelude.{if◌then◌else◌, nat_abs}
use Rattle.rules.specs.Papers.{Paper}
use Rattle.rules.specs.Specification.{Item}
use Rattle.rules.specs.Made.{MadeSlot, Blank, Placed}
use Rattle.layouts.specs.Cells.{whole_parts}
use Rattle.layouts.specs.Fitted.{why_not_fitted, HaveOneFold}
use Rattle.layouts.specs.Laws.{IsPaper, LiesBefore, LiesBehind}
use Rattle.layouts.proofs.Fitting.{one_fold}
use Rattle.row_sheets.specs.Filled.{Filling, in_half, slot_on, HavePlaces, SlotLiesBefore, SlotLiesBehind, BookletFolds}
use Rattle.row_sheets.specs.Filled.{FilledIsInside, FilledIsApart, SidesAreInside, SidesAreApart, BookletKeepsFold}
use Rattle.row_sheets.specs.Standing.{EntryFits}
use Rattle.row_sheets.proofs.OnSheets.{not_turned, slot_inside, slots_apart}

entry_fits : (f : Filling) (entry : Option ℕ) → IsPaper f.setting.room.paper → HavePlaces f → EntryFits f entry
entry_fits f None on places = tt
entry_fits f (Some page) on places = let p = places page in record { sheet_is = on; page_is = p.0; fits = p.1 }

pub filled_is_inside : FilledIsInside
filled_is_inside f c entry on places within = slot_inside f false c entry (not_turned f.setting) within (entry_fits f entry on places)

pub filled_is_apart : FilledIsApart
filled_is_apart f c d one other on places in_c in_d differ =
    slots_apart f false c d one other in_c in_d differ (entry_fits f one on places) (entry_fits f other on places)

-- on sheets that are turned by half

pub sides_are_inside : SidesAreInside
sides_are_inside f by_half c entry on places even many within = slot_inside f by_half c entry (λ e. record { many = many; even = even e }) within (entry_fits f entry on places)

pub sides_are_apart : SidesAreApart
sides_are_apart f by_half c d one other on places in_c in_d differ =
    slots_apart f by_half c d one other in_c in_d differ (entry_fits f one on places) (entry_fits f other on places)

-- on leaves

-- what holds of each page in its cell holds of a slot, if it holds of a blank one
each_page : (f : Filling) (by_half : Bool) (c : ℕ) (entry : Option ℕ) (Q : Paper → Item → Type 0) (S : MadeSlot → Type 0) → S Blank → ((page : ℕ) (item : Item) (paper : Paper) → Q paper item → S (Placed page item paper)) → HavePlaces f
    → ((paper : Paper) → IsPaper paper → why_not_fitted f.setting paper ≡ None → Q paper (in_half f.setting by_half paper c)) → S (slot_on f by_half c entry)
each_page f false c None Q S blank placed places h = blank
each_page f true c None Q S blank placed places h = blank
each_page f false c (Some page) Q S blank placed places h = let p = places page in placed page _ (f.paper_of page) (h (f.paper_of page) p.0 p.1)
each_page f true c (Some page) Q S blank placed places h = let p = places page in placed page _ (f.paper_of page) (h (f.paper_of page) p.0 p.1)

folds : (f : Filling) (right_to_left : Bool) → HaveOneFold f.setting right_to_left → HavePlaces f → BookletFolds f right_to_left
folds f r fold places =
    let room = f.setting.room in
    let h = whole_parts (nat_abs room.paper.height) in
    record {
      twice = fold.twice;
      no_farther = fold.no_farther;
      no_nearer = fold.no_nearer;
      before = λ entry. each_page f false (if r then 1 else 0) entry (LiesBefore room fold.twice) (SlotLiesBefore room fold.twice) tt (λ page item paper lies. lies) places fold.before;
      behind = λ entry. each_page f false (if r then 0 else 1) entry (LiesBehind room fold.twice) (SlotLiesBehind room fold.twice) tt (λ page item paper lies. lies) places fold.behind;
      turned_behind = λ entry. each_page f true (if r then 1 else 0) entry (LiesBehind room (2 * h - fold.twice)) (SlotLiesBehind room (2 * h - fold.twice)) tt (λ page item paper lies. lies) places fold.turned_behind;
      turned_before = λ entry. each_page f true (if r then 0 else 1) entry (LiesBefore room (2 * h - fold.twice)) (SlotLiesBefore room (2 * h - fold.twice)) tt (λ page item paper lies. lies) places fold.turned_before;
    }

pub booklet_keeps_fold : BookletKeepsFold
booklet_keeps_fold f page sheet b possible is places =
    folds f b.right_to_left (subst (λ t. HaveOneFold t b.right_to_left) (sym is) (one_fold page sheet b possible)) places
