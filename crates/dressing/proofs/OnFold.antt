-- A booklet's fold marks lie on its fold.
use Rattle.std.proofs.Common.{arith, ◌≡◌, ℕ, ◌+◌, ◌-◌, ◌*◌, ◌<◌, Bool, true, false, refl, ap, None}
use Rattle.std.specs.Prelude.{pos, nat_abs, ◌==◌, if◌then◌else◌}
use Rattle.rules.specs.Papers.{Paper}
use Rattle.layouts.specs.Cells.{Along, along_height, kept_length, pitch, gap_at}
use Rattle.layouts.specs.Fitted.{binding_setting_of, fitted, fitted_back, scale_on, why_no_scale_on}
use Rattle.layouts.specs.Grids.{beside}
use Rattle.layouts.specs.Laws.{HasPlace, IsHalfTurnOf, IsPaper}
use Rattle.layouts.proofs.Fitting.{halves_fit, has_scale, leaves_even, stands_back}
use Rattle.layouts.proofs.Folds.{fold, fold_on_sheet, in_middle, lies_before, lies_behind, turned_before, turned_behind}
use Rattle.layouts.proofs.InGrid.{fits}
use Rattle.dressing.specs.Between.{FoldMarksAreOnFold}

-- the middle of the gap
middle_at : (untrimmed : Bool) (edge part gap : ℕ)
    → 1_270_000 * (edge + 1 * part) - 635_000 * (if untrimmed then gap else gap + 1) ≡ 635_000 * (2 * (edge + part) - gap - (if untrimmed then 0 else 0 + 1))
middle_at true edge part gap = omega arith
middle_at false edge part gap = omega arith

pub mark_is : (a : Along) (side : ℕ) → gap_at a side 2 1 ≡ 635_000 * (fold a side - kept_length a.trim 0)
mark_is a side = middle_at (a.trim == 0) (kept_length a.trim a.before) (pitch a side 2) a.gap

one_of_two : (b : Bool) → ((if b then 1 else 0) < 2) × ((if b then 0 else 1) < 2)
one_of_two true = (omega arith, omega arith)
one_of_two false = (omega arith, omega arith)

pub fold_marks_are_on_fold : FoldMarksAreOnFold
fold_marks_are_on_fold page sheet b on possible =
    let t = binding_setting_of sheet b in
    let room = t.room in
    let r = b.right_to_left in
    let side = nat_abs sheet.height in
    let has : (o : Paper) → why_no_scale_on t o ≡ None → HasPlace o room (beside true) (scale_on t o) = λ o e. (has_scale t o e).place in
    let some = (fits page room (beside true) (scale_on t page) (has page (halves_fit page sheet b possible))).some_wide in
    let a = along_height room in
    let even = (leaves_even page sheet b possible).up in
    let middle = in_middle a side even some in
    let low = fold_on_sheet a side even some in
    let two = one_of_two r in
    let turned : (o : Paper) (k : ℕ) → IsPaper o → k < 2 → why_no_scale_on t o ≡ None → IsHalfTurnOf o sheet (fitted t o k) (fitted_back t o k) =
    λ o k is within e. (stands_back t o k is on within e).turned refl in
    let at = ap pos (mark_is a side) in (
      record {
        twice = fold a side;
        no_farther = middle.0;
        no_nearer = middle.1;
        before = λ o is e. lies_before o room r (scale_on t o) is (has o e);
        behind = λ o is e. lies_behind o room r (scale_on t o) is (has o e);
        turned_behind = λ o is e. turned_behind room (fold a side) o (fitted t o (if r then 1 else 0)) (fitted_back t o (if r then 1 else 0)) low
            (lies_before o room r (scale_on t o) is (has o e)) (turned o (if r then 1 else 0) is two.0 e);
        turned_before = λ o is e. turned_before room (fold a side) o (fitted t o (if r then 0 else 1)) (fitted_back t o (if r then 0 else 1)) low
            (lies_behind o room r (scale_on t o) is (has o e)) (turned o (if r then 0 else 1) is two.1 e);
      },
      ((at, at), ((at, at), tt)),
    )
