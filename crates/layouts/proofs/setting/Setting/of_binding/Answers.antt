use Rattle.std.proofs.Common.{rules, ◌≡◌, sym, ap, subst, ◌∙◌, false, true}
use Rattle.layouts.specs.Cells.{scale_in}
use Rattle.layouts.specs.Grids.{beside}
use Rattle.layouts.specs.Refusals.{folds_short, is_even}
use Rattle.layouts.specs.Fitted.{HaveOneFold}
use Rattle.layouts.proofs.Possible.{even_room, leaves_refused, leaf_reason, long_fold, uneven}
use Rattle.layouts.proofs.Fitting.{halves_made, handed_on, one_fold}
use Rattle.layouts.proofs.setting.Setting.of_binding.Goals as goal

pub returns-then-not-is_even-clause-refused : goal.returns-then-not-is_even-clause-refused
returns-then-not-is_even-clause-refused c =
    let not : is_even c.in_ok-room.room ≡ false = search rules in
    uneven c.args.papers.now.page c.args.papers.now.sheet c.args.binding.now c.in_ok-room.room c.in_ok-room.ensures.possible c.in_ok-room.ensures.room not

pub returns-then-not-is_fold_short-clause-refused : goal.returns-then-not-is_fold_short-clause-refused
returns-then-not-is_fold_short-clause-refused c =
    let even : is_even c.in_ok-room.room ≡ true = search rules in
    let not : folds_short c.args.papers.now.page c.in_ok-room.room ≡ false = search rules in
    long_fold c.args.papers.now.page c.args.papers.now.sheet c.args.binding.now c.in_ok-room.room c.in_ok-room.ensures.possible c.in_ok-room.ensures.room even not

pub returns-clause-made : goal.returns-clause-made
returns-clause-made c =
    halves_made c.args.papers.now.sheet c.args.binding.now _ _ _ c.in_ok-room.ensures.room c.beside-grid.ensures c.leaf_order.ensures

pub returns-clause-possible : goal.returns-clause-possible
returns-clause-possible c =
    let page = c.args.papers.now.page in
    let sheet = c.args.papers.now.sheet in
    let b = c.args.binding.now in
    let even : is_even c.in_ok-room.room ≡ true = search rules in
    let folds : folds_short page c.in_ok-room.room ≡ true = search rules in
    let large : c.scale_in-largest.result ≡ scale_in page c.in_ok-room.room (beside true) = c.scale_in-largest.ensures ∙ ap (scale_in page c.in_ok-room.room) c.beside-grid.ensures in
    leaf_reason page sheet b c.in_ok-room.room c.scale_in-largest.result _ c.in_ok-room.ensures.possible c.in_ok-room.ensures.room even folds large c.in_ok-scale_found.ensures.possible

pub returns-clause-even : goal.returns-clause-even
returns-clause-even c = let even : is_even c.in_ok-room.room ≡ true = search rules in even_room c.in_ok-room.room even

pub returns-clause-folded : goal.returns-clause-folded
returns-clause-folded c =
    let b = c.args.binding.now in
    subst (λ t. HaveOneFold t b.right_to_left) (sym (returns-clause-made c)) (one_fold c.args.papers.now.page c.args.papers.now.sheet b (returns-clause-possible c))

pub returns-in_err-room-clause-refused : goal.returns-in_err-room-clause-refused
returns-in_err-room-clause-refused c =
    handed_on _ _ _ c.from_residual.ensures.1 (leaves_refused c.args.papers.now.page c.args.papers.now.sheet c.args.binding.now c.in_err-room.field-0.0 c.in_err-room.ensures.refused)

pub returns-in_err-scale_found-clause-refused : goal.returns-in_err-scale_found-clause-refused
returns-in_err-scale_found-clause-refused c =
    let page = c.args.papers.now.page in
    let sheet = c.args.papers.now.sheet in
    let b = c.args.binding.now in
    let even : is_even c.in_ok-room.room ≡ true = search rules in
    let folds : folds_short page c.in_ok-room.room ≡ true = search rules in
    let large : c.scale_in-largest.result ≡ scale_in page c.in_ok-room.room (beside true) = c.scale_in-largest.ensures ∙ ap (scale_in page c.in_ok-room.room) c.beside-grid.ensures in
    handed_on _ _ _ c.from_residual-in_err-scale_found.ensures.1 (leaf_reason page sheet b c.in_ok-room.room c.scale_in-largest.result _ c.in_ok-room.ensures.possible c.in_ok-room.ensures.room even folds large c.in_err-scale_found.ensures.refused)
