use Rattle.std.proofs.Common.{rules, ◌∙◌, Some, ap, refl, sym, unwrap_or}
use Rattle.std.specs.Prelude.{option_map}
use Rattle.layouts.specs.Grids.{nothing_free}
use Rattle.impose_words.specs.Edges.{gaps_named, margins_in, margins_named}
use Rattle.impose_words.specs.Sizes.{number_alone}
use Rattle.impose_words.specs.Spacings.{keeps_room}
use Rattle.impose_words.specs.Words.{given, length_found, rows_in}
use Rattle.impose_words.specs.declared.fault.OptionId.TheVariants as opt
use Rattle.impose_words.proofs.Found.{at_once, next}
use Rattle.impose_words.proofs.Values.{err_is, fails, fails_or, free_read, handed_wrong, ok_is, past, reads, reads_or, room_wrong, spaces}
use Rattle.impose_words.proofs.command.spacing_of.Goals as goal

pub returns-in_err-skipped-clause-wrong : goal.returns-in_err-skipped-clause-wrong
returns-in_err-skipped-clause-wrong c = handed_wrong c.from_residual.result _ c.from_residual.ensures.1 (at_once _ c.in_err-skipped.ensures.wrong)

pub returns-in_err-margins-clause-wrong : goal.returns-in_err-margins-clause-wrong
returns-in_err-margins-clause-wrong c =
    let found = rows_in c.args.found.now in
    handed_wrong c.from_residual-in_err-margins.result _ c.from_residual-in_err-margins.ensures.1
    (next c.in_ok-skipped.ensures.wrong (room_wrong (keeps_room c.args.layout.now) found (search rules)
    (at_once _ (fails_or margins_named (given opt.Margin found) opt.Margin _ (margins_in nothing_free) _ (λ p v h. h) c.in_err-margins.ensures))))

pub returns-in_err-gaps-clause-wrong : goal.returns-in_err-gaps-clause-wrong
returns-in_err-gaps-clause-wrong c =
    let found = rows_in c.args.found.now in
    let margins = reads_or margins_named (given opt.Margin found) opt.Margin _ (margins_in nothing_free) (λ p v h. h) c.in_ok-margins.ensures in
    handed_wrong c.from_residual-in_err-gaps.result _ c.from_residual-in_err-gaps.ensures.1
    (next c.in_ok-skipped.ensures.wrong (room_wrong (keeps_room c.args.layout.now) found (search rules)
    (at_once _ (past _ margins (fails_or gaps_named (given opt.Gap found) opt.Gap _ nothing_free _ (λ p v h. h) c.in_err-gaps.ensures)))))

pub returns-in_err-trim-clause-wrong : goal.returns-in_err-trim-clause-wrong
returns-in_err-trim-clause-wrong c =
    let found = rows_in c.args.found.now in
    let margins = reads_or margins_named (given opt.Margin found) opt.Margin _ (margins_in nothing_free) (λ p v h. h) c.in_ok-margins.ensures in
    let gaps = reads_or gaps_named (given opt.Gap found) opt.Gap _ nothing_free (λ p v h. h) c.in_ok-gaps.ensures in
    handed_wrong c.from_residual-in_err-trim.result _ c.from_residual-in_err-trim.ensures.1
    (next c.in_ok-skipped.ensures.wrong (room_wrong (keeps_room c.args.layout.now) found (search rules)
    (at_once _ (past _ margins (past _ gaps (err_is (length_found opt.Trim found) opt.Trim _ _ c.in_err-trim.ensures))))))

pub returns-in_err-creep-clause-wrong : goal.returns-in_err-creep-clause-wrong
returns-in_err-creep-clause-wrong c =
    let found = rows_in c.args.found.now in
    let margins = reads_or margins_named (given opt.Margin found) opt.Margin _ (margins_in nothing_free) (λ p v h. h) c.in_ok-margins.ensures in
    let gaps = reads_or gaps_named (given opt.Gap found) opt.Gap _ nothing_free (λ p v h. h) c.in_ok-gaps.ensures in
    let trim = ok_is (length_found opt.Trim found) opt.Trim _ c.in_ok-trim.ensures in
    handed_wrong c.from_residual-in_err-creep.result _ c.from_residual-in_err-creep.ensures.1
    (next c.in_ok-skipped.ensures.wrong (room_wrong (keeps_room c.args.layout.now) found (search rules)
    (at_once _ (past _ margins (past _ gaps (past _ trim (err_is (length_found opt.Creep found) opt.Creep _ _ c.in_err-creep.ensures)))))))

pub returns-in_err-overlap-clause-wrong : goal.returns-in_err-overlap-clause-wrong
returns-in_err-overlap-clause-wrong c =
    let found = rows_in c.args.found.now in
    let margins = reads_or margins_named (given opt.Margin found) opt.Margin _ (margins_in nothing_free) (λ p v h. h) c.in_ok-margins.ensures in
    let gaps = reads_or gaps_named (given opt.Gap found) opt.Gap _ nothing_free (λ p v h. h) c.in_ok-gaps.ensures in
    let trim = ok_is (length_found opt.Trim found) opt.Trim _ c.in_ok-trim.ensures in
    let creep = ok_is (length_found opt.Creep found) opt.Creep _ c.in_ok-creep.ensures in
    handed_wrong c.from_residual-in_err-overlap.result _ c.from_residual-in_err-overlap.ensures.1
    (next c.in_ok-skipped.ensures.wrong (room_wrong (keeps_room c.args.layout.now) found (search rules)
    (at_once _ (past _ margins (past _ gaps (past _ trim (past _ creep (err_is (length_found opt.Overlap found) opt.Overlap _ _ c.in_err-overlap.ensures))))))))

pub returns-in_err-order-clause-wrong : goal.returns-in_err-order-clause-wrong
returns-in_err-order-clause-wrong c =
    let found = rows_in c.args.found.now in
    let margins = reads_or margins_named (given opt.Margin found) opt.Margin _ (margins_in nothing_free) (λ p v h. h) c.in_ok-margins.ensures in
    let gaps = reads_or gaps_named (given opt.Gap found) opt.Gap _ nothing_free (λ p v h. h) c.in_ok-gaps.ensures in
    let trim = ok_is (length_found opt.Trim found) opt.Trim _ c.in_ok-trim.ensures in
    let creep = ok_is (length_found opt.Creep found) opt.Creep _ c.in_ok-creep.ensures in
    let overlap = ok_is (length_found opt.Overlap found) opt.Overlap _ c.in_ok-overlap.ensures in
    handed_wrong c.from_residual-in_err-order.result _ c.from_residual-in_err-order.ensures.1
    (next c.in_ok-skipped.ensures.wrong (room_wrong (keeps_room c.args.layout.now) found (search rules)
    (next (past _ margins (past _ gaps (past _ trim (past _ creep (past _ overlap refl))))) (at_once _ c.in_err-order.ensures.wrong))))

pub returns-in_err-scale-clause-wrong : goal.returns-in_err-scale-clause-wrong
returns-in_err-scale-clause-wrong c =
    let found = rows_in c.args.found.now in
    let margins = reads_or margins_named (given opt.Margin found) opt.Margin _ (margins_in nothing_free) (λ p v h. h) c.in_ok-margins.ensures in
    let gaps = reads_or gaps_named (given opt.Gap found) opt.Gap _ nothing_free (λ p v h. h) c.in_ok-gaps.ensures in
    let trim = ok_is (length_found opt.Trim found) opt.Trim _ c.in_ok-trim.ensures in
    let creep = ok_is (length_found opt.Creep found) opt.Creep _ c.in_ok-creep.ensures in
    let overlap = ok_is (length_found opt.Overlap found) opt.Overlap _ c.in_ok-overlap.ensures in
    handed_wrong c.from_residual-in_err-scale.result _ c.from_residual-in_err-scale.ensures.1
    (next c.in_ok-skipped.ensures.wrong (room_wrong (keeps_room c.args.layout.now) found (search rules)
    (next (past _ margins (past _ gaps (past _ trim (past _ creep (past _ overlap refl))))) (next c.in_ok-order.ensures.wrong (fails number_alone (given opt.Scale found) opt.Scale _ _ (λ p v h. h) c.in_err-scale.ensures)))))

pub returns-clause-wrong : goal.returns-clause-wrong
returns-clause-wrong c =
    let found = rows_in c.args.found.now in
    let margins = reads_or margins_named (given opt.Margin found) opt.Margin _ (margins_in nothing_free) (λ p v h. h) c.in_ok-margins.ensures in
    let gaps = reads_or gaps_named (given opt.Gap found) opt.Gap _ nothing_free (λ p v h. h) c.in_ok-gaps.ensures in
    let trim = ok_is (length_found opt.Trim found) opt.Trim _ c.in_ok-trim.ensures in
    let creep = ok_is (length_found opt.Creep found) opt.Creep _ c.in_ok-creep.ensures in
    let overlap = ok_is (length_found opt.Overlap found) opt.Overlap _ c.in_ok-overlap.ensures in
    next c.in_ok-skipped.ensures.wrong (room_wrong (keeps_room c.args.layout.now) found (search rules)
    (next (past _ margins (past _ gaps (past _ trim (past _ creep (past _ overlap refl))))) (next c.in_ok-order.ensures.wrong (past _ (reads number_alone (given opt.Scale found) opt.Scale _ (λ p v h. h) c.in_ok-scale.ensures) refl))))

pub returns-clause-read : goal.returns-clause-read
returns-clause-read c =
    let found = rows_in c.args.found.now in
    let margins = reads_or margins_named (given opt.Margin found) opt.Margin _ (margins_in nothing_free) (λ p v h. h) c.in_ok-margins.ensures in
    let gaps = reads_or gaps_named (given opt.Gap found) opt.Gap _ nothing_free (λ p v h. h) c.in_ok-gaps.ensures in
    let free = margins ∙ ap Some (sym (c.unwrap_or-free.ensures ∙ ap (λ d. unwrap_or c.in_ok-margins.margins d) (c.of.ensures ∙ ap margins_in c.none-2.ensures))) in
    let across = gaps ∙ ap Some (sym (c.unwrap_or-across.ensures ∙ ap (λ d. unwrap_or c.in_ok-gaps.gaps d) c.none-3.ensures)) in
    spaces (keeps_room c.args.layout.now) found _ (search rules) (
      free_read _ _ _ _ _ _ free across (ok_is (length_found opt.Trim found) opt.Trim _ c.in_ok-trim.ensures),
      ok_is (length_found opt.Creep found) opt.Creep _ c.in_ok-creep.ensures,
      ok_is (length_found opt.Overlap found) opt.Overlap _ c.in_ok-overlap.ensures,
      c.in_ok-order.ensures.read,
      reads number_alone (given opt.Scale found) opt.Scale _ (λ p v h. h) c.in_ok-scale.ensures,
      sym c.is_set.ensures,
      ap (option_map (λ m. m.inner)) free,
    )
