use Rattle.std.proofs.Common.{option_map}
use Rattle.std.specs.Prelude.{string_bytes}
use Rattle.layouts.proofs.Fitting.{handed_on}
use Rattle.impose_words.specs.Words.{ranges_id, rows_in}
use Rattle.impose_words.proofs.Found.{at_once, choice_right, next, outfile_right, says_first, says_next}
use Rattle.impose_words.proofs.command.request_for.Goals as goal

pub returns-in-Err-clause-refused : goal.returns-in-Err-clause-refused
returns-in-Err-clause-refused c = c.bad_value.ensures _ (at_once _ c.in-Err.ensures.wrong)

pub returns-in-Err-marks_of-clause-refused : goal.returns-in-Err-marks_of-clause-refused
returns-in-Err-marks_of-clause-refused c = c.bad_value-in-Err-marks_of.ensures _ (next c.in-Ok.ensures.wrong (at_once _ c.in-Err-marks_of.ensures.wrong))

pub returns-in_err-choice-clause-refused : goal.returns-in_err-choice-clause-refused
returns-in_err-choice-clause-refused c =
    let rows = rows_in c.args.found.now in
    let f = c.in_err-choice.field-0.0 in
    handed_on c.from_residual.result f _ c.from_residual.ensures.1
    (says_next rows f _ _ c.in-Ok.ensures.wrong (says_next rows f _ _ c.in-Ok-marks_of.ensures.wrong (says_first rows f _ _ c.in_err-choice.ensures.refused)))

pub returns-in_err-outfile-clause-refused : goal.returns-in_err-outfile-clause-refused
returns-in_err-outfile-clause-refused c =
    let rows = rows_in c.args.found.now in
    let f = c.in_err-outfile.field-0.0 in
    let choice = choice_right (ranges_id c.args.layout) rows c.in_ok-choice.choice c.in_ok-choice.ensures.read in
    handed_on c.from_residual-in_err-outfile.result f _ c.from_residual-in_err-outfile.ensures.1
    (says_next rows f _ _ c.in-Ok.ensures.wrong (says_next rows f _ _ c.in-Ok-marks_of.ensures.wrong
    (says_next rows f _ _ choice (says_first rows f _ _ c.in_err-outfile.ensures.refused))))

pub returns-in_err-product-clause-refused : goal.returns-in_err-product-clause-refused
returns-in_err-product-clause-refused c =
    let rows = rows_in c.args.found.now in
    let f = c.in_err-product.field-0.0 in
    let choice = choice_right (ranges_id c.args.layout) rows c.in_ok-choice.choice c.in_ok-choice.ensures.read in
    let outfile = outfile_right rows (option_map string_bytes c.in_ok-outfile.outfile) c.in_ok-outfile.ensures.asked c.in_ok-outfile.ensures.no_option in
    handed_on c.from_residual-in_err-product.result f _ c.from_residual-in_err-product.ensures.1
    (says_next rows f _ _ c.in-Ok.ensures.wrong (says_next rows f _ _ c.in-Ok-marks_of.ensures.wrong
    (says_next rows f _ _ choice (says_next rows f _ _ outfile c.in_err-product.ensures.refused))))
