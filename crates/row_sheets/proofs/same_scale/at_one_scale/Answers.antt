use Rattle.std.proofs.Common.{arith, rules, ◌≡◌, ◌≤◌, Some, None, length, refl}
use Rattle.std.proofs.lemmas.Grind.{common_steps}
use Rattle.rules.specs.Signatures.{entry_of}
use Rattle.row_sheets.specs.Shapes.{filling}
use Rattle.row_sheets.specs.SameScale.{first_unscaled, why_no_own_scale}
use Rattle.row_sheets.proofs.Filling.{one_more}
use Rattle.layouts.proofs.Fitting.{handed_on}
use Rattle.row_sheets.proofs.Refused.{first_entry, no_fault}
use Rattle.row_sheets.proofs.same_scale.at_one_scale.Goals as goal

pub loop-entry-preserved : goal.loop-entry-preserved
loop-entry-preserved c = record {
  least = grind (arith, common_steps);
  none = one_more (λ i. why_no_own_scale (filling c.args.setting.now c.args.papers.now) (entry_of c.args.row.now i) ≡ None) c.loop-entry.entry-index c.loop-entry.invariant.none (search rules);
}

pub returns-in_err-least-clause-refused : goal.returns-in_err-least-clause-refused
returns-in_err-least-clause-refused c =
    let f = filling c.args.setting.now c.args.papers.now in
    let row = c.args.row.now in
    let e = c.in_err-least.field-0.0 in
    let here : why_no_own_scale f (entry_of row c.loop-entry.entry-index) ≡ Some e = search rules in
    handed_on c.from_residual.result e (λ error. first_unscaled f row ≡ Some error) c.from_residual.ensures.1
    (first_entry (λ j. why_no_own_scale f) row c.loop-entry.entry-index e (λ j. refl) c.loop-entry.invariant.none here)

pub returns-clause-accepted : goal.returns-clause-accepted
returns-clause-accepted c =
    let row = c.args.row.now in
    let all : length row ≤ c.loop-entry.entry-index = search rules in
    no_fault (λ i. why_no_own_scale (filling c.args.setting.now c.args.papers.now) (entry_of row i)) (length row) (λ i less. c.loop-entry.invariant.none i (omega (arith, less, all)))
