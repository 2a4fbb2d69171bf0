use Rattle.std.proofs.Common.{◌≡◌, ◌∙◌, ap, ap₂, rules, subst, sym, true, false, None, Some}
use Rattle.std.specs.Prelude.{option_map}
use Rattle.layouts.specs.Fitted.{binding_setting_of}
use Rattle.layouts.specs.Grids.{leaf_order}
use Rattle.layouts.specs.Refusals.{error_unless, is_length, why_not_bound}
use Rattle.layouts.specs.declared.error.ArrangementError.TheVariants as why
use Rattle.row_runs.specs.declared.sheet_request.Laying.TheVariants as laying
use Rattle.row_sheets.specs.declared.fill.Scheme.TheVariants as scheme
use Rattle.impose_words.specs.Spacings.{binding_in}
use Rattle.impose_messages.specs.declared.fault.ImposeFault.TheVariants as fault
use Rattle.impose_cli.proofs.laying.booklet_laying.Goals as goal

pub returns-then-not-is_length-clause-refused : goal.returns-then-not-is_length-clause-refused
returns-then-not-is_length-clause-refused c =
    let papers = c.args.papers.now in
    let s = c.args.spacing.now in
    let too_long : is_length s.creep ≡ false = search rules in
    ap (λ b. option_map fault.Layout (error_unless b why.LengthOutOfRange (why_not_bound papers.page papers.sheet (binding_in s c.args.long_edge)))) too_long

pub returns-in-Ok-clause-laying : goal.returns-in-Ok-clause-laying
returns-in-Ok-clause-laying c =
    ap₂ (λ t n. Some (laying.InCells t (scheme.Booklet c.args.long_edge n))) (c.in-Ok.ensures.made ∙ ap (binding_setting_of c.args.papers.now.sheet) c.binding.ensures) c.rounded_down-creep.ensures.value

pub returns-in-Ok-clause-may_be : goal.returns-in-Ok-clause-may_be
returns-in-Ok-clause-may_be c =
    let made = c.in-Ok.ensures.made in
    record {
      grid_is = ap (λ t. t.grid) made;
      order_is = ap (λ t. t.order) made ∙ sym (ap (λ t. leaf_order t.order.right_to_left) made);
      even = c.in-Ok.ensures.even;
    }

pub returns-in-Ok-clause-possible : goal.returns-in-Ok-clause-possible
returns-in-Ok-clause-possible c =
    let papers = c.args.papers.now in
    let s = c.args.spacing.now in
    let short : is_length s.creep ≡ true = search rules in
    ap (option_map fault.Layout)
    (ap (λ b. error_unless b why.LengthOutOfRange (why_not_bound papers.page papers.sheet (binding_in s c.args.long_edge))) short
    ∙ subst (λ b. why_not_bound papers.page papers.sheet b ≡ None) c.binding.ensures c.in-Ok.ensures.possible)

pub returns-in-Err-clause-refused : goal.returns-in-Err-clause-refused
returns-in-Err-clause-refused c =
    let papers = c.args.papers.now in
    let s = c.args.spacing.now in
    let short : is_length s.creep ≡ true = search rules in
    ap (option_map fault.Layout)
    (ap (λ b. error_unless b why.LengthOutOfRange (why_not_bound papers.page papers.sheet (binding_in s c.args.long_edge))) short
    ∙ subst (λ b. why_not_bound papers.page papers.sheet b ≡ Some c.in-Err.error) c.binding.ensures c.in-Err.ensures.refused)
