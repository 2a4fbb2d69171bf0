use Rattle.std.proofs.Common.{sym, ◌∙◌}
use Rattle.std.specs.Prelude.{◌&&◌}
use Rattle.std.proofs.lemmas.Result.{IfOk-equal}
use Rattle.rules.specs.Specification.{is_zero_points, measure_text}
use Rattle.pagespec.specs.Items.{measure_of}
use Rattle.pagespec.proofs.Joining.{in_parentheses}
use Rattle.pagespec.proofs.write.append_offset.Goals as goal

pub returns : goal.returns
returns c =
    let x = measure_of c.args.x.now in
    let y = measure_of c.args.y.now in
    IfOk-equal _ _ _ _ c.append_bytes-3.ensures
    (in_parentheses (is_zero_points x && is_zero_points y) (measure_text x) (measure_text y) c.args.out.now.items _ _ _ _ (sym c.is_no_offset.ensures ∙ c.if-is_no_offset.false)
    c.in_ok-append_bytes.ensures c.in_ok-append_measure.ensures c.in_ok-append_bytes-2.ensures c.in_ok-append_measure-2.ensures)
