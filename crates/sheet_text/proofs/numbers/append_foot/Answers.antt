use Rattle.std.proofs.Common.{rules, ap, ◌≡◌, ◌∙◌, ◌++◌}
use Rattle.std.specs.Prelude.{codes, pos}
use Rattle.rules.specs.Numbers.{points_text}
use Rattle.sheet_text.specs.PageNumbers.{middle}
use Rattle.sheet_text.proofs.Appended.{point_and}
use Rattle.sheet_text.proofs.numbers.append_foot.Goals as goal

pub returns : goal.returns
returns c =
    let x : c.append_grains.new.self ≡ c.args.text.now ++ points_text c.middle.result = search rules in
    let y : c.append_grains-2.new.self ≡ c.append.new.self ++ points_text c.rise.result = search rules in
    point_and c.middle.result c.rise.result _ _ c.args.text.now (codes " moveto (") _ _ _ _ (c.middle.ensures.value ∙ ap (λ side. pos (middle c.args.placed.now.item.now.scale side)) c.width.ensures.value) c.rise.ensures.value
    x c.in_ok-append.ensures.appended y c.in_ok-append-2.ensures.appended
