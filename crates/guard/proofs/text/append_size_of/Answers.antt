use Rattle.std.proofs.Common.{◌++◌, ap, ◌∙◌}
use Rattle.rules.specs.Numbers.{points_text}
use Rattle.guard.proofs.Gluing.{size_glued}
use Rattle.guard.proofs.text.append_size_of.Goals as goal

pub returns : goal.returns
returns c =
    size_glued c.args.paper.now c.args.out.now.items c.extend_from_slice.new.self.items c.print_points.new.out.items c.extend_from_slice-2.new.self.items c.print_points-2.new.out.items
    c.extend_from_slice-3.new.self.items c.in_ok-extend_from_slice.ensures.items
    (c.in_ok-print_points.ensures.appended ∙ ap (λ g. c.extend_from_slice.new.self.items ++ points_text g) c.width.ensures.value)
    c.in_ok-extend_from_slice-2.ensures.items
    (c.in_ok-print_points-2.ensures.appended ∙ ap (λ g. c.extend_from_slice-2.new.self.items ++ points_text g) c.height.ensures.value)
    c.in_ok-extend_from_slice-3.ensures.items
