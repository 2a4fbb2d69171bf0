use Rattle.std.proofs.Common.{rules, ◌≡◌, ◌++◌}
use Rattle.std.specs.Prelude.{OnOk}
use Rattle.rules.specs.Numbers.{points_text}
use Rattle.sheet_text.proofs.Ropes.{in_place_later, kept_or_more, closed}
use Rattle.sheet_text.proofs.rope.Rope.append_grains.Goals as goal

pub invariant_of-self : goal.invariant_of-self
invariant_of-self c =
    in_place_later 0 _ _ c.self.inside.slices.items (kept_or_more c.print_grains.result _ _ _ c.print_grains.ensures.appended c.print_grains.ensures.unchanged) c.self.invariant

pub returns : goal.returns
returns c =
    let appended : OnOk c.print_grains.result (c.print_grains.new.out.items ≡ c.self.inside.own.items ++ points_text c.args.grains) = search rules in
    closed c.print_grains.result _ _ _ _ _ c.self.view_is appended c.self.invariant
