use Rattle.std.specs.Prelude.{option_map}
use Rattle.guard.proofs.Gluing.{guard_glued}
use Rattle.guard.proofs.text.append_guard.Goals as goal

pub returns : goal.returns
returns c =
    guard_glued (option_map (λ p. p.now) c.args.sheet_paper) c.args.out.now.items c.extend_from_slice.new.self.items c.append_page_size.new.out.items c.extend_from_slice-2.new.self.items
    c.in_ok-extend_from_slice.ensures.items c.in_ok-append_page_size.ensures c.in_ok-extend_from_slice-2.ensures.items
