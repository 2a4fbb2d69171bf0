use Rattle.std.specs.Prelude.{option_map}
use Rattle.guard.specs.Guard.{guard_lines}
use Rattle.guard.proofs.Gluing.{glued}
use Rattle.guard.proofs.text.guarded.Goals as goal

pub returns : goal.returns
returns c =
    record {
      put_in =
          glued (guard_lines (option_map (λ p. p.now) c.args.sheet_paper)) c.args.text.now c.header_len.result c.split_at.result.0.now c.split_at.result.1.now c.in_ok-out.out.items
          c.extend_from_slice.new.self.items c.end_line.new.kept.items c.append_guard.new.out.items c.extend_from_slice-2.new.self.items
          c.header_len.ensures.value c.split_at.ensures.front c.split_at.ensures.back c.in_ok-out.ensures.items c.in_ok-extend_from_slice.ensures.items c.in_ok-end_line.ensures
          c.in_ok-append_guard.ensures c.in_ok-extend_from_slice-2.ensures.items;
    }
