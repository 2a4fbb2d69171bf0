use Rattle.std.proofs.Common.{◌≡◌, ◌≤◌, ◌-◌, ◌+◌, arith, length}
use Rattle.dsc.proofs.Serving.{served, starts_within, bodies_within, stop_within}
use Rattle.dsc.proofs.document.Document.from_parts.Goals as goal

pub move_starts-requires : goal.move_starts-requires
move_starts-requires c =
    let s = c.requires.serve in
    let len = s.are.len in
    let longer = s.longer in
    record { room = λ k below. let w = starts_within s.of _ _ _ k s.are.parts below in omega (arith, w, len, longer, c.if-len-gt-MOST_BYTES.false) }

pub move_bodies-requires : goal.move_bodies-requires
move_bodies-requires c =
    let s = c.requires.serve in
    let len = s.are.len in
    let longer = s.longer in
    record { room = λ k below. let w = bodies_within s.of _ _ _ k s.are.parts below in omega (arith, w, len, longer, c.if-len-gt-MOST_BYTES.false) }

pub overflow_add-result : goal.overflow_add-result
overflow_add-result c =
    let s = c.requires.serve in
    let len = s.are.len in
    let longer = s.longer in
    let w = stop_within s.of _ _ _ s.are.parts in
    omega (arith, w, len, longer, c.if-len-gt-MOST_BYTES.false)

pub invariant_of-result : goal.invariant_of-result
invariant_of-result c =
    let s = c.requires.serve in
    let few : length c.args.text.now ≤ 1_073_741_824 = omega (arith, c.if-len-gt-MOST_BYTES.false) in
    let len = s.are.len in
    let longer = s.longer in
    let size : length c.args.text.now ≡ length s.of + (length c.args.text.now - c.args.parts.len) = omega (arith, len, longer) in
    rw c.move_starts.ensures (rw c.move_bodies.ensures (served s.of c.args.text.now _ _ _ _ s.are.parts size (s.accepted few) (s.same few)))
