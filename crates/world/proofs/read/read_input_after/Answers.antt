use Rattle.std.proofs.Common.{◌≡◌, ◌≤◌, ◌∙◌, ap, refl, sym, subst, take, drop, length, arith, rules}
use Rattle.world.specs.Input.{IsFirst, most_bytes}
use Rattle.world.specs.declared.read.TheConstants.{MOST_BYTES}
use Rattle.world.proofs.Reading.{filled_more, none_more, all_first, most_first, room_kept, length_read}
use Rattle.world.proofs.read.read_input_after.Goals as goal
use Rattle.world.proofs.read.read_input_after.Goals.{else-loop-filled-test, then-loop-filled-test+in_ok-count+then-count-eq0}

pub loop-filled-preserved : goal.loop-filled-preserved
loop-filled-preserved g c =
    let before = c.loop-filled.invariant in
    let read = c.in_ok-count.ensures in
    let within : c.loop-filled.filled ≤ length c.loop-filled.bytes.items = omega (arith, before.within, c.loop-filled.bytes.ok.0) in record {
      total = refl;
      begun = omega (arith, before.begun);
      within = read.within;
      most = c.fill_more.ensures.most;
      steady = read.steady ∙ before.steady;
      front = room_kept c.args.room c.loop-filled.filled c.loop-filled.bytes.items c.fill_more.new.bytes.items before.begun c.fill_more.ensures.front before.front;
      moved = filled_more c.args.room _ _ _ c.loop-filled.bytes.items c.fill_more.new.bytes.items c.loop-filled.filled c.in_ok-count.count before.begun within c.fill_more.ensures.front before.moved read.moved.0;
    }

-- by itself, so that another number is refused at once
most_is : MOST_BYTES ≡ most_bytes
most_is = refl

pub returns-clause-read : goal.returns-clause-read
returns-clause-read g c =
    let before = c.loop-filled.invariant in
    let room = c.args.room in
    let remaining = (g.S.Source.seen c.args.source.now).bytes in
    let within : c.loop-filled.filled ≤ length c.loop-filled.bytes.items = omega (arith, before.within, c.loop-filled.bytes.ok.0) in
    let long = length_read room c.loop-filled.filled c.loop-filled.bytes.items within in
    subst (λ n. IsFirst n remaining (drop room c.give_back_room.new.bytes.items)) most_is (subst (λ l. IsFirst MOST_BYTES remaining (drop room l)) (sym (c.give_back_room.ensures.same ∙ c.truncate.ensures.items)) (elim c.loop-filled-test.branch [
      | else-loop-filled-test w ↦
          let same = ap (λ b. drop room (take c.loop-filled.filled b.items)) w.bytes-is in
          let len : length (drop room (take c.loop-filled.filled c.loop-filled.bytes.items)) ≡ MOST_BYTES
          = omega (arith, long, w.loop-filled-test.false, before.within, before.most, before.total) in
          subst (IsFirst MOST_BYTES remaining) (sym same) (most_first MOST_BYTES remaining _ _ before.moved len)
      | then-loop-filled-test+in_ok-count+then-count-eq0 w ↦
          let same = ap (λ b. drop room (take c.loop-filled.filled b.items)) w.bytes-is in
          let read = w.in_ok-count.ensures in
          subst (IsFirst MOST_BYTES remaining) (sym (same ∙ ap (drop room) w.fill_more.ensures.front))
          (all_first MOST_BYTES remaining _ _ (none_more _ _ _ _ _ w.in_ok-count.count w.if-count-eq0.true before.moved read.moved.0) (read.moved.1 w.if-count-eq0.true) (omega (arith, long, before.within, before.most, before.total)))
    ]))

pub returns-clause-most : goal.returns-clause-most
returns-clause-most g c =
    let before = c.loop-filled.invariant in
    let read = drop c.args.room (take c.loop-filled.filled c.loop-filled.bytes.items) in
    let within : c.loop-filled.filled ≤ length c.loop-filled.bytes.items = omega (arith, before.within, c.loop-filled.bytes.ok.0) in
    let long = length_read c.args.room c.loop-filled.filled c.loop-filled.bytes.items within in
    (read, subst (λ n. length read ≤ n) most_is (omega (arith, long, before.within, before.most, before.total)), search rules)
