use Rattle.std.proofs.Common.{arith, refl, subst, sym, ap, ◌∙◌, ◌+◌, length, filter}
use Rattle.std.proofs.lemmas.List.{length_push, take_all}
use Rattle.gather_table.specs.Shared.{MakesCalls}
use Rattle.gather_table.proofs.Calls.{markable_stays, begins_makes}
use Rattle.run_steps.specs.Delivery.{HandedOn, answer_list, completed, is_filling, place_calls}
use Rattle.run_steps.proofs.Marks.{places_on, closed_push, still_seat}
use Rattle.run_steps.proofs.HandingOn.{handed_on}
use Rattle.run_steps.proofs.delivery.Delivery.mark_places.Goals as goal

pub loop-place-init : goal.loop-place-init
loop-place-init g c =
    let none = c.requires.replies.0 in
    record {
      called = refl;
      answered = ap length none;
      closed = ap length c.requires.closings.0 ∙ sym (ap (λ rs. length (filter is_filling rs)) none);
      pass = c.requires.pass;
      few_closings = omega (arith, ap length c.requires.closings.0);
      few_back = omega (arith, ap length c.requires.handed_back.0);
      room_replies = c.requires.replies.1;
      room_closings = c.requires.closings.1;
      room_back = c.requires.handed_back.1;
      handed_on = (c.requires.handed_back.0, refl);
    }

pub mark_and_close-reply-requires-clause-seat : goal.mark_and_close-reply-requires-clause-seat
mark_and_close-reply-requires-clause-seat g c = still_seat _ _ _ _ c.requires.seat c.loop-place.invariant.called

pub mark_and_close-reply-requires-clause-place : goal.mark_and_close-reply-requires-clause-place
mark_and_close-reply-requires-clause-place g c =
    let ready = c.requires.places c.loop-place.place-index (0, 0) (omega arith) in
    (ready.0, markable_stays c.args.self.now.table.now.layout _ _ _ _ (begins_makes _ _ _ c.loop-place.invariant.called) ready.1)

pub loop-place-preserved : goal.loop-place-preserved
loop-place-preserved g c =
    let was = c.loop-place.invariant in
    let i = c.loop-place.place-index in
    let rs = c.loop-place.answers.replies.items in
    let cs = c.loop-place.answers.closings.items in
    let place = c.mark_and_close-reply in
    let replied = c.push_reserved.ensures.items in
    let closed = c.push_closing.ensures.items in
    let turn = c.hand_on_completed.ensures.handed_on in
    let counts = closed_push rs _ place.result.0 cs _ (answer_list place.result.1) replied closed was.closed
    place.ensures.answered in
    record {
      called = places_on _ _ _ c.args.places.now i (0, 0) rs _ place.result.0 cs _ (answer_list place.result.1)
          (omega arith) was.answered was.closed replied closed was.called place.ensures.called;
      answered = ap length replied ∙ length_push rs place.result.0 ∙ ap (λ n. n + 1) was.answered;
      closed = counts.0;
      pass = c.hand_on_completed.ensures.pass;
      few_closings = omega (arith, counts.1, was.few_closings);
      few_back = omega (arith, c.hand_on_completed.ensures.few, was.few_back);
      room_replies = omega (arith, c.push_reserved.ensures.capacity, was.room_replies);
      room_closings = omega (arith, c.push_closing.ensures.room, was.room_closings);
      room_back = omega (arith, c.hand_on_completed.ensures.room, was.room_back);
      handed_on = handed_on c.args.self.now.ready.now c.args.places.now i (0, 0) rs _ place.result.0 cs _ place.result.1
          c.completes_sheet-completed.result c.loop-place.answers.handed_back.items turn.0 _ _ _ _
          (omega arith) was.answered was.closed replied closed c.completes_sheet-completed.ensures turn.1
          was.handed_on turn.2;
    }

pub push_reserved-requires : goal.push_reserved-requires
push_reserved-requires g c = let was = c.loop-place.invariant in omega (arith, was.answered, was.room_replies, c.loop-place-test.true)

pub push_closing-requires : goal.push_closing-requires
push_closing-requires g c = let was = c.loop-place.invariant in omega (arith, was.few_closings, was.room_closings, c.loop-place-test.true)

pub hand_on_completed-requires-clause-pass : goal.hand_on_completed-requires-clause-pass
hand_on_completed-requires-clause-pass g c = c.loop-place.invariant.pass

pub hand_on_completed-requires-clause-room : goal.hand_on_completed-requires-clause-room
hand_on_completed-requires-clause-room g c = let was = c.loop-place.invariant in omega (arith, was.few_back, was.room_back, c.loop-place-test.true)

pub returns-clause-called : goal.returns-clause-called
returns-clause-called g c =
    let was = c.loop-place.invariant in
    subst (λ xs. MakesCalls c.args.seat.now (place_calls xs c.loop-place.answers.replies.items c.loop-place.answers.closings.items) c.loop-place.seat)
    (take_all c.loop-place.place-index c.args.places.now (omega (arith, c.loop-place-test.false))) was.called

pub returns-clause-replies : goal.returns-clause-replies
returns-clause-replies g c = omega (arith, c.loop-place.invariant.answered, c.loop-place-test.false, c.loop-place.auto.place-index-end)

pub returns-clause-closings : goal.returns-clause-closings
returns-clause-closings g c = c.loop-place.invariant.closed

pub returns-clause-pass : goal.returns-clause-pass
returns-clause-pass g c = c.loop-place.invariant.pass

pub returns-clause-handed_on : goal.returns-clause-handed_on
returns-clause-handed_on g c =
    subst (λ xs. HandedOn c.args.self.now.ready.now (completed (place_calls xs c.loop-place.answers.replies.items c.loop-place.answers.closings.items)) c.loop-place.answers.handed_back.items c.args.pass.now c.loop-place.pass)
    (take_all c.loop-place.place-index c.args.places.now (omega (arith, c.loop-place-test.false))) c.loop-place.invariant.handed_on
