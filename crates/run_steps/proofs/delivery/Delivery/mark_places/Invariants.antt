use Rattle.std.proofs.Common.{◌≡◌, ◌≤◌, length, take, vec_capacity}
use Rattle.std.specs.Prelude.{filter}
use Rattle.gather_table.specs.Shared.{MakesCalls}
use Rattle.handover.specs.Passes.{IsPassOf}
use Rattle.run_steps.specs.Delivery.{is_filling, place_calls, completed, HandedOn}
use Rattle.run_steps.proofs.delivery.Delivery.mark_places.Given as goal

abbrev pub invariant-loop-place : goal.invariant-loop-place
invariant-loop-place g l = record {
  called : MakesCalls l.initial.seat (place_calls (take l.place-index l.places) l.answers.replies.items l.answers.closings.items) l.seat;
  answered : length l.answers.replies.items ≡ l.place-index;
  closed : length l.answers.closings.items ≡ length (filter is_filling l.answers.replies.items);
  pass : IsPassOf l.self.ready.now l.pass;
  few_closings : length l.answers.closings.items ≤ l.place-index;
  few_back : length l.answers.handed_back.items ≤ l.place-index;
  room_replies : length l.places ≤ vec_capacity l.answers.replies;
  room_closings : length l.places ≤ vec_capacity l.answers.closings;
  room_back : length l.places ≤ vec_capacity l.answers.handed_back;
  handed_on : HandedOn l.self.ready.now
      (completed (place_calls (take l.place-index l.places) l.answers.replies.items l.answers.closings.items)) l.answers.handed_back.items
      l.initial.pass l.pass;
}
