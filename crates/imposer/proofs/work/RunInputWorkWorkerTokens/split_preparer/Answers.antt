use Rattle.std.proofs.Common.{rules, ◌≤◌, ap, arith}
use Rattle.handover.specs.Passes.{puts_in}
use Rattle.imposer.proofs.Holdings.{given_away}
use Rattle.imposer.proofs.ByRight.{gets_room, room_kept_is, room_given_is}
use Rattle.imposer.proofs.work.RunInputWorkWorkerTokens.split_preparer.Goals as goal

pub returns-clause-gathered : goal.returns-clause-gathered
returns-clause-gathered g c = λ first count had.
    given_away _ first.tokens count 0 _ _ _ c.args.held.now _ _ c.split-seat.ensures.kept c.split_with_room-pass.ensures.kept had

pub returns-clause-enough : goal.returns-clause-enough
returns-clause-enough g c = λ yes.
    let layout = c.args.self.now.shared.now.objects.table.now.layout in
    let room = c.args.held.now.tokens.pass.room in
    let kept = ap (λ p. puts_in p.room) c.split_with_room-pass.ensures.kept in
    let left = room_kept_is c.room_for-room.result room in
    let gets = gets_room layout c.args.count c.args.number (puts_in room) c.room_for-room.result c.requires.number c.room_for-room.ensures (c.requires.enough yes) in
    let more = gets.1 in
    omega (arith, kept, left, more)

pub returns-clause-given : goal.returns-clause-given
returns-clause-given g c = record {
  new = search rules;
  room = λ yes.
      let layout = c.args.self.now.shared.now.objects.table.now.layout in
      let room = c.args.held.now.tokens.pass.room in
      let gets = (gets_room layout c.args.count c.args.number (puts_in room) c.room_for-room.result c.requires.number c.room_for-room.ensures (c.requires.enough yes)).0 in
      let given = ap (λ p. puts_in p.room) c.split_with_room-pass.ensures.given in
      let few : c.room_for-room.result ≤ puts_in room = omega (arith, c.room_for-room.ensures) in
      let is = room_given_is c.room_for-room.result room few in
      omega (arith, gets, given, is);
}
