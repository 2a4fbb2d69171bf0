use Rattle.std.proofs.Common.{◌∙◌, ap, ap₂, string_bytes}
use Rattle.std.specs.Prelude.{◌+◌, ℤ, pos}
use Rattle.std.proofs.lemmas.Result.{IfOk-weaker}
use Rattle.layouts.specs.Placed.{Room}
use Rattle.impose_messages.specs.Said.{left_of, lengths_text, sides_text, paper_size_text}
use Rattle.impose_messages.proofs.NoRoom.{room_told}
use Rattle.impose_messages.proofs.rooms.no_room_text.Goals as goal

pub returns : goal.returns
returns c =
    let room = c.args.room.now in
    IfOk-weaker c.format.result _ _
    (λ text e. room_told room (string_bytes c.in_ok-margins.margins) (string_bytes c.in_ok-left.left) (string_bytes c.in_ok-size.size) (string_bytes c.in_ok-gaps.gaps) (string_bytes text)
    (c.in_ok-margins.ensures ∙ ap (λ (r : Room). lengths_text (r.left + r.right) (r.bottom + r.top)) c.room.view_is)
    (c.in_ok-left.ensures ∙ ap₂ sides_text (c.left_of-width.ensures ∙ ap (λ (s : ℤ). pos (left_of s (c.room.inside.left + c.room.inside.right))) c.width.ensures.value)
    (c.left_of-height.ensures ∙ ap (λ (s : ℤ). pos (left_of s (c.room.inside.bottom + c.room.inside.top))) c.height.ensures.value)
    ∙ ap (λ (r : Room). sides_text (pos (left_of r.paper.width (r.left + r.right))) (pos (left_of r.paper.height (r.bottom + r.top)))) c.room.view_is)
    (c.in_ok-size.ensures ∙ ap (λ (r : Room). paper_size_text r.paper) c.room.view_is) c.in_ok-gaps.ensures e)
    c.format.ensures.ok
