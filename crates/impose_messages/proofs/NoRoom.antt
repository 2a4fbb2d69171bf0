-- The message of sheets without room for pages.
use Rattle.std.proofs.Common.{◌≡◌, ◌∙◌, ◌++◌, ℕ, List, refl}
use Rattle.std.specs.Prelude.{◌+◌, pos, codes}
use Rattle.layouts.specs.Placed.{Room}
use Rattle.impose_messages.specs.Said.{gaps_text, left_of, lengths_text, no_room_text, sides_text, paper_size_text}

-- by its parts
pub room_told : (room : Room) (margins left size gaps text : List ℕ) → margins ≡ lengths_text (room.left + room.right) (room.bottom + room.top)
    → left ≡ sides_text (pos (left_of room.paper.width (room.left + room.right))) (pos (left_of room.paper.height (room.bottom + room.top)))
    → size ≡ paper_size_text room.paper → gaps ≡ gaps_text room
    → text ≡ codes "margins of " ++ (margins ++ (codes " pt leave " ++ (left ++ (codes " of a sheet of " ++ (size ++ (codes " pt" ++ (gaps
    ++ codes ": take smaller ones, or a larger sheet")))))))
    → text ≡ no_room_text room
room_told room margins left size gaps text is_margins is_left is_size is_gaps e = e ∙ rw (is_margins, is_left, is_size, is_gaps) refl
