-- Exit statuses, and what is said, worked out.
use Rattle.std.proofs.Common.{◌≡◌, false, [], ◌∷◌, refl, map}
use Rattle.std.specs.Prelude.{ℤ, List, codes, neg_ℤ, pos, Some}
use Rattle.std.specs.Fmt.{digits}
use Rattle.layouts.specs.Placed.{bare}
use Rattle.layouts.specs.declared.error.ArrangementError.TheVariants as layout
use Rattle.impose_messages.specs.declared.fault.ImposeFault.TheVariants as fault
use Rattle.impose_messages.specs.Scales.{scales_of}
use Rattle.impose_messages.specs.Statuses.{fault_status}
use Rattle.impose_messages.specs.Said.{edges_text, shown_name, paper_size_text, unknown_text}
use Rattle.rules.specs.Made.{Blank, MadeSheet, MadeSlot, Placed}
use Rattle.rules.specs.Papers.{points}
use Rattle.rules.specs.Specification.{Upright, zero_points}

-- Exit statuses.

layouts : map (λ e. fault_status (fault.Layout e)) (layout.CellsOutOfRange ∷ layout.NoRoom (bare (points 1 1)) ∷ layout.FoldOnLongEdge ∷ layout.NoMemory ∷ []) ≡ 1 ∷ 1 ∷ 1 ∷ 3 ∷ []
layouts = refl

-- What is said of a finished run.

size_of_a_paper : paper_size_text (points 595 842) ≡ codes "595 x 842"
unfolding digits
size_of_a_paper = refl

before_the_corner : edges_text (record { left = neg_ℤ (pos 635_000_000_000); bottom = pos 0; right = pos 12_700_000_000_000; top = pos 25_400_000_000_000 }) ≡ codes "from -5 x 0 to 100 x 200"
unfolding digits
before_the_corner = refl

-- what a terminal might take for more than letters isn't shown
unknown_bytes : unknown_text (Some (shown_name (27 ∷ 91 ∷ 127 ∷ 200 ∷ []))) ≡ Some (codes "the document names an unknown paper, ?[??")
unknown_bytes = refl

-- Scales of pages.

abbrev on_a4 : List MadeSlot → MadeSheet
on_a4 slots = record { paper = points 595 842; slots = slots }

abbrev at_scale : ℤ → MadeSlot
at_scale scale = Placed 0 (record { page = 0; from_end = false; turn = Upright; scale = scale; x = zero_points; y = zero_points }) (points 595 842)

-- the greatest and the least are on different sheets, and neither first nor last
several_scales : scales_of
    (on_a4 (at_scale (pos 900_000_000) ∷ Blank ∷ at_scale (pos 1_200_000_000) ∷ []) ∷ on_a4 (at_scale (pos 500_000_000) ∷ at_scale (pos 1_000_000_000) ∷ []) ∷ [])
    ≡ Some (record { least = pos 500_000_000; greatest = pos 1_200_000_000 })
several_scales = refl
