-- How large pages become on their sheets.
use Rattle.std.specs.Prelude.{ℤ, List, [], ◌∷◌, flat_map, Option, Some, None}
use Rattle.std.specs.List.{fold}
use Rattle.std.specs.Int.{int_max, int_min}
use Rattle.rules.specs.Made.{MadeSheet, MadeSlot, Blank, Placed}
use Rattle.impose_messages.specs.declared.scales.Scales.{Scales}

-- the scale of the page in a slot
abbrev pub scale_in : MadeSlot → List ℤ
scale_in Blank = []
scale_in (Placed p item paper) = item.scale ∷ []

-- the scales of the pages in these slots
abbrev pub scales_in : List MadeSlot → List ℤ
scales_in slots = flat_map scale_in slots

-- the least and the greatest of these scales; none if there is no scale
abbrev pub extremes : List ℤ → Option Scales
extremes [] = None
extremes (scale ∷ others) = Some (record { least = fold int_min scale others; greatest = fold int_max scale others })

-- the least and the greatest scale of all pages on these sheets
abbrev pub scales_of : List MadeSheet → Option Scales
scales_of all = extremes (flat_map (λ sheet. scales_in sheet.slots) all)
