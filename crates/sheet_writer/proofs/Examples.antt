-- A sink in memory, worked out.
use Rattle.std.proofs.Common.{◌≡◌, [], ◌∷◌, inl, inr, map, refl}
use Rattle.sheet_writer.specs.Memory.{MemoryState, acceptable, after_taking, IsSpent}

-- it has room for five bytes and has two of them; a call takes at most four, and there are two more calls
abbrev sink : MemoryState
sink = record { bytes = 97 ∷ 98 ∷ []; room = 5; per_call = 4; calls = 2; failures = 0 }

-- of one byte, of three and of four it takes as many as there is room for
with_little_room : map (acceptable sink) (1 ∷ 3 ∷ 4 ∷ []) ≡ 1 ∷ 3 ∷ 3 ∷ []
with_little_room = refl

-- with room for a hundred it takes four in a call
four_a_call : map (acceptable (record sink { room = 100 })) (3 ∷ 4 ∷ 5 ∷ []) ≡ 3 ∷ 4 ∷ 4 ∷ []
four_a_call = refl

-- one call less is left after a call
a_call_less : after_taking sink (99 ∷ []) ≡ record sink { bytes = 97 ∷ 98 ∷ 99 ∷ []; calls = 1 }
a_call_less = refl

-- the last call returns Ok
last_call : IsSpent (record sink { calls = 1 }) 1 → ⊥
last_call (inl none) = cc none
last_call (inr none) = cc none
