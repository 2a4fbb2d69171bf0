-- Texts of sheets that lie in the same memory.
use Rattle.std.specs.Prelude.{ℕ, ◌-◌, ◌≤◌, List, length, take, drop, map, flat_map, ⊤, [], ◌∷◌}
use Rattle.sheet_text.specs.Ropes.{woven, AreInPlace}
use Rattle.sheet_text.specs.declared.texts.TextPart.{TextPart}

-- sheets, each with its text
abbrev pub TextsView : Type 0
TextsView = List (ℕ × List ℕ)

-- the numbers of these sheets
abbrev pub sheets_of : TextsView → List ℕ
sheets_of texts = map (λ (t : ℕ × List ℕ). t.0) texts

-- one text after the other
abbrev pub joined_texts : TextsView → List ℕ
joined_texts texts = flat_map (λ (t : ℕ × List ℕ). t.1) texts

-- the text of a part: its own bytes, and its slices between them
abbrev pub text_in : List ℕ → TextPart → List ℕ
text_in own part = woven 0 (take (part.end - part.start) (drop part.start own)) part.slices.items

-- the sheets of all parts with their texts
abbrev pub texts_in : List ℕ → List TextPart → TextsView
texts_in own parts = map (λ (part : TextPart). (part.sheet, text_in own part)) parts

-- the part has its bytes, and its slices lie between them
abbrev pub IsIn : List ℕ → TextPart → Type 0
IsIn own part = (part.start ≤ part.end) × (part.end ≤ length own) × AreInPlace 0 (part.end - part.start) part.slices.items

-- so have all parts
abbrev pub AreIn : List ℕ → List TextPart → Type 0
AreIn own [] = ⊤
AreIn own (part ∷ parts) = IsIn own part × AreIn own parts
