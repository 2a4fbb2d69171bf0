-- The sheets of a specification, made without dress, are written as its sheets.
use Rattle.std.proofs.Common.{append-nil, suc, ◌≡◌, ℕ, ◌+◌, List, [], ◌∷◌, ◌++◌, Option, Some, None, length, map, refl, ap, ◌∙◌}
use Rattle.std.specs.Prelude.{flat_map, codes, decimal}
use Rattle.std.specs.List.{enumerate_from}
use Rattle.rules.specs.Bytes.{line}
use Rattle.rules.specs.Sheets.{Slot}
use Rattle.rules.specs.Signatures.{sheets_in}
use Rattle.rules.specs.Parts.{NestedUnit, pages, preamble, bytes_of}
use Rattle.rules.specs.Filters.{kept, drops_in_header, ended, preamble_text, trailer_text, with_count}
use Rattle.rules.specs.Output.{Frame, slot_text, sheet_text}
use Rattle.rules.specs.Made.{made_slot, made_of}
use Rattle.rules.specs.Dress.{undressed}
use Rattle.rules.specs.MadeOutput.{MadeIsOutput, made_slot_text, made_sheet_text, with_lines, dressed_preamble}

slot_same : (frame : Frame) (texts : List (List ℕ)) (page : Option ℕ) (slot : Slot)
    → made_slot_text frame.border texts (made_slot frame.paper page slot.item) ≡ slot_text frame texts page slot.item
slot_same frame texts None slot = refl
slot_same frame texts (Some p) slot = refl

slots_same : (frame : Frame) (texts : List (List ℕ)) (slots : List Slot)
    → flat_map (made_slot_text frame.border texts) (map (λ slot. made_slot frame.paper slot.page slot.item) slots)
    ≡ flat_map (λ slot. slot_text frame texts slot.page slot.item) slots
slots_same frame texts [] = refl
slots_same frame texts (slot ∷ slots) =
    ap (λ t. t ++ flat_map (made_slot_text frame.border texts) (map (λ next. made_slot frame.paper next.page next.item) slots))
    (slot_same frame texts slot.page slot)
    ∙ ap (λ t. slot_text frame texts slot.page slot.item ++ t) (slots_same frame texts slots)

abbrev head : (k : ℕ) → List ℕ
head k = line (codes "%%Page: " ++ decimal (k + 1) ++ codes " " ++ decimal (k + 1))

-- without lines nothing changes
pub sheet_same : (frame : Frame) (texts : List (List ℕ)) (k : ℕ) (slots : List Slot)
    → made_sheet_text frame.border undressed texts k (record { paper = frame.paper; slots = map (λ slot. made_slot frame.paper slot.page slot.item) slots })
    ≡ sheet_text frame texts k slots
sheet_same frame texts k slots =
    let inside : List ℕ = flat_map (made_slot_text frame.border texts) (map (λ slot. made_slot frame.paper slot.page slot.item) slots) in
    ap (λ t. t ++ inside ++ [] ++ line (codes "showpage")) (append-nil (head k))
    ∙ ap (λ t. t ++ line (codes "showpage")) (append-nil (head k ++ inside))
    ∙ ap (λ t. head k ++ t ++ line (codes "showpage")) (slots_same frame texts slots)

sheets_same : (frame : Frame) (texts : List (List ℕ)) (all : List (List Slot)) (k : ℕ)
    → flat_map (λ (s, sheet). made_sheet_text frame.border undressed texts s sheet) (enumerate_from k (made_of frame.paper all))
    ≡ flat_map (λ (s, slots). sheet_text frame texts s slots) (enumerate_from k all)
sheets_same frame texts [] k = refl
sheets_same frame texts (slots ∷ all) k =
    ap (λ t. t ++ flat_map (λ (s, sheet). made_sheet_text frame.border undressed texts s sheet) (enumerate_from (k + 1) (made_of frame.paper all)))
    (sheet_same frame texts k slots)
    ∙ ap (λ t. sheet_text frame texts k slots ++ t) (sheets_same frame texts all (k + 1))

made_len : (frame : Frame) (all : List (List Slot)) → length (made_of frame.paper all) ≡ length all
made_len frame [] = refl
made_len frame (slots ∷ all) = ap suc (made_len frame all)

counted : (n : ℕ) (us : List NestedUnit) → with_lines n [] us ≡ with_count n us
counted n [] = refl
counted n (u ∷ us) = ap (λ t. t ++ bytes_of us) (append-nil (u.unit.bytes ++ line (codes "%%Pages: " ++ decimal n)))

begun : (n : ℕ) (us : List NestedUnit) → dressed_preamble n [] us ≡ preamble_text n us
begun n us = ap ended (counted n (kept drops_in_header (preamble us)))

pub made_is_output : MadeIsOutput
made_is_output frame sides spec us =
    let all : List (List Slot) = sheets_in sides spec (length (pages us)) in
    let sheets : List ℕ = flat_map (λ (s, sheet). made_sheet_text frame.border undressed (pages us) s sheet) (enumerate_from 0 (made_of frame.paper all)) in
    ap (λ t. t ++ sheets ++ trailer_text us) (begun (length (made_of frame.paper all)) us ∙ ap (λ n. preamble_text n us) (made_len frame all))
    ∙ ap (λ t. preamble_text (length all) us ++ t ++ trailer_text us) (sheets_same frame (pages us) all 0)
