-- What is on a made sheet, and which lines begin no part.
use Rattle.std.specs.Prelude.{flat_map, codes, Option, slice_index_or, map, if◌then◌else◌, None, Ok}
use Rattle.std.proofs.Common.{arith, ◌≡◌, ℕ, ◌+◌, ◌&&◌, List, [], ◌∷◌, ◌++◌, append_assoc, length-append, false, refl, sym, ap, subst, ◌∙◌}
use Rattle.std.proofs.lemmas.List.{append-nil}
use Rattle.dsc.proofs.Cases.{and_false}
use Rattle.rules.specs.Bytes.{line}
use Rattle.rules.specs.Filters.{prepared}
use Rattle.rules.specs.Output.{Border, Frame, opening_text, closing_text, body_text}
use Rattle.rules.specs.Parts.{depth_after, begins_page, is_outermost_line}
use Rattle.rules.specs.Units.{TextUnit, first_unit}
use Rattle.imposed_again.specs.Seams.{joined, line_unit, passes}
use Rattle.imposed_again.proofs.Splits.{at_depth}
use Rattle.imposed_again.proofs.Texts.{Goes, goes_append, goes_line}
use Rattle.imposed_again.proofs.UnitsMeet.{first_line}
use Rattle.rules.specs.Made.{MadeSlot, Blank, Placed, MadeSheet}
use Rattle.rules.specs.Dress.{Dress, lines_text}
use Rattle.rules.specs.MadeOutput.{made_slot_text, made_sheet_text}
use Rattle.imposed_again.specs.MadeAgain.{AreTame, IsTame, IsTameDress}
use Rattle.imposed_again.proofs.Assembly.{EachSheet}
use Rattle.imposed_again.proofs.Pieces.{AllBodies, Piece, Sheet, append, closed, known, nothing, opening, page_content, page_whole, tame_depth, tame_line}
use Rattle.imposed_again.proofs.Recut.{Row}

-- ---- sheets
lines_piece : (c : Type 0) (lines : List (List ℕ)) → AreTame lines → Piece c (lines_text lines)
lines_piece c [] h = nothing c
lines_piece c (l ∷ lines) h = append c (line l) (lines_text lines) (tame_line c l h.0) (lines_piece c lines h.1)

made_slot_piece : (c : Type 0) (border : Option Border) (pages : List (List ℕ)) (slot : MadeSlot) → AllBodies c pages → Piece c (made_slot_text border pages slot)
made_slot_piece c border pages Blank h = nothing c
made_slot_piece c border pages (Placed p item paper) h =
    let body : List ℕ = body_text (prepared (slice_index_or pages p [])) in
    let frame : Frame = record { paper = paper; border = border } in
    subst (Piece c) (sym (append_assoc (opening_text frame item) body closing_text)) (append c (opening_text frame item) (body ++ closing_text) (opening c frame item) (closed c body (h p)))

made_slots_piece : (c : Type 0) (border : Option Border) (pages : List (List ℕ)) (slots : List MadeSlot) → AllBodies c pages → Piece c (flat_map (made_slot_text border pages) slots)
made_slots_piece c border pages [] h = nothing c
made_slots_piece c border pages (s ∷ slots) h = append c (made_slot_text border pages s) (flat_map (made_slot_text border pages) slots) (made_slot_piece c border pages s h) (made_slots_piece c border pages slots h)

regroup : (a b d e f : List ℕ) → a ++ (((b ++ d) ++ e) ++ f) ≡ (((a ++ b) ++ d) ++ e) ++ f
regroup a b d e f =
    sym (append_assoc a ((b ++ d) ++ e) f)
    ∙ ap (λ t. t ++ f) (sym (append_assoc a (b ++ d) e) ∙ ap (λ t. t ++ e) (sym (append_assoc a b d)))

-- a made sheet is a page of its own
made_sheet : (k : Type 0) (border : Option Border) (dress : Dress) (pages : List (List ℕ)) (s : ℕ) (it : MadeSheet)
    → AreTame (dress.start s it.paper) → AreTame (dress.finish s it.paper) → AllBodies k pages
    → Sheet k (made_sheet_text border dress pages s it)
made_sheet k border dress pages s it before behind h =
    let c : List ℕ = page_content (s + 1) in
    let first : List ℕ = lines_text (dress.start s it.paper) in
    let inner : List ℕ = flat_map (made_slot_text border pages) it.slots in
    let after : List ℕ = lines_text (dress.finish s it.paper) in
    let last : List ℕ = line (codes "showpage") in
    let p : Piece k (((first ++ inner) ++ after) ++ last) =
    append k ((first ++ inner) ++ after) last
    (append k (first ++ inner) after (append k first inner (lines_piece k (dress.start s it.paper) before) (made_slots_piece k border pages it.slots h)) (lines_piece k (dress.finish s it.paper) behind))
    (known k (codes "showpage") refl refl refl refl refl refl) in
    let joins : line c ++ (((first ++ inner) ++ after) ++ last) ≡ (((line c ++ first) ++ inner) ++ after) ++ last = regroup (line c) first inner after last in
    record {
      page = line_unit c;
      rest = p.units;
      goes = subst (λ t. Goes t (line_unit c ∷ p.units)) joins (goes_append (line c) (((first ++ inner) ++ after) ++ last) (line_unit c ∷ []) p.units (goes_line c (page_whole (s + 1), refl)) p.goes);
      begins = refl;
      outside = λ d. refl;
      through = p.through;
      shut = p.shut;
      starts = λ r. refl;
    }

pub each_made : (c : Type 0) (border : Option Border) (dress : Dress) (texts : List (List ℕ)) → IsTameDress dress → AllBodies c texts
    → (xs : List (ℕ × MadeSheet)) → EachSheet c (map (λ (s, sheet). made_sheet_text border dress texts s sheet) xs)
each_made c border dress texts tame h [] = tt
each_made c border dress texts tame h (x ∷ xs) =
    (made_sheet c border dress texts x.0 x.1 (tame.start x.0 x.1.paper) (tame.finish x.0 x.1.paper) h, each_made c border dress texts tame h xs)

-- ---- lines in a preamble
pub lines_joined : (lines : List (List ℕ)) → joined (map line_unit lines) ≡ lines_text lines
lines_joined [] = refl
lines_joined (l ∷ lines) = ap (λ t. line l ++ t) (lines_joined lines)

pub lines_row : (lines : List (List ℕ)) (us : List TextUnit) → AreTame lines → Row us → Row (map line_unit lines ++ us)
lines_row [] us h r = r
lines_row (l ∷ lines) us h r =
    let alone : first_unit (line l) ≡ Ok (line_unit l) = sym (ap first_unit (append-nil (line l))) ∙ first_line l [] (h.0.whole, h.0.no_data) in
    (omega (arith, length-append l (10 ∷ [])), alone, (λ _. first_line l (37 ∷ []) (h.0.whole, h.0.no_data)), lines_row lines us h.1 r)

no_page_line : (d : ℕ) (l : List ℕ) → IsTame l → begins_page (at_depth d (line_unit l)) ≡ false
no_page_line d l h = ap (λ t. is_outermost_line (at_depth d (line_unit l)) && t) h.no_page ∙ and_false (is_outermost_line (at_depth d (line_unit l)))

pub lines_pass : (d : ℕ) (lines : List (List ℕ)) (us : List TextUnit) → AreTame lines
    → passes begins_page d (map line_unit lines ++ us) ≡ passes begins_page d us
lines_pass d [] us h = refl
lines_pass d (l ∷ lines) us h =
    let more : List TextUnit = map line_unit lines ++ us in
    ap (λ b. if b then None else passes begins_page (depth_after d (line_unit l)) more) (no_page_line d l h.0)
    ∙ ap (λ e. passes begins_page e more) (tame_depth d l h.0)
    ∙ lines_pass d lines us h.1
