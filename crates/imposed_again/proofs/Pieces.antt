-- Texts on a sheet.
use Rattle.std.specs.Prelude.{ℤ, pos, ◌-ℤ◌, ◌-◌, slice_index_or, Option, Some, None, codes, decimal, flat_map, not, if◌then◌else◌}
use Rattle.std.specs.List.{starts_with, list_any}
use Rattle.std.specs.Str.{bytes_eq}
use Rattle.std.proofs.Common.{nat_eq, ◌==◌, ◌||◌, ◌&&◌, Bool, true, false, append_assoc, ◌≡◌, ℕ, ◌+◌, ◌<◌, ◌≤◌, List, [], ◌∷◌, ◌++◌, length, refl, ap, arith, sym, ◌∙◌, subst}
use Rattle.std.proofs.lemmas.List.Sums.{take_while-cons}
use Rattle.rules.specs.Bytes.{line}
use Rattle.rules.specs.Filters.{prepared}
use Rattle.rules.specs.Units.{TextUnit, AreUnits, key, has_key, is_comment, is_blank, begins_block}
use Rattle.rules.specs.Parts.{NestedUnit, depth_after, begins_page, begins_trailer, is_outermost_line}
use Rattle.rules.specs.Papers.{Paper}
use Rattle.rules.specs.Specification.{Item}
use Rattle.rules.specs.Sheets.{Slot}
use Rattle.rules.specs.Placement.{Matrix, matrix_of, matrix_text, spaced}
use Rattle.rules.specs.Numbers.{points_text, scale_text}
use Rattle.rules.specs.Output.{Border, Frame, point_text, path_text, edge_text, border_text, opening_text, closing_text, body_text, slot_text, sheet_text}
use Rattle.std.proofs.lemmas.Bool.{eqb-true}
use Rattle.dsc.proofs.Cases.{and_false, by_test}
use Rattle.imposed_again.specs.Seams.{passes, no_ends, line_unit, lf, ends}
use Rattle.imposed_again.specs.MadeAgain.{IsTame}
use Rattle.imposed_again.proofs.Texts.{Goes, goes_append, goes_line, units_join}
use Rattle.imposed_again.proofs.Splits.{at_depth, passes_cons, passes_append, Through, through_append}
use Rattle.imposed_again.proofs.Plainly.{no_ends_append, no_ends_points, no_ends_scale, Whole, text as plain, ◌then◌, number, length_of}

-- begins a page or the trailer
abbrev pub begins_part : NestedUnit → Bool
begins_part u = begins_page u || begins_trailer u

-- a text that has units of its own, whatever follows. None of them begins a part, at any depth; under the condition
-- the depth is 0 again after them
pub record Piece (c : Type 0) (text : List ℕ) : Type 0 where
  pub units : List TextUnit
  pub goes : Goes text units
  pub through : Through begins_part units
  pub shut : c → passes begins_part 0 units ≡ Some 0

pub nothing : (c : Type 0) → Piece c []
nothing c = record { units = []; goes = λ r vs m. m; through = λ d. (d, refl); shut = λ _. refl }

pub append : (c : Type 0) (a b : List ℕ) → Piece c a → Piece c b → Piece c (a ++ b)
append c a b p q =
    record {
      units = p.units ++ q.units;
      goes = goes_append a b p.units q.units p.goes q.goes;
      through = through_append begins_part p.units q.units p.through q.through;
      shut = λ h. passes_append begins_part 0 p.units q.units 0 (p.shut h) ∙ q.shut h;
    }

pub tame_depth : (d : ℕ) (c : List ℕ) → IsTame c → depth_after d (line_unit c) ≡ d
tame_depth d c h = ap (λ t. if t then d + 1 else (if has_key (codes "%%EndDocument" ∷ []) c then d - 1 else d)) h.no_document ∙ ap (λ t. if t then d - 1 else d) h.no_end

tame_part : (d : ℕ) (c : List ℕ) → IsTame c → begins_part (at_depth d (line_unit c)) ≡ false
tame_part d c h =
    ap (λ t. (is_outermost_line (at_depth d (line_unit c)) && t) || begins_trailer (at_depth d (line_unit c))) h.no_page
    ∙ ap (λ t. t || begins_trailer (at_depth d (line_unit c))) (and_false (is_outermost_line (at_depth d (line_unit c))))
    ∙ ap (λ t. is_outermost_line (at_depth d (line_unit c)) && t) h.no_trailer ∙ and_false (is_outermost_line (at_depth d (line_unit c)))

tame_passes : (d : ℕ) (c : List ℕ) → IsTame c → passes begins_part d (line_unit c ∷ []) ≡ Some d
tame_passes d c h = ap (λ t. if t then None else passes begins_part (depth_after d (line_unit c)) []) (tame_part d c h) ∙ ap Some (tame_depth d c h)

pub tame_line : (k : Type 0) (c : List ℕ) → IsTame c → Piece k (line c)
tame_line k c h =
    record {
      units = line_unit c ∷ [];
      goes = goes_line c (h.whole, h.no_data);
      through = λ d. (d, tame_passes d c h);
      shut = λ _. tame_passes 0 c h;
    }

-- The lines around a placed page.

point : (x y : ℤ) → Whole (point_text x y)
point x y = length_of x then plain (codes " ") refl then length_of y

path : (low right top : ℤ) → Whole (path_text low right top)
path low right top =
    plain (codes "newpath ") refl then point low low then plain (codes " moveto ") refl then point right low then plain (codes " lineto ") refl then point right top
    then plain (codes " lineto ") refl then point low top then plain (codes " lineto closepath") refl

edge_tame : (p : Paper) → IsTame (edge_text p ++ codes " clip newpath")
edge_tame p = record { whole = (path (pos 0) p.width p.height then plain (codes " clip newpath") refl).is; no_data = refl; no_document = refl; no_end = refl; no_page = refl; no_trailer = refl }

border : (k : Type 0) (p : Paper) (b : Option Border) → Piece k (border_text p b)
border k p None = nothing k
border k p (Some b) =
    let right : ℤ = p.width -ℤ b.inset in
    let top : ℤ = p.height -ℤ b.inset in
    tame_line k (codes "gsave " ++ points_text b.width ++ codes " setlinewidth " ++ path_text b.inset right top ++ codes " stroke grestore")
    (record {
      whole = (plain (codes "gsave ") refl then length_of b.width then plain (codes " setlinewidth ") refl then path b.inset right top then plain (codes " stroke grestore") refl).is;
      no_data = refl;
      no_document = refl;
      no_end = refl;
      no_page = refl;
      no_trailer = refl;
    })

no_ends_matrix : (m : Matrix) → no_ends (matrix_text m) ≡ true
no_ends_matrix m =
    let last : Whole (spaced (points_text m.ty ∷ [])) = record { is = no_ends_points m.ty } in
    let e : Whole (spaced (points_text m.tx ∷ points_text m.ty ∷ [])) = record { is = no_ends_append (points_text m.tx) (32 ∷ points_text m.ty) (no_ends_points m.tx) last.is } in
    let d : no_ends (spaced (scale_text m.d ∷ points_text m.tx ∷ points_text m.ty ∷ [])) ≡ true = no_ends_append (scale_text m.d) (32 ∷ spaced (points_text m.tx ∷ points_text m.ty ∷ [])) (no_ends_scale m.d) e.is in
    let c : no_ends (spaced (scale_text m.c ∷ scale_text m.d ∷ points_text m.tx ∷ points_text m.ty ∷ [])) ≡ true = no_ends_append (scale_text m.c) (32 ∷ spaced (scale_text m.d ∷ points_text m.tx ∷ points_text m.ty ∷ [])) (no_ends_scale m.c) d in
    let b : no_ends (spaced (scale_text m.b ∷ scale_text m.c ∷ scale_text m.d ∷ points_text m.tx ∷ points_text m.ty ∷ [])) ≡ true =
    no_ends_append (scale_text m.b) (32 ∷ spaced (scale_text m.c ∷ scale_text m.d ∷ points_text m.tx ∷ points_text m.ty ∷ [])) (no_ends_scale m.b) c in
    let a : no_ends (spaced (scale_text m.a ∷ scale_text m.b ∷ scale_text m.c ∷ scale_text m.d ∷ points_text m.tx ∷ points_text m.ty ∷ [])) ≡ true =
    no_ends_append (scale_text m.a) (32 ∷ spaced (scale_text m.b ∷ scale_text m.c ∷ scale_text m.d ∷ points_text m.tx ∷ points_text m.ty ∷ [])) (no_ends_scale m.a) b in
    no_ends_append (codes "[" ++ spaced (scale_text m.a ∷ scale_text m.b ∷ scale_text m.c ∷ scale_text m.d ∷ points_text m.tx ∷ points_text m.ty ∷ [])) (codes "]") a refl

-- what begins with a bracket is no comment
bracket_key : (rest : List ℕ) → key (91 ∷ rest) ≡ 91 ∷ key rest
bracket_key rest = take_while-cons (λ b. not (is_blank b || (b == 58))) 91 rest

matrix_tame : (m : Matrix) → IsTame (matrix_text m ++ codes " concat")
matrix_tame m =
    let rest : List ℕ = (spaced (scale_text m.a ∷ scale_text m.b ∷ scale_text m.c ∷ scale_text m.d ∷ points_text m.tx ∷ points_text m.ty ∷ []) ++ codes "]") ++ codes " concat" in
    let content : List ℕ = 91 ∷ rest in
    record {
      whole = no_ends_append (matrix_text m) (codes " concat") (no_ends_matrix m) refl;
      no_data =
          ap (λ k. (list_any (bytes_eq k) (codes "%%BeginData" ∷ []) && starts_with nat_eq content (codes "%%BeginData" ++ 58 ∷ []))
          || (list_any (bytes_eq k) (codes "%%BeginBinary" ∷ []) && starts_with nat_eq content (codes "%%BeginBinary" ++ 58 ∷ []))) (bracket_key rest);
      no_document = ap (λ k. list_any (bytes_eq k) (codes "%%BeginDocument" ∷ [])) (bracket_key rest);
      no_end = ap (λ k. list_any (bytes_eq k) (codes "%%EndDocument" ∷ [])) (bracket_key rest);
      no_page = ap (λ k. list_any (bytes_eq k) (codes "%%Page" ∷ []) && starts_with nat_eq content (codes "%%Page" ++ 58 ∷ [])) (bracket_key rest);
      no_trailer = ap (λ k. list_any (bytes_eq k) (codes "%%Trailer" ∷ codes "%%EOF" ∷ [])) (bracket_key rest);
    }

pub known : (k : Type 0) (c : List ℕ) → no_ends c ≡ true → begins_block c ≡ false → has_key (codes "%%BeginDocument" ∷ []) c ≡ false → has_key (codes "%%EndDocument" ∷ []) c ≡ false
    → is_comment (codes "%%Page") c ≡ false → has_key (codes "%%Trailer" ∷ codes "%%EOF" ∷ []) c ≡ false → Piece k (line c)
known k c a b d e f g = tame_line k c (record { whole = a; no_data = b; no_document = d; no_end = e; no_page = f; no_trailer = g })

pub opening : (k : Type 0) (frame : Frame) (item : Item) → Piece k (opening_text frame item)
opening k frame item =
    append k _ (border_text frame.paper frame.border)
    (append k _ (line (edge_text frame.paper ++ codes " clip newpath"))
    (append k _ (line (matrix_text (matrix_of frame.paper item) ++ codes " concat"))
    (append k (line (codes "userdict /ImposeSave save put")) (line (codes "userdict /showpage {} put"))
    (known k (codes "userdict /ImposeSave save put") refl refl refl refl refl refl) (known k (codes "userdict /showpage {} put") refl refl refl refl refl refl))
    (tame_line k _ (matrix_tame (matrix_of frame.paper item))))
    (tame_line k _ (edge_tame frame.paper)))
    (border k frame.paper frame.border)

-- At greater depth even fewer lines begin a part.

no_part : (k : ℕ) (u : TextUnit) → (k == 0) ≡ false → begins_part (at_depth k u) ≡ false
no_part k u h =
    ap (λ t. ((t && not u.is_block) && is_comment (codes "%%Page") u.content) || ((t && not u.is_block) && has_key (codes "%%Trailer" ∷ codes "%%EOF" ∷ []) u.content)) h

depth_least : (d k : ℕ) (u : TextUnit) → d ≤ k → depth_after d u ≤ depth_after k u
depth_least d k u l = turn u.is_block (has_key (codes "%%BeginDocument" ∷ []) u.content) (has_key (codes "%%EndDocument" ∷ []) u.content)
  where
    turn : (a b c : Bool) → (if a then d else (if b then d + 1 else (if c then d - 1 else d))) ≤ (if a then k else (if b then k + 1 else (if c then k - 1 else k)))
    turn true b c = l
    turn false true c = omega (arith, l)
    turn false false true = omega (arith, l)
    turn false false false = l

part_deeper : (d k : ℕ) (u : TextUnit) → d ≤ k → begins_part (at_depth d u) ≡ false → begins_part (at_depth k u) ≡ false
part_deeper d k u l h = by_test (k == 0)
    (λ is. let a = eqb-true k 0 is in let b : d ≡ k = omega (arith, l, a) in subst (λ z. begins_part (at_depth z u) ≡ false) b h)
    (λ isnt. no_part k u isnt)

deeper : (d k : ℕ) (us : List TextUnit) (e : ℕ) → passes begins_part d us ≡ Some e → d ≤ k → (f : ℕ) × (passes begins_part k us ≡ Some f)
deeper d k [] e h l = (k, refl)
deeper d k (u ∷ us) e h l =
    let w = passes_cons begins_part d u us e h in
    let i = deeper (depth_after d u) (depth_after k u) us e w.1 (depth_least d k u l) in
    (i.0, ap (λ b. if b then None else passes begins_part (depth_after k u) us) (part_deeper d k u l w.0) ∙ i.1)

-- A body: it ends with a line end unless it is empty.

pub record Made (t : NestedUnit → Bool) (depth : ℕ) (text : List ℕ) : Type 0 where
  pub units : List TextUnit
  pub are : AreUnits text units
  pub ended : 0 < length text → ends text ≡ true
  pub passing : passes t 0 units ≡ Some depth

-- the depth after a body is 0 under the condition
pub record Body (c : Type 0) (text : List ℕ) : Type 0 where
  pub depth : ℕ
  pub made : Made begins_part depth text
  pub shut : c → depth ≡ 0

pub no_body : (c : Type 0) → Body c []
no_body c = record { depth = 0; made = record { units = []; are = refl; ended = λ l. absurd (omega (arith, l)); passing = refl }; shut = λ _. refl }

closing : (c : Type 0) → Piece c closing_text
closing c = known c (codes "ImposeSave restore") refl refl refl refl refl refl

pub closed : (c : Type 0) (text : List ℕ) → Body c text → Piece c (text ++ closing_text)
closed c text b =
    let m : Made begins_part b.depth text = b.made in
    let z : Piece c closing_text = closing c in
    record {
      units = m.units ++ z.units;
      goes = λ r vs n.
          subst (λ x. AreUnits x ((m.units ++ z.units) ++ vs)) (sym (append_assoc text closing_text r))
          (subst (AreUnits (text ++ (closing_text ++ r))) (sym (append_assoc m.units z.units vs))
          (units_join text (closing_text ++ r) m.units (z.units ++ vs) m.are m.ended refl (z.goes r vs n)));
      through = through_append begins_part m.units z.units (λ d. deeper 0 d m.units b.depth m.passing (omega arith)) z.through;
      shut = λ h. passes_append begins_part 0 m.units z.units 0 (m.passing ∙ ap Some (b.shut h)) ∙ z.shut h;
    }

-- A sheet: its page line, and a piece.

pub record Sheet (c : Type 0) (text : List ℕ) : Type 0 where
  pub page : TextUnit
  pub rest : List TextUnit
  pub goes : Goes text (page ∷ rest)
  pub begins : begins_page (at_depth 0 page) ≡ true
  pub outside : (d : ℕ) → depth_after d page ≡ d
  pub through : Through begins_part rest
  pub shut : c → passes begins_part 0 rest ≡ Some 0
  pub starts : (r : List ℕ) → lf (text ++ r) ≡ false

abbrev pub AllBodies : Type 0 → List (List ℕ) → Type 0
AllBodies c pages = (p : ℕ) → Body c (body_text (prepared (slice_index_or pages p [])))

slot : (c : Type 0) (frame : Frame) (pages : List (List ℕ)) (page : Option ℕ) (item : Item) → AllBodies c pages → Piece c (slot_text frame pages page item)
slot c frame pages None item h = nothing c
slot c frame pages (Some p) item h =
    let body : List ℕ = body_text (prepared (slice_index_or pages p [])) in
    subst (Piece c) (sym (append_assoc (opening_text frame item) body closing_text)) (append c (opening_text frame item) (body ++ closing_text) (opening c frame item) (closed c body (h p)))

slots_piece : (c : Type 0) (frame : Frame) (pages : List (List ℕ)) (slots : List Slot) → AllBodies c pages → Piece c (flat_map (λ s. slot_text frame pages s.page s.item) slots)
slots_piece c frame pages [] h = nothing c
slots_piece c frame pages (s ∷ slots) h = append c (slot_text frame pages s.page s.item) (flat_map (λ s. slot_text frame pages s.page s.item) slots) (slot c frame pages s.page s.item h) (slots_piece c frame pages slots h)

abbrev pub page_content : ℕ → List ℕ
page_content n = codes "%%Page: " ++ decimal n ++ codes " " ++ decimal n

pub page_whole : (n : ℕ) → no_ends (page_content n) ≡ true
page_whole n = (plain (codes "%%Page: ") refl then number n then plain (codes " ") refl then number n).is

pub sheet : (c : Type 0) (frame : Frame) (pages : List (List ℕ)) (s : ℕ) (slots : List Slot) → AllBodies c pages → Sheet c (sheet_text frame pages s slots)
sheet k frame pages s slots h =
    let c : List ℕ = page_content (s + 1) in
    let inner : List ℕ = flat_map (λ s. slot_text frame pages s.page s.item) slots in
    let last : List ℕ = line (codes "showpage") in
    let p : Piece k (inner ++ last) = append k inner last (slots_piece k frame pages slots h) (known k (codes "showpage") refl refl refl refl refl refl) in
    record {
      page = line_unit c;
      rest = p.units;
      goes = subst (λ t. Goes t (line_unit c ∷ p.units)) (sym (append_assoc (line c) inner last)) (goes_append (line c) (inner ++ last) (line_unit c ∷ []) p.units (goes_line c (page_whole (s + 1), refl)) p.goes);
      begins = refl;
      outside = λ d. refl;
      through = p.through;
      shut = p.shut;
      starts = λ r. refl;
    }
