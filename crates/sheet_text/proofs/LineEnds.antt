-- Lines in one block: which lines a text has, and one line more.
use Rattle.std.proofs.Common.{ℕ, List, [], ◌∷◌, ◌++◌, ◌≡◌, Bool, true, false, ap, sym, refl, ◌∙◌, append_assoc, append-nil}
use Rattle.std.specs.Prelude.{⊤, ◌==◌, not, ◌&&◌, if◌then◌else◌}
use Rattle.std.proofs.lemmas.Grind.{flat_map-append}
use Rattle.rules.specs.Bytes.{line}
use Rattle.rules.specs.Dress.{lines_text}
use Rattle.sheet_text.specs.LinesIn.{is_line, put_before, lines_in}

abbrev HasNoEnd : List ℕ → Type 0
HasNoEnd [] = ⊤
HasNoEnd (b ∷ bs) = ((b == 10) ≡ false) × HasNoEnd bs

abbrev HaveNoEnd : List (List ℕ) → Type 0
HaveNoEnd [] = ⊤
HaveNoEnd (row ∷ rows) = HasNoEnd row × HaveNoEnd rows

both : (s t : Bool) → (s && t) ≡ true → (s ≡ true) × (t ≡ true)
both true t e = (refl, e)
both false t e = (e, cc)

isnt : (t : Bool) → not t ≡ true → t ≡ false
isnt true e = cc
isnt false e = refl

no_end : (bs : List ℕ) → is_line bs ≡ true → HasNoEnd bs
no_end [] told = tt
no_end (b ∷ bs) told =
    let parts = both (not (b == 10)) (is_line bs) told in
    (isnt (b == 10) parts.0, no_end bs parts.1)

put_no_end : (b : ℕ) (rows : List (List ℕ)) → (b == 10) ≡ false → HaveNoEnd rows → HaveNoEnd (put_before b rows)
put_no_end b [] e h = ((e, tt), tt)
put_no_end b (row ∷ rows) e h = ((e, h.0), h.1)

-- the lines of a text have no line end in them
lines_no_end : (bs : List ℕ) → HaveNoEnd (lines_in bs)
lines_no_end [] = tt
lines_no_end (b ∷ bs) = by_test (b == 10) refl (lines_no_end bs)
  where
    by_test : (t : Bool) → (b == 10) ≡ t → HaveNoEnd (lines_in bs) → HaveNoEnd (if t then [] ∷ lines_in bs else put_before b (lines_in bs))
    by_test true e rest = (tt, rest)
    by_test false e rest = put_no_end b (lines_in bs) e rest

line_then : (row rest : List ℕ) → HasNoEnd row → lines_in (line row ++ rest) ≡ row ∷ lines_in rest
line_then [] rest h = refl
line_then (b ∷ row) rest h =
    ap (λ t. if t then [] ∷ lines_in (line row ++ rest) else put_before b (lines_in (line row ++ rest))) h.0
    ∙ ap (put_before b) (line_then row rest h.1)

lines_then : (rows : List (List ℕ)) (rest : List ℕ) → HaveNoEnd rows → lines_in (lines_text rows ++ rest) ≡ rows ++ lines_in rest
lines_then [] rest h = refl
lines_then (row ∷ rows) rest h =
    ap lines_in (append_assoc (line row) (lines_text rows) rest)
    ∙ line_then row (lines_text rows ++ rest) h.0
    ∙ ap (λ xs. row ∷ xs) (lines_then rows rest h.1)

-- one line more
pub line_more : (old row : List ℕ) → lines_text (lines_in old) ≡ old → is_line row ≡ true → lines_in (old ++ line row) ≡ lines_in old ++ row ∷ []
line_more old row same none =
    ap (λ t. lines_in (t ++ line row)) (sym same)
    ∙ lines_then (lines_in old) (line row) (lines_no_end old)
    ∙ ap (λ xs. lines_in old ++ xs) (ap lines_in (sym (append-nil (line row))) ∙ line_then row [] (no_end row none))

pub text_more : (old row : List ℕ) → lines_text (lines_in old) ≡ old → is_line row ≡ true → lines_text (lines_in (old ++ line row)) ≡ old ++ line row
text_more old row same none =
    ap lines_text (line_more old row same none)
    ∙ flat_map-append line (lines_in old) (row ∷ [])
    ∙ ap (λ t. t ++ (line row ++ [])) same
    ∙ ap (λ t. old ++ t) (append-nil (line row))
