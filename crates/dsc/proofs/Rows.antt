-- The cut and the relation of units, and units that are cut again.
use Rattle.std.specs.Prelude.{Result, Ok, Err, flat_map, drop}
use Rattle.std.proofs.Common.{append_assoc, Bool, true, false, cond, ◌≡◌, ℕ, zero, suc, ◌+◌, ◌<◌, ◌≤◌, List, [], ◌∷◌, ◌++◌, length, take, refl, ap, arith, length-append, sym, ◌∙◌, subst}
use Rattle.std.proofs.lemmas.List.{take-append-drop}
use Rattle.std.proofs.Math.Seq.{take-append_seam, drop-append_seam}
use Rattle.rules.specs.Units.{TextUnit, BlockFault, content_of, line_len, begins_block, fields, data_len, block, first_unit, cut, AreUnits, BeginsWith}
use Rattle.rules.proofs.CutUnits.{cut_is_units, unit_some}
use Rattle.dsc.proofs.Fronts.{bytes_or, first_unit-take}

abbrev pub joined : List TextUnit → List ℕ
joined ps = flat_map (λ p. p.bytes) ps

pub taken : (n : ℕ) (text : List ℕ) → take (length (take n text)) text ≡ take n text
taken zero [] = refl
taken zero (b ∷ bs) = refl
taken (suc n) [] = refl
taken (suc n) (b ∷ bs) = ap (λ t. b ∷ t) (taken n bs)

block-front : (text : List ℕ) (n : ℕ) (r : Result ℕ BlockFault) (p : TextUnit) → block text n r ≡ Ok p → p.bytes ≡ take (length p.bytes) text
block-front text n (Err e) p w = cc
block-front text n (Ok k) p w =
    let same : p.bytes ≡ take (n + k) text = sym (ap bytes_or w) in
    rw same (sym (taken (n + k) text))

chosen-front : (c : Bool) (text content : List ℕ) (n : ℕ) (r : Result ℕ BlockFault) (p : TextUnit)
    → cond c (block text n r) (Ok (record { content = content; bytes = take n text; is_block = false })) ≡ Ok p → p.bytes ≡ take (length p.bytes) text
chosen-front true text content n r p w = block-front text n r p w
chosen-front false text content n r p w =
    let same : p.bytes ≡ take n text = sym (ap bytes_or w) in rw same (sym (taken n text))

-- a unit's bytes are the text's first
pub unit-front : (text : List ℕ) (p : TextUnit) → first_unit text ≡ Ok p → p.bytes ≡ take (length p.bytes) text
unit-front text p w = chosen-front (begins_block (content_of text)) text (content_of text) (line_len text) (data_len (content_of text) (drop (line_len text) text) (fields (content_of text))) p w

-- units are the text, in order
pub units-whole : (ps : List TextUnit) (text rest : List ℕ) → BeginsWith ps text rest → text ≡ joined ps ++ rest
units-whole [] text rest h = sym h
units-whole (p ∷ ps) text rest h =
    sym (take-append-drop (length p.bytes) text) ∙ ap (λ t. t ++ drop (length p.bytes) text) (sym (unit-front text p h.1))
    ∙ ap (λ t. p.bytes ++ t) (units-whole ps (drop (length p.bytes) text) rest h.2) ∙ sym (append_assoc p.bytes (joined ps) rest)

-- a row of units, taken together, is cut into the same units again
pub units-alone : (ps : List TextUnit) (text rest : List ℕ) → BeginsWith ps text rest → BeginsWith ps (joined ps) []
units-alone [] text rest h = refl
units-alone (p ∷ ps) text rest h =
    let later : BeginsWith ps (joined ps) [] = units-alone ps (drop (length p.bytes) text) rest h.2 in
    let whole : text ≡ joined (p ∷ ps) ++ rest = units-whole (p ∷ ps) text rest h in
    let front : take (length (joined (p ∷ ps))) text ≡ joined (p ∷ ps) = ap (take (length (joined (p ∷ ps)))) whole ∙ take-append_seam (joined (p ∷ ps)) rest in
    let fits : length p.bytes ≤ length (joined (p ∷ ps)) = omega (arith, length-append p.bytes (joined ps)) in
    let same : first_unit (joined (p ∷ ps)) ≡ Ok p = ap first_unit (sym front) ∙ first_unit-take text p (length (joined (p ∷ ps))) h.1 fits in
    let some : 0 < length (joined (p ∷ ps)) = pos text p h.0 h.1 fits in
    (some, same, subst (λ t. BeginsWith ps t []) (sym (drop-append_seam p.bytes (joined ps))) later)
  where
    pos : (text : List ℕ) (p : TextUnit) {n : ℕ} → 0 < length text → first_unit text ≡ Ok p → length p.bytes ≤ n → 0 < n
    pos [] p s w f = absurd (omega (arith, s))
    pos (b ∷ bs) p s w f = omega (arith, unit_some b bs p w, f)

-- The cut and the relation agree: units up to nothing are all units.

all-units : (ps : List TextUnit) (text : List ℕ) → BeginsWith ps text [] → AreUnits text ps
all-units [] text h = sym h
all-units (p ∷ ps) text h = (h.0, h.1, all-units ps (drop (length p.bytes) text) h.2)

units-all : (ps : List TextUnit) (text : List ℕ) → AreUnits text ps → BeginsWith ps text []
units-all [] text h = sym h
units-all (p ∷ ps) text h = (h.0, h.1, units-all ps (drop (length p.bytes) text) h.2)

pub units-cut : (ps : List TextUnit) (text : List ℕ) → BeginsWith ps text [] → cut text ≡ Ok ps
units-cut ps text h = (cut_is_units text ps).1 (all-units ps text h)

pub cut-begins : (text : List ℕ) (ps : List TextUnit) → cut text ≡ Ok ps → BeginsWith ps text []
cut-begins text ps e = units-all ps text ((cut_is_units text ps).0 e)
