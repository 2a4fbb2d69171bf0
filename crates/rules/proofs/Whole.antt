-- Cutting a text neither loses nor adds anything: its units, and its parts, are the text.
use Rattle.std.proofs.Common.{arith, ◌≡◌, ℕ, zero, suc, ◌+◌, List, [], ◌∷◌, ◌++◌, append_assoc, Bool, true, false, not, cond, refl, sym, ◌∙◌, ap, length, take, drop}
use Rattle.std.specs.Prelude.{Result, Ok, Err, flat_map, map, if◌then◌else◌}
use Rattle.std.specs.List.{prefix_len}
use Rattle.std.proofs.lemmas.List.{take-append-drop}
use Rattle.std.proofs.lemmas.List.Sums.{take_while-cons}
use Rattle.std.proofs.lemmas.Grind.{flat_map-append}
use Rattle.rules.specs.Units.{TextUnit, BlockFault, first_unit, block, begins_block, data_len, fields, content_of, line_len, AreUnits, UnitsMakeText}
use Rattle.rules.specs.Parts.{NestedUnit, nested_from, nested, depth_after, begins_page, begins_trailer, up_to, starting_at, preamble, page_run, trailer, split_pages, bytes_of, pages, PartsMakeText}
use Rattle.rules.proofs.CutUnits.{same_ok, apart_results, cut_is_units}

taken : (n : ℕ) (text : List ℕ) → take (length (take n text)) text ≡ take n text
taken zero [] = refl
taken zero (b ∷ bs) = refl
taken (suc n) [] = refl
taken (suc n) (b ∷ bs) = ap (λ t. b ∷ t) (taken n bs)

-- a unit's bytes are the first of the text
unit_front : (t : Bool) (d : Result ℕ BlockFault) (text content : List ℕ) (n : ℕ) (u : TextUnit)
    → (if t then block text n d else Ok (record { content = content; bytes = take n text; is_block = false })) ≡ Ok u → take (length u.bytes) text ≡ u.bytes
unit_front true (Ok k) text content n u e =
    let same : take (n + k) text ≡ u.bytes = ap (λ v. v.bytes) (same_ok _ u e) in
    ap (λ b. take (length b) text) (sym same) ∙ taken (n + k) text ∙ same
unit_front true (Err f) text content n u e = absurd (apart_results f u e)
unit_front false d text content n u e =
    let same : take n text ≡ u.bytes = ap (λ v. v.bytes) (same_ok _ u e) in
    ap (λ b. take (length b) text) (sym same) ∙ taken n text ∙ same

first_front : (text : List ℕ) (u : TextUnit) → first_unit text ≡ Ok u → take (length u.bytes) text ≡ u.bytes
first_front text u e =
    let content = content_of text in
    unit_front (begins_block content) (data_len content (drop (line_len text) text) (fields content)) text content (line_len text) u e

units_whole : (us : List TextUnit) (text : List ℕ) → AreUnits text us → flat_map (λ u. u.bytes) us ≡ text
units_whole [] text e = sym e
units_whole (u ∷ us) text (some, e, m) =
    ap (λ z. u.bytes ++ z) (units_whole us (drop (length u.bytes) text) m) ∙ ap (λ z. z ++ drop (length u.bytes) text) (sym (first_front text u e))
    ∙ take-append-drop (length u.bytes) text

pub units_make_text : UnitsMakeText
units_make_text text us e = units_whole us text ((cut_is_units text us).0 e)

nested_bytes : (d : ℕ) (us : List TextUnit) → bytes_of (nested_from d us) ≡ flat_map (λ u. u.bytes) us
nested_bytes d [] = refl
nested_bytes d (u ∷ us) = ap (λ z. u.bytes ++ z) (nested_bytes (depth_after d u) us)

-- what comes before a place, and what follows from there on
halves : (p : NestedUnit → Bool) (us : List NestedUnit) → bytes_of (up_to p us) ++ bytes_of (starting_at p us) ≡ bytes_of us
halves p us =
    let n = prefix_len (λ u. not (p u)) us in
    sym (flat_map-append (λ u. u.unit.bytes) (take n us) (drop n us)) ∙ ap bytes_of (take-append-drop n us)

up_to_cons : (p : NestedUnit → Bool) (u : NestedUnit) (us : List NestedUnit) → up_to p (u ∷ us) ≡ cond (p u) [] (u ∷ up_to p us)
up_to_cons p u us = take_while-cons (λ v. not (p v)) u us ∙ flip (p u)
  where
    flip : (t : Bool) → cond (not t) (u ∷ up_to p us) [] ≡ cond t [] (u ∷ up_to p us)
    flip true = refl
    flip false = refl

starting_cons : (p : NestedUnit → Bool) (u : NestedUnit) (us : List NestedUnit) → starting_at p (u ∷ us) ≡ cond (p u) (u ∷ us) (starting_at p us)
starting_cons p u us = split (p u)
  where
    split : (t : Bool) → drop (cond (not t) (1 + prefix_len (λ v. not (p v)) us) 0) (u ∷ us) ≡ cond t (u ∷ us) (drop (prefix_len (λ v. not (p v)) us) us)
    split true = refl
    split false = ap (λ k. drop k (u ∷ us)) (let e : 1 + prefix_len (λ v. not (p v)) us ≡ suc (prefix_len (λ v. not (p v)) us) = omega arith in e)

-- the pages of a row are all from the first page's line on
pages_bytes : (us : List NestedUnit) → flat_map (λ page. page) (map bytes_of (split_pages us)) ≡ bytes_of (starting_at begins_page us)
pages_bytes [] = refl
pages_bytes (u ∷ us) = turn (begins_page u) (pages_bytes us) ∙ ap bytes_of (sym (starting_cons begins_page u us))
  where
    turn : (t : Bool) → flat_map (λ page. page) (map bytes_of (split_pages us)) ≡ bytes_of (starting_at begins_page us)
        → flat_map (λ page. page) (map bytes_of (if t then (u ∷ up_to begins_page us) ∷ split_pages us else split_pages us)) ≡ bytes_of (cond t (u ∷ us) (starting_at begins_page us))
    turn true more = ap (λ z. bytes_of (u ∷ up_to begins_page us) ++ z) more
        ∙ append_assoc u.unit.bytes (bytes_of (up_to begins_page us)) (bytes_of (starting_at begins_page us)) ∙ ap (λ z. u.unit.bytes ++ z) (halves begins_page us)
    turn false more = more

-- the row is empty or begins with such a unit
abbrev opens : (NestedUnit → Bool) → List NestedUnit → Bool
opens p [] = true
opens p (u ∷ us) = p u

opens_start : (p : NestedUnit → Bool) (us : List NestedUnit) → opens p (starting_at p us) ≡ true
opens_start p [] = refl
opens_start p (u ∷ us) = ap (opens p) (starting_cons p u us) ∙ turn (p u) refl (opens_start p us)
  where
    turn : (t : Bool) → p u ≡ t → opens p (starting_at p us) ≡ true → opens p (cond t (u ∷ us) (starting_at p us)) ≡ true
    turn true e later = e
    turn false e later = later

opens_up_to : (p q : NestedUnit → Bool) (us : List NestedUnit) → opens p us ≡ true → opens p (up_to q us) ≡ true
opens_up_to p q [] e = refl
opens_up_to p q (u ∷ us) e = ap (opens p) (up_to_cons q u us) ∙ turn (q u)
  where
    turn : (t : Bool) → opens p (cond t [] (u ∷ up_to q us)) ≡ true
    turn true = refl
    turn false = e

starts_itself : (p : NestedUnit → Bool) (us : List NestedUnit) → opens p us ≡ true → starting_at p us ≡ us
starts_itself p [] e = refl
starts_itself p (u ∷ us) e = starting_cons p u us ∙ ap (λ t. cond t (u ∷ us) (starting_at p us)) e

run_bytes : (us : List NestedUnit) → flat_map (λ page. page) (pages us) ≡ bytes_of (page_run us)
run_bytes us = pages_bytes (page_run us) ∙ ap bytes_of (starts_itself begins_page (page_run us) (opens_up_to begins_page begins_trailer (starting_at begins_page us) (opens_start begins_page us)))

parts_whole : (us : List NestedUnit) → bytes_of (preamble us) ++ flat_map (λ page. page) (pages us) ++ bytes_of (trailer us) ≡ bytes_of us
parts_whole us =
    ap (λ z. bytes_of (preamble us) ++ z ++ bytes_of (trailer us)) (run_bytes us)
    ∙ append_assoc (bytes_of (preamble us)) (bytes_of (page_run us)) (bytes_of (trailer us))
    ∙ ap (λ z. bytes_of (preamble us) ++ z) (halves begins_trailer (starting_at begins_page us)) ∙ halves begins_page us

pub parts_make_text : PartsMakeText
parts_make_text text us e = parts_whole (nested us) ∙ nested_bytes 0 us ∙ units_make_text text us e
