-- Laws of the fields of a line.
use Rattle.std.specs.Prelude.{filter, not, nat_lt}
use Rattle.std.specs.List.{prefix_len, slice_split, onto_first}
use Rattle.std.proofs.Common.{true, false, ◌≡◌, ℕ, suc, ◌+◌, ◌<◌, ◌≤◌, List, [], ◌∷◌, length, take, drop, refl, ap, arith, length-take, sym, ◌∙◌, subst}
use Rattle.std.proofs.lemmas.Bool.{lt-ltb}
use Rattle.std.proofs.lemmas.List.Sums.{prefix_len-le-length}
use Rattle.std.proofs.lemmas.List.Splits.{slice_split-cons_yes, slice_split-cons_no}
use Rattle.rules.specs.Units.{is_blank}
use Rattle.dsc.specs.Fields.{fields_in}
use Rattle.dsc.proofs.Cases.{by_test}

abbrev kept_in : List (List ℕ) → List (List ℕ)
kept_in fs = filter (λ f. nat_lt 0 (length f)) fs

-- the length of the first field
abbrev pub field_len : List ℕ → ℕ
field_len text = prefix_len (λ b. not (is_blank b)) text

pub drop_one : (n b : ℕ) (bs : List ℕ) → drop (1 + n) (b ∷ bs) ≡ drop n bs
drop_one n b bs = ap (λ k. drop k (b ∷ bs)) (let e : 1 + n ≡ suc n = omega arith in e)

take_one : (n b : ℕ) (bs : List ℕ) → take (1 + n) (b ∷ bs) ≡ b ∷ take n bs
take_one n b bs = ap (λ k. take k (b ∷ bs)) (let e : 1 + n ≡ suc n = omega arith in e)

blanks_one : (b : ℕ) (bs : List ℕ) → is_blank b ≡ true → prefix_len is_blank (b ∷ bs) ≡ 1 + prefix_len is_blank bs
blanks_one b bs is = rw is refl

blanks_none : (b : ℕ) (bs : List ℕ) → is_blank b ≡ false → prefix_len is_blank (b ∷ bs) ≡ 0
blanks_none b bs isnt = rw isnt refl

field_none : (b : ℕ) (bs : List ℕ) → is_blank b ≡ true → field_len (b ∷ bs) ≡ 0
field_none b bs is = rw is refl

field_one : (b : ℕ) (bs : List ℕ) → is_blank b ≡ false → field_len (b ∷ bs) ≡ 1 + field_len bs
field_one b bs isnt = rw isnt refl

skip_blank : (b : ℕ) (bs : List ℕ) → is_blank b ≡ true → fields_in (b ∷ bs) ≡ fields_in bs
skip_blank b bs is = ap kept_in (slice_split-cons_yes is_blank b bs is)

pub skip_blanks : (text : List ℕ) → fields_in text ≡ fields_in (drop (prefix_len is_blank text) text)
skip_blanks [] = refl
skip_blanks (b ∷ bs) = by_test (is_blank b)
    (λ is. skip_blank b bs is ∙ skip_blanks bs ∙ ap fields_in (sym (drop_one (prefix_len is_blank bs) b bs)) ∙ ap (λ k. fields_in (drop k (b ∷ bs))) (sym (blanks_one b bs is)))
    (λ no. ap (λ k. fields_in (drop k (b ∷ bs))) (sym (blanks_none b bs no)))

-- the first part, and the fields of what follows it
abbrev Front : List ℕ → ℕ → Type 0
Front text n = (parts : List (List ℕ)) × (slice_split is_blank text ≡ take n text ∷ parts) × (kept_in parts ≡ fields_in (drop n text))

split_front : (text : List ℕ) → Front text (field_len text)
split_front [] = ([], refl, refl)
split_front (b ∷ bs) = by_test (is_blank b)
    (λ is. subst (Front (b ∷ bs)) (sym (field_none b bs is)) (slice_split is_blank bs, slice_split-cons_yes is_blank b bs is, sym (skip_blank b bs is)))
    (λ no.
    let w = split_front bs in
    subst (Front (b ∷ bs)) (sym (field_one b bs no)) (
      w.0,
      slice_split-cons_no is_blank b bs no ∙ ap (onto_first b) w.1 ∙ ap (λ t. t ∷ w.0) (sym (take_one (field_len bs) b bs)),
      w.2 ∙ ap fields_in (sym (drop_one (field_len bs) b bs)),
    ))

kept_first : (f : List ℕ) (fs : List (List ℕ)) → 0 < length f → kept_in (f ∷ fs) ≡ f ∷ kept_in fs
kept_first f fs h = rw (lt-ltb 0 (length f) h) refl

pub field_first : (text : List ℕ) → 0 < field_len text → fields_in text ≡ take (field_len text) text ∷ fields_in (drop (field_len text) text)
field_first text h =
    let w = split_front text in
    let fits : field_len text ≤ length text = prefix_len-le-length (λ b. not (is_blank b)) text in
    let some : 0 < length (take (field_len text) text) = rw length-take (omega (arith, h, fits)) in
    ap kept_in w.1 ∙ kept_first (take (field_len text) text) w.0 some ∙ ap (λ fs. take (field_len text) text ∷ fs) w.2

-- after the blanks comes a field, or nothing
none_left : (text : List ℕ) → field_len (drop (prefix_len is_blank text) text) ≡ 0 → drop (prefix_len is_blank text) text ≡ []
none_left [] h = refl
none_left (b ∷ bs) h = by_test (is_blank b)
    (λ is.
    let same : drop (prefix_len is_blank (b ∷ bs)) (b ∷ bs) ≡ drop (prefix_len is_blank bs) bs = ap (λ k. drop k (b ∷ bs)) (blanks_one b bs is) ∙ drop_one (prefix_len is_blank bs) b bs in
    same ∙ none_left bs (ap field_len (sym same) ∙ h))
    (λ no.
    let some : field_len (drop (prefix_len is_blank (b ∷ bs)) (b ∷ bs)) ≡ 1 + field_len bs = ap (λ k. field_len (drop k (b ∷ bs))) (blanks_none b bs no) ∙ field_one b bs no in
    absurd (omega (arith, h, some)))

pub no_field : (text from : List ℕ) → from ≡ drop (prefix_len is_blank text) text → field_len from ≡ 0 → fields_in text ≡ []
no_field text from e h = skip_blanks text ∙ ap fields_in (none_left text (ap field_len (sym e) ∙ h))

pub a_field : (text from front rest : List ℕ) (n : ℕ) → from ≡ drop (prefix_len is_blank text) text → n ≡ field_len from → 0 < n → front ≡ take n from → rest ≡ drop n from
    → fields_in text ≡ front ∷ fields_in rest
a_field text from front rest n e l some f r =
    skip_blanks text ∙ ap fields_in (sym e) ∙ field_first from (omega (arith, l, some))
    ∙ ap (λ k. take k from ∷ fields_in (drop k from)) (sym l) ∙ ap (λ t. t ∷ fields_in (drop n from)) (sym f) ∙ ap (λ t. front ∷ fields_in t) (sym r)
