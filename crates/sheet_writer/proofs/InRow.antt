-- Which of some sheets is the last, and the texts of those that follow each other.
use Rattle.std.proofs.Common.{ℕ, suc, ◌+◌, ◌≤◌, ◌++◌, ◌≡◌, ◌∙◌, refl, ap, List, [], ◌∷◌, length, take, drop, max, arith, slice_index_or}
use Rattle.std.specs.Prelude.{flat_map, slice_get, Option, Some, None, IfSome}
use Rattle.std.specs.List.{range_with_len}
use Rattle.std.proofs.Math.Seq.{drop-cons}
use Rattle.std.proofs.Math.ListN.{drop_of_length-le}
use Rattle.std.proofs.lemmas.List.Elements.{All-head, All-tail, All-take, All-drop}
use Rattle.std.proofs.lemmas.Option.{slice_get_within, get_or_from_slice_get}
use Rattle.sheet_text.specs.Texts.{TextsView, sheets_of, joined_texts}
use Rattle.sheet_writer.specs.Places.{last_entry}
use Rattle.sheet_writer.specs.Writing.{HaveTexts}

-- one more number is looked at
pub last_next : (n : ℕ) (xs : List ℕ) (last sheet next all : ℕ) → slice_get xs n ≡ Some sheet → next ≡ max sheet last → max last (last_entry (drop n xs)) ≡ all
    → max next (last_entry (drop (n + 1) xs)) ≡ all
last_next n xs last sheet next all at is before =
    let more : suc n ≡ n + 1 = omega arith in
    let first : drop n xs ≡ sheet ∷ drop (n + 1) xs =
    drop-cons xs n 0 (slice_get_within xs n sheet at) ∙ ap (λ k. slice_index_or xs n 0 ∷ drop k xs) more ∙ ap (λ x. x ∷ drop (n + 1) xs) (get_or_from_slice_get xs n sheet 0 at) in
    let rest : last_entry (drop n xs) ≡ max sheet (last_entry (drop (n + 1) xs)) = ap last_entry first in
    omega (arith, is, before, rest)

pub last_found : (n : ℕ) (xs : List ℕ) (last : ℕ) → length xs ≤ n → max last (last_entry (drop n xs)) ≡ last_entry xs → last ≡ last_entry xs
last_found n xs last h before =
    let none : last_entry (drop n xs) ≡ 0 = ap last_entry (drop_of_length-le xs h) in
    omega (arith, none, before)

-- texts of sheets that have their own
own_texts : (text : ℕ → List ℕ) (texts : TextsView) → HaveTexts text texts → joined_texts texts ≡ flat_map text (sheets_of texts)
own_texts text [] have = refl
own_texts text (t ∷ ts) have =
    ap (λ x. x ++ joined_texts ts) (All-head (λ (s : ℕ × List ℕ). s.1 ≡ text s.0) t ts have)
    ∙ ap (λ x. text t.0 ++ x) (own_texts text ts (All-tail (λ (s : ℕ × List ℕ). s.1 ≡ text s.0) t ts have))

-- the texts of some of a row
pub row_joined : (text : ℕ → List ℕ) (texts : TextsView) (nth sheet : ℕ) (o : Option (ℕ × List ℕ)) → HaveTexts text texts
    → IfSome o (λ j. sheets_of (take j.0 (drop nth texts)) ≡ range_with_len sheet j.0) → IfSome o (λ j. j.1 ≡ joined_texts (take j.0 (drop nth texts)))
    → IfSome o (λ j. j.1 ≡ flat_map text (range_with_len sheet j.0))
row_joined text texts nth sheet None have row is = tt
row_joined text texts nth sheet (Some j) have row is =
    let has_own : ℕ × List ℕ → Type 0 = λ t. t.1 ≡ text t.0 in
    let own = All-take has_own j.0 (drop nth texts) (All-drop has_own nth texts have) in
    is ∙ own_texts text (take j.0 (drop nth texts)) own ∙ ap (λ xs. flat_map text xs) row
