-- Parts of a row, entry by entry.
use Rattle.std.proofs.Common.{ℕ, suc, ◌+◌, ◌-◌, ◌*◌, ◌/◌, ◌%◌, min, ◌<◌, ◌≤◌, ◌≡◌, ◌∙◌, refl, ap, sym, arith, true, false, Bool, [], ◌∷◌, ◌++◌, Option, None, length, drop, drop-drop, append_assoc, append-nil}
use Rattle.std.proofs.Math.Seq.{drop-cons}
use Rattle.std.proofs.Math.ListN.{drop_of_length-le}
use Rattle.std.proofs.lemmas.Grind.{div_ceil_times}
use Rattle.std.proofs.lemmas.List.{length-reverse}
use Rattle.std.proofs.lemmas.Nat.{div-mul-add}
use Rattle.rules.specs.Signatures.{entry_of}
use Rattle.rules.specs.Choice.{Part, All, Odd, Even, part_of, reversed_if}
use Rattle.rules.specs.Rows.{Row, odd_part, even_part}

odd_cons : (x : Option ℕ) (rest : Row) → odd_part (x ∷ rest) ≡ x ∷ odd_part (drop 1 rest)
odd_cons x [] = refl
odd_cons x (y ∷ rest) = refl

-- the even part is the odd part of what follows the first entry
pub even_is : (row : Row) → even_part row ≡ odd_part (drop 1 row)
even_is [] = refl
even_is (x ∷ []) = refl
even_is (x ∷ y ∷ row) = ap (λ part. y ∷ part) (even_is row) ∙ sym (odd_cons y row)

-- one entry of the part
pub part_more : (part row : Row) (at : ℕ) → at < length row → (part ++ entry_of row at ∷ []) ++ odd_part (drop (at + 2) row) ≡ part ++ odd_part (drop at row)
part_more part row at lt =
    let next : suc at + 1 ≡ at + 2 = omega arith in
    let here : odd_part (drop at row) ≡ entry_of row at ∷ odd_part (drop (at + 2) row) =
    ap odd_part (drop-cons row at None lt)
    ∙ odd_cons (entry_of row at) (drop (suc at) row)
    ∙ ap (λ rest. entry_of row at ∷ odd_part rest) (drop-drop 1 (suc at) row ∙ ap (λ k. drop k row) next) in
    append_assoc part (entry_of row at ∷ []) (odd_part (drop (at + 2) row)) ∙ ap (λ t. part ++ t) (sym here)

-- after the row's end nothing is left
pub part_all : (part row whole : Row) (at : ℕ) → length row ≤ at → part ++ odd_part (drop at row) ≡ whole → part ≡ whole
part_all part row whole at le is =
    sym (append-nil part) ∙ ap (λ rest. part ++ odd_part rest) (sym (drop_of_length-le row le)) ∙ is

-- the lengths of the parts
pub odd_length : (row : Row) → (length row ≤ length (odd_part row) * 2) × (length (odd_part row) * 2 ≤ length row + 1)
odd_length [] = (omega arith, omega arith)
odd_length (x ∷ []) = (omega arith, omega arith)
odd_length (x ∷ y ∷ row) = let rest = odd_length row in (omega (arith, rest.0), omega (arith, rest.1))

pub even_length : (row : Row) → (length (even_part row) * 2 ≤ length row) × (length row ≤ length (even_part row) * 2 + 1)
even_length [] = (omega arith, omega arith)
even_length (x ∷ []) = (omega arith, omega arith)
even_length (x ∷ y ∷ row) = let rest = even_length row in (omega (arith, rest.0), omega (arith, rest.1))

pub odd_count : (row : Row) (n q : ℕ) → length row ≡ n → q ≡ n / 2 + min 1 (n % 2) → length (odd_part row) ≡ q
odd_count row n q len is =
    let t = div_ceil_times n 2 (omega arith) in
    let l = odd_length row in
    omega (arith, len, is, t.0, t.1, l.0, l.1)

pub even_count : (row : Row) (n : ℕ) → length row ≡ n → length (even_part row) ≡ n / 2
even_count row n len =
    let l = even_length row in
    let e = length (even_part row) in
    let split : e * 2 + (n - e * 2) ≡ n = omega (arith, l.0, len) in
    sym (div-mul-add e 2 (n - e * 2) (omega (arith, l.0, l.1, len))) ∙ ap (λ k. k / 2) split

part_few : (p : Part) (row : Row) → length (part_of p row) ≤ length row
part_few All row = omega arith
part_few Odd row = let l = odd_length row in omega (arith, l.0, l.1)
part_few Even row = let l = even_length row in omega (arith, l.0, l.1)

-- no more are chosen than there were
pub chosen_few : (backwards : Bool) (p : Part) (row new : Row) (n most : ℕ) → new ≡ reversed_if backwards (part_of p row) → n ≡ length row → n ≤ most → length new ≤ most
chosen_few true p row new n most is len few =
    let same : length new ≡ length (part_of p row) = ap (λ (r : Row). length r) is ∙ length-reverse (part_of p row) in
    omega (arith, same, len, few, part_few p row)
chosen_few false p row new n most is len few =
    let same : length new ≡ length (part_of p row) = ap (λ (r : Row). length r) is in
    omega (arith, same, len, few, part_few p row)
