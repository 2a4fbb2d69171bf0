-- A row is printed with as many entries, whatever they are.
use Rattle.std.proofs.Common.{ℕ, suc, ◌+◌, ◌-◌, ◌*◌, drop, replicate, ◌++◌, ◌≡◌, ◌∙◌, Option, Some, None, List, [], ◌∷◌, ap, ap₂, refl, sym, arith, length, map}
use Rattle.std.specs.Prelude.{flat_map}
use Rattle.std.specs.List.{range_with_len}
use Rattle.std.proofs.Math.Nat.{suc-mul}
use Rattle.std.proofs.lemmas.List.{length-append, length-drop, length-replicate}
use Rattle.std.proofs.lemmas.List.Concat.{flat_map-cons}
use Rattle.std.proofs.lemmas.List.FromFn.{length-map-range_with_len}
use Rattle.rules.specs.Choice.{Signing, sides_for, signed_if}
use Rattle.rules.specs.Rows.{Row, in_signatures}
use Rattle.rules.specs.Sheets.{blocks}
use Rattle.rules.specs.Signatures.{entry_of, page_in_signature}
use Rattle.rows.specs.Printed.{RowAsked, begun_row, laid_row, printed_row}
use Rattle.rows.specs.declared.printed.Begun.{Begun}
use Rattle.rows.specs.declared.printed.Begun.TheVariants as begun

-- ---- in signatures

-- lists of as many parts, each as long
as_long : {X Y : Type 0} (f g : X → List Y) → ((x : X) → length (f x) ≡ length (g x)) → (xs : List X) → length (flat_map f xs) ≡ length (flat_map g xs)
as_long f g same [] = refl
as_long f g same (x ∷ xs) =
    ap length (flat_map-cons f x xs)
    ∙ length-append (f x) (flat_map f xs)
    ∙ ap₂ (λ (a b : ℕ). a + b) (same x) (as_long f g same xs)
    ∙ sym (length-append (g x) (flat_map g xs))
    ∙ sym (ap length (flat_map-cons g x xs))

abbrev signature : (s : ℕ) → Row → ℕ → Row
signature s row b = map (λ i. entry_of row (b * s + page_in_signature s i)) (range_with_len 0 s)

in_as_many : (s : ℕ) (row other : Row) → length row ≡ length other → length (in_signatures s row) ≡ length (in_signatures s other)
in_as_many s row other same =
    ap (λ n. length (flat_map (signature s row) (range_with_len 0 (blocks s n)))) same
    ∙ as_long (signature s row) (signature s other)
    (λ b. length-map-range_with_len (λ i. entry_of row (b * s + page_in_signature s i)) 0 s
    ∙ sym (length-map-range_with_len (λ i. entry_of other (b * s + page_in_signature s i)) 0 s)) (range_with_len 0 (blocks s (length other)))

signed_as_many : (how : Option Signing) (row other : Row) → length row ≡ length other → length (signed_if how row) ≡ length (signed_if how other)
signed_as_many None row other same = same
signed_as_many (Some how) row other same =
    ap (λ n. length (in_signatures (sides_for how n) row)) same ∙ in_as_many (sides_for how (length other)) row other same

-- ---- from where it begins

pub copies_count : (cells : ℕ) (row : Row) → length (flat_map (replicate cells) row) ≡ length row * cells
copies_count cells [] = let z : 0 ≡ 0 * cells = omega arith in z
copies_count cells (x ∷ row) =
    ap length (flat_map-cons (replicate cells) x row)
    ∙ length-append (replicate cells x) (flat_map (replicate cells) row)
    ∙ ap₂ (λ (a b : ℕ). a + b) (length-replicate cells x) (copies_count cells row)
    ∙ more (length row) cells
  where
    more : (n k : ℕ) → k + n * k ≡ (suc n) * k
    more n k = let e : suc n * k ≡ n * k + k = suc-mul n k in omega (arith, e)

begun_count : (b : Begun) (row other : Row) → length row ≡ length other → length (begun_row b row) ≡ length (begun_row b other)
begun_count (begun.Pages used) row other same =
    length-append (replicate used None) row ∙ ap (λ n. length (replicate used blank) + n) same ∙ sym (length-append (replicate used None) other)
  where
    blank : Option ℕ
    blank = None
begun_count (begun.Cards cells used) row other same =
    after (flat_map (replicate cells) row)
    ∙ ap (λ n. length (replicate used blank) + (n - used)) (copies_count cells row ∙ ap (λ n. n * cells) same ∙ sym (copies_count cells other))
    ∙ sym (after (flat_map (replicate cells) other))
  where
    blank : Option ℕ
    blank = None

    after : (copies : Row) → length (replicate used None ++ drop used copies) ≡ length (replicate used blank) + (length copies - used)
    after copies = length-append (replicate used None) (drop used copies) ∙ ap (λ n. length (replicate used blank) + n) (length-drop used copies)

laid_as_many : (b : Begun) (how : Option Signing) (row other : Row) → length row ≡ length other → length (laid_row b how row) ≡ length (laid_row b how other)
laid_as_many b None row other same = begun_count b row other same
laid_as_many b (Some how) row other same = signed_as_many (Some how) row other same

pub printed_as_many : (a : RowAsked) (row other : Row) → length row ≡ length other → length (printed_row a row) ≡ length (printed_row a other)
printed_as_many a row other same = laid_as_many a.begun a.signing row other same
