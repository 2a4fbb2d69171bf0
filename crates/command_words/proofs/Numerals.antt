-- A text as a number: `u32_of` reads it as `u32` does.
use Rattle.std.proofs.Common.{◌≡◌, ◌&&◌, ap, refl, true, false, Bool, List, [], ◌∷◌, ℕ, length, Option, Some, None, Result, Ok, Err, nat_lt, lt-ltb, ltb-true}
use Rattle.std.specs.Prelude.{⊤}
use Rattle.std.specs.List.{list_all}
use Rattle.std.specs.Char.{digit_value}
use Rattle.std.specs.Str.Parse.{AllDigits, ParsesUnsigned, digits_value, without_leading_plus}
use Rattle.clap.specs.Matches.{ReadsOne}
use Rattle.clap.specs.ValueTests.{is_numeral}
use Rattle.clap.proofs.WalkLemmas.{both}
use Rattle.command_words.specs.Matches.{u32_of}

digits_pass : (ds : List ℕ) → AllDigits 10 ds → list_all (λ d. nat_lt (digit_value d) 10) ds ≡ true
digits_pass [] h = refl
digits_pass (d ∷ ds) h = rw (lt-ltb (digit_value d) 10 h.0) (digits_pass ds h.1)

digits_from : (ds : List ℕ) → list_all (λ d. nat_lt (digit_value d) 10) ds ≡ true → AllDigits 10 ds
digits_from [] e = tt
digits_from (d ∷ ds) e =
    let parts = both _ _ e in
    (ltb-true _ _ parts.0, digits_from ds parts.1)

abbrev is_number : List ℕ → Bool
is_number ds = is_numeral ds && nat_lt (digits_value 10 ds) 4294967296

-- `u32_of` reads a text as `u32` does
pub reads_number : (t : List ℕ) → ReadsOne {T = ℕ} {E = ⊤} (λ bs r. ParsesUnsigned 32 10 bs r) t (u32_of t)
reads_number t = go (is_number (without_leading_plus t)) refl
  where
    go : (b : Bool) → is_number (without_leading_plus t) ≡ b → ReadsOne {T = ℕ} {E = ⊤} (λ bs r. ParsesUnsigned 32 10 bs r) t (u32_of t)
    go true e =
        let outer = both (is_numeral (without_leading_plus t)) _ e in
        let inner = both _ _ outer.0 in
        rw e (((ltb-true _ _ inner.0, digits_from (without_leading_plus t) inner.1), ltb-true _ _ outer.1), refl)
    go false e =
        rw e (
          tt,
          λ h.
              let bad : true ≡ false = rw (lt-ltb 0 (length (without_leading_plus t)) h.0.0, digits_pass (without_leading_plus t) h.0.1, lt-ltb (digits_value 10 (without_leading_plus t)) 4294967296 h.1) at e in
              cc,
        )

-- what `u32` reads from a text
pub number_read : (E : Type 0) (G : List ℕ → Result ℕ E → Type 0) (t : List ℕ) (r : Option ℕ) → ((r : Result ℕ E) → G t r → ParsesUnsigned 32 10 t r) → ReadsOne G t r → r ≡ u32_of t
number_read E G t (Some v) parse h =
    let p = parse (Ok v) h in
    let ds = without_leading_plus t in
    rw (lt-ltb 0 (length ds) p.0.0.0, digits_pass ds p.0.0.1, lt-ltb (digits_value 10 ds) 4294967296 p.0.1) (ap Some p.1)
number_read E G t None parse h = go (is_number (without_leading_plus t)) refl
  where
    go : (b : Bool) → is_number (without_leading_plus t) ≡ b → None ≡ u32_of t
    go false e = rw e refl
    go true e =
        let outer = both (is_numeral (without_leading_plus t)) _ e in
        let inner = both _ _ outer.0 in
        absurd (parse (Err h.0) h.1 ((ltb-true _ _ inner.0, digits_from (without_leading_plus t) inner.1), ltb-true _ _ outer.1))
