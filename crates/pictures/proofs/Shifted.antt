-- Objects, with the levels of saves shifted by one: operators of the work do the same.
use Rattle.std.specs.Prelude.{Option, Some, None, if◌then◌else◌, bytes_eq, option_map, nat_lt}
use Rattle.std.proofs.Common.{◌≡◌, ℕ, zero, suc, ◌+◌, refl, ap, ap₂, ◌∙◌, sym, Bool, true, false, not, ◌&&◌, ◌==◌, List, [], ◌∷◌, true≢false, arith}
use Rattle.pictures.specs.Objects.{Token, Text, Hexadecimal, Object, Plain, Mark}
use Rattle.pictures.specs.Objects.{Saved, Want, ANumber, AText, AnArray, AMatrix, AFont, AName, ATruth}
use Rattle.pictures.specs.Dictionaries.{DictionaryEntry, system, dictionary_entry, systemdict}
use Rattle.pictures.specs.Operators.{taken, fits, also, collected, onto, below_mark, nth, all_are_old, is_old}
use Rattle.pictures.specs.Unaware.{is_saved, no_saved, no_saved_in}
use Rattle.pictures.specs.Shifted.{one_save_more, ups}
use Rattle.std.proofs.lemmas.Bool.{lt-ltb, ltb-true, le-ltb, ltb-false}
use Rattle.pictures.proofs.Tests.{first, second, by_test}

abbrev pub up_taken : Option (List Object × List Object) → Option (List Object × List Object)
up_taken None = None
up_taken (Some (os, rest)) = Some (os, ups rest)

also_up : (o : Object) (x : Option (List Object × List Object)) → also o (up_taken x) ≡ up_taken (also o x)
also_up o None = refl
also_up o (Some (os, rest)) = refl

none_or : (b : Bool) (o : Object) (x : Option (List Object × List Object)) → (if b then also o (up_taken x) else None) ≡ up_taken (if b then also o x else None)
none_or true o x = also_up o x
none_or false o x = refl

fits_no_save : (w : Want) (level : ℕ) → fits w (Saved level) ≡ false
fits_no_save ANumber level = refl
fits_no_save AText level = refl
fits_no_save AnArray level = refl
fits_no_save AMatrix level = refl
fits_no_save AFont level = refl
fits_no_save AName level = refl
fits_no_save ATruth level = refl

pub taken_up : (ws : List Want) (os : List Object) → taken ws (ups os) ≡ up_taken (taken ws os)
taken_up [] os = refl
taken_up (w ∷ ws) [] = refl
taken_up (w ∷ ws) (Saved level ∷ os) =
    ap (λ b. if b then also (Saved (level + 1)) (taken ws (ups os)) else None) (fits_no_save w (level + 1))
    ∙ ap (λ b. up_taken (if b then also (Saved level) (taken ws os) else None)) (sym (fits_no_save w level))
taken_up (w ∷ ws) (o ∷ os) =
    ap (λ x. if fits w o then also o x else None) (taken_up ws os) ∙ none_or (fits w o) o (taken ws os)

abbrev pub up_collected : Option (List Token × List Object) → Option (List Token × List Object)
up_collected None = None
up_collected (Some (ts, os)) = Some (ts, ups os)

pub collected_up : (ts : List Token) (os : List Object) → collected ts (ups os) ≡ up_collected (collected ts os)
collected_up ts [] = refl
collected_up ts (Mark ∷ os) = refl
collected_up ts (Plain t ∷ os) = collected_up (t ∷ ts) os
collected_up ts (o ∷ os) = refl

pub onto_up : (ts : List Token) (os : List Object) → onto ts (ups os) ≡ ups (onto ts os)
onto_up [] os = refl
onto_up (t ∷ ts) os = onto_up ts (Plain t ∷ os)

pub below_mark_up : (os : List Object) → below_mark (ups os) ≡ option_map ups (below_mark os)
below_mark_up [] = refl
below_mark_up (Mark ∷ os) = refl
below_mark_up (o ∷ os) = below_mark_up os

pub nth_up : (n : ℕ) (os : List Object) → nth n (ups os) ≡ option_map one_save_more (nth n os)
nth_up n [] = refl
nth_up zero (o ∷ os) = refl
nth_up (suc n) (o ∷ os) = nth_up n os

same_order : (a b : ℕ) → nat_lt (a + 1) (b + 1) ≡ nat_lt a b
same_order a b = by_test (nat_lt a b)
    (λ t. lt-ltb (a + 1) (b + 1) (omega (arith, ltb-true a b t)) ∙ sym t)
    (λ f. le-ltb (a + 1) (b + 1) (omega (arith, ltb-false a b f)) ∙ sym f)

is_old_up : (made level : ℕ) (o : Object) → is_old made (level + 1) (one_save_more o) ≡ is_old made level o
is_old_up made level (Saved l) = same_order l level
is_old_up made level (Plain (Text bytes)) = refl
is_old_up made level (Plain (Hexadecimal digits)) = refl
is_old_up made level o = refl

pub all_are_old_up : (made level : ℕ) (os : List Object) → all_are_old made (level + 1) (ups os) ≡ all_are_old made level os
all_are_old_up made level [] = refl
all_are_old_up made level (o ∷ os) = ap₂ (λ a b. a && b) (is_old_up made level o) (all_are_old_up made level os)

up_same : (o : Object) → not (is_saved o) ≡ true → one_save_more o ≡ o
up_same (Saved level) e = absurd (true≢false (sym e))
up_same o e = refl

pub ups_same : (os : List Object) → no_saved os ≡ true → ups os ≡ os
ups_same [] e = refl
ups_same (o ∷ os) e = ap₂ (λ x xs. x ∷ xs) (up_same o (first (not (is_saved o)) (no_saved os) e)) (ups_same os (second (not (is_saved o)) (no_saved os) e))

found_same : (b : Bool) (o : Object) (x : Option Object) → one_save_more o ≡ o → option_map one_save_more x ≡ x → option_map one_save_more (if b then Some o else x) ≡ (if b then Some o else x)
found_same true o x e f = ap Some e
found_same false o x e f = f

pub entry_same : (d : ℕ) (k : List ℕ) (es : List DictionaryEntry) → no_saved_in es ≡ true → option_map one_save_more (dictionary_entry d k es) ≡ dictionary_entry d k es
entry_same d k [] e = refl
entry_same d k (x ∷ es) e =
    found_same (bytes_eq x.key k && (x.dictionary == d)) x.value (dictionary_entry d k es) (up_same x.value (first (not (is_saved x.value)) (no_saved_in es) e)) (entry_same d k es (second (not (is_saved x.value)) (no_saved_in es) e))

pub system_same : (k : List ℕ) → option_map one_save_more (system k) ≡ system k
system_same k = entry_same 0 k systemdict refl
