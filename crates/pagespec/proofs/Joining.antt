-- Texts written one after the other, with a byte between them.
use Rattle.std.proofs.Common.{◌≡◌, ℕ, ◌+◌, ◌<◌, List, [], ◌∷◌, ◌++◌, Bool, true, false, sym, ap, ◌∙◌, append_assoc, append-nil, length, take, get_or}
use Rattle.std.specs.Prelude.{map, flat_map, if◌then◌else◌, Result, Ok, Err, OnOk}
use Rattle.std.proofs.lemmas.Bool.{true≢false}
use Rattle.std.proofs.lemmas.List.{map_more, flat_map_more}
use Rattle.rules.specs.Specification.{joined_by, Item, Spec, modulo_text, canonical}
use Rattle.pagespec.specs.Items.{groups_text}

-- the first text, and the others with the byte before each
pub joined_first : {X : Type 0} (c : ℕ) (f : X → List ℕ) (x : X) (xs : List X) → joined_by c (map f (x ∷ xs)) ≡ f x ++ flat_map (λ y. c ∷ f y) xs
joined_first c f x [] = sym (append-nil (f x))
joined_first c f x (y ∷ xs) = ap (λ t. f x ++ c ∷ t) (joined_first c f y xs)

-- the texts written so far, and those that are left
pub joined_text : {X : Type 0} (c : ℕ) (f : X → List ℕ) (x : X) (xs : List X) (old one new : List ℕ) → one ≡ old ++ f x → new ≡ one ++ flat_map (λ y. c ∷ f y) xs
    → new ≡ old ++ joined_by c (map f (x ∷ xs))
joined_text c f x xs old one new e g =
    g ∙ (ap (λ t. t ++ flat_map (λ y. c ∷ f y) xs) e ∙ (append_assoc old (f x) (flat_map (λ y. c ∷ f y) xs) ∙ ap (λ t. old ++ t) (sym (joined_first c f x xs))))

pub on_ok : {A E P Q : Type 0} (r : Result A E) → (P → Q) → OnOk r P → OnOk r Q
on_ok (Ok x) f p = f p
on_ok (Err e) f p = tt

-- the modulo and the groups make the canonical text
pub canonical_is : (spec : Spec) (a b d : List ℕ) (m : ℕ) (gs : List (List Item)) → a ≡ [] → b ≡ a ++ modulo_text m → d ≡ b ++ groups_text gs → m ≡ spec.modulo → gs ≡ spec.groups → d ≡ canonical spec
canonical_is spec a b d m gs ea eb ed em eg =
    ed ∙ (ap (λ x. x ++ groups_text gs) (eb ∙ ap (λ x. x ++ modulo_text m) ea) ∙ (ap (λ x. modulo_text x ++ groups_text gs) em ∙ ap (λ x. modulo_text spec.modulo ++ groups_text x) eg))

-- one more text behind those written so far, after its byte
pub one_more : {X Y : Type 0} (c : ℕ) (f : X → Y) (t : Y → List ℕ) (xs : List X) (i : ℕ) (x : X) (old so_far mark new : List ℕ)
    → so_far ≡ old ++ flat_map (λ y. c ∷ t y) (map f (take i xs)) → mark ≡ so_far ++ c ∷ [] → new ≡ mark ++ t (f x) → x ≡ get_or xs i x → i < length xs
    → new ≡ old ++ flat_map (λ y. c ∷ t y) (map f (take (i + 1) xs))
one_more {Y = Y} c f t xs i x old so_far mark new is marked written here lt =
    let g : List Y → List ℕ = flat_map (λ y. c ∷ t y) in
    let before : List Y = map f (take i xs) in
    written
    ∙ ap (λ v. v ++ t (f x)) (marked ∙ ap (λ v. v ++ c ∷ []) is)
    ∙ append_assoc (old ++ g before) (c ∷ []) (t (f x))
    ∙ flat_map_more (λ y. c ∷ t y) old before (f x)
    ∙ ap (λ y. old ++ g (before ++ f y ∷ [])) here
    ∙ ap (λ ys. old ++ g ys) (sym (map_more f xs i x lt))

-- two texts in parentheses, unless they are left out
pub in_parentheses : (out : Bool) (x y old v1 v2 v3 v4 : List ℕ) → out ≡ false → v1 ≡ old ++ 40 ∷ [] → v2 ≡ v1 ++ x → v3 ≡ v2 ++ 44 ∷ [] → v4 ≡ v3 ++ y
    → v4 ++ 41 ∷ [] ≡ old ++ (if out then [] else 40 ∷ x ++ 44 ∷ y ++ 41 ∷ [])
in_parentheses true x y old v1 v2 v3 v4 isnt a b c d = absurd (true≢false isnt)
in_parentheses false x y old v1 v2 v3 v4 isnt a b c d = rw (d, c, b, a) (simp append_assoc)

-- five texts one after the other
pub five_joined : (old a b c d e v1 v2 v3 v4 : List ℕ) → v1 ≡ old ++ a → v2 ≡ v1 ++ b → v3 ≡ v2 ++ c → v4 ≡ v3 ++ d → v4 ++ e ≡ old ++ (a ++ b ++ c ++ d ++ e)
five_joined old a b c d e v1 v2 v3 v4 one two three four = rw (four, three, two, one) (simp append_assoc)
