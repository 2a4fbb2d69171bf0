-- The parts of a list of lengths or edges, as a loop meets them.
use Rattle.std.proofs.Common.{rules, length-append, ◌≡◌, ◌∙◌, ℕ, ℤ, ◌+◌, ◌<◌, ◌≤◌, append-nil, Bool, List, [], ◌∷◌, ◌++◌, Option, Some, None, ap, arith, drop, get_or, length, refl, subst, sym}
use Rattle.std.specs.Prelude.{option_and_then, option_map}
use Rattle.std.specs.List.{fold}
use Rattle.std.proofs.lemmas.List.{append_assoc, at_drop_all, at_drop_more}
use Rattle.impose_words.specs.Edges.{edge_in, lengths_in, up_to_four}
use Rattle.impose_words.specs.Sizes.{length_in}
use Rattle.impose_words.specs.declared.edges.Edges.{Edges}

-- one part more is added
pub folds_more : {A B : Type 0} (f : B → A → B) (a : B) (xs : List A) (n : ℕ) (x : A) → (n < length xs) × (x ≡ get_or xs n x)
    → fold f a (drop n xs) ≡ fold f (f a x) (drop (n + 1) xs)
folds_more f a xs n x h = at_drop_more (fold f a) xs n x h.0 ∙ ap (λ y. fold f (f a y) (drop (n + 1) xs)) (sym h.1)

-- a part that names no edge leaves none
pub none_left : (listed : Bool) (texts : List (List ℕ)) → fold (edge_in listed) None texts ≡ None
none_left listed [] = refl
none_left listed (text ∷ rest) = none_left listed rest

-- these lengths, and those that the texts mean
abbrev pub with_more : (listed : Bool) → List ℤ → List (List ℕ) → Option (List ℤ)
with_more listed front texts = option_map (λ others. front ++ others) (lengths_in listed texts)

one_more : (front : List ℤ) (first : ℤ) (others : Option (List ℤ))
    → option_map (λ xs. front ++ xs) (option_map (λ xs. first ∷ xs) others) ≡ option_map (λ xs. (front ++ (first ∷ [])) ++ xs) others
one_more front first None = refl
one_more front first (Some others) = ap Some (sym (append_assoc front (first ∷ []) others))

-- one length more is read
pub reads_more : (listed : Bool) (front : List ℤ) (texts : List (List ℕ)) (n : ℕ) (text : List ℕ) (first : ℤ)
    → (n < length texts) × (text ≡ get_or texts n text) → length_in listed text ≡ Some first
    → with_more listed front (drop n texts) ≡ with_more listed (front ++ (first ∷ [])) (drop (n + 1) texts)
reads_more listed front texts n text first h is =
    let step = at_drop_more (with_more listed front) texts n text h.0 in
    let read = subst (λ t. length_in listed t ≡ Some first) h.1 is in
    step
    ∙ ap (λ l. option_map (λ others. front ++ others) (option_and_then (λ x. option_map (λ xs. x ∷ xs) (lengths_in listed (drop (n + 1) texts))) l)) read
    ∙ one_more front first (lengths_in listed (drop (n + 1) texts))

-- a part that is no length leaves none
pub reads_none : (listed : Bool) (front : List ℤ) (texts : List (List ℕ)) (n : ℕ) (text : List ℕ)
    → (n < length texts) × (text ≡ get_or texts n text) → length_in listed text ≡ None → with_more listed front (drop n texts) ≡ None
reads_none listed front texts n text h is =
    let read = subst (λ t. length_in listed t ≡ None) h.1 is in
    at_drop_more (with_more listed front) texts n text h.0
    ∙ ap (λ l. option_map (λ others. front ++ others) (option_and_then (λ x. option_map (λ xs. x ∷ xs) (lengths_in listed (drop (n + 1) texts))) l)) read

pub few : (lengths : List ℤ) → length lengths ≤ 4 → up_to_four lengths ≡ Some lengths
few lengths h = search (rules, h)

many : (lengths : List ℤ) → 4 < length lengths → up_to_four lengths ≡ None
many lengths h = search (rules, h)

five_or_none : (front : List ℤ) (first : Option ℤ) (others : Option (List ℤ)) → length front ≡ 4
    → option_and_then up_to_four (option_map (λ xs. front ++ xs) (option_and_then (λ x. option_map (λ xs. x ∷ xs) others) first)) ≡ None
five_or_none front None others h = refl
five_or_none front (Some first) None h = refl
five_or_none front (Some first) (Some others) h = many (front ++ (first ∷ others)) (omega (arith, length-append front (first ∷ others), h))

-- more than four lengths are too many
pub too_many : (listed : Bool) (front : List ℤ) (texts : List (List ℕ)) (n : ℕ) (text : List ℕ) → length front ≡ 4
    → (n < length texts) × (text ≡ get_or texts n text) → option_and_then up_to_four (with_more listed front (drop n texts)) ≡ None
too_many listed front texts n text four h =
    at_drop_more (λ xs. option_and_then up_to_four (with_more listed front xs)) texts n text h.0
    ∙ five_or_none front (length_in listed (get_or texts n text)) (lengths_in listed (drop (n + 1) texts)) four

-- no text is left
pub all_read : (listed : Bool) (front : List ℤ) (texts : List (List ℕ)) (n : ℕ) → length texts ≤ n → with_more listed front (drop n texts) ≡ Some front
all_read listed front texts n h = at_drop_all (with_more listed front) texts n h ∙ ap Some (append-nil front)
