-- The first fault of what the code parsed, compared with the first fault of the tree.
use Rattle.std.proofs.Common.{◌≡◌, ℕ, List, [], ◌∷◌, Bool, true, false, Option, Some, None, refl, ap, ◌∙◌, suc, ◌+◌, length, cond}
use Rattle.std.specs.Prelude.{position, ◌||◌, nat_lt, not}
use Rattle.std.specs.Prelude.{◌==◌, nat_le, map}
use Rattle.std.proofs.Common.{arith, min}
use Rattle.std.proofs.lemmas.List.{length-map}
use Rattle.std.proofs.lemmas.Grind.{common_steps}
use Rattle.std.specs.List.{AllZip, list_any, position_or_len, prefix_len}
use Rattle.std.specs.Prelude.{option_map}
use Rattle.std.specs.Option.{option_or}
use Rattle.rules.specs.Specification.{WrittenItem, WrittenSpec}
use Rattle.rules.specs.Admissible.{items, has_large, is_flat, Fault, fault_of, else_first, only_if, at_lowest, TooLarge, ModuloZero, PageOutOfBlock, ScaleZero, Repeated, TooManySlots, TooManyGroups, most_slots, most_groups}
use Rattle.pagespec.specs.Parsed.{is_repeated, ItemShows}
use Rattle.pagespec.specs.Groups.{AreParsed}
use Rattle.pagespec.specs.Faults.{fault_named, first_fault_of, has_too_large, fault_if}
use Rattle.pagespec.specs.declared.parsed.ParsedItem.{ParsedItem}
use Rattle.pagespec.specs.declared.error.SpecError.{SpecError}
use Rattle.pagespec.specs.declared.error.SpecError.TheVariants as error

first_zip : {X Y : Type 0} (R : X → Y → Type 0) (p : X → Bool) (q : Y → Bool) → ((x : X) (y : Y) → R x y → p x ≡ q y) → (xs : List X) (ys : List Y) → AllZip R xs ys → (position_or_len p xs ≡ position_or_len q ys) × (length xs ≡ length ys)
first_zip R p q same [] [] h = (refl, refl)
first_zip R p q same [] (y ∷ ys) h = absurd h
first_zip R p q same (x ∷ xs) [] h = absurd h
first_zip R p q same (x ∷ xs) (y ∷ ys) h =
    let rest = first_zip R p q same xs ys h.1 in
    (ap (λ b. cond (not b) (1 + prefix_len (λ z. not (p z)) xs) 0) (same x y h.0) ∙ ap (λ n. cond (not (q y)) (1 + n) 0) rest.0, ap suc rest.1)

-- in two rows that correspond entry by entry, a test passes first at the same place
pub position_zip : {X Y : Type 0} (R : X → Y → Type 0) (p : X → Bool) (q : Y → Bool) → ((x : X) (y : Y) → R x y → p x ≡ q y) → (xs : List X) (ys : List Y) → AllZip R xs ys → position p xs ≡ position q ys
position_zip R p q same xs ys h =
    let z = first_zip R p q same xs ys h in
    ap (λ n. cond (nat_lt n (length xs)) (Some n) None) z.0 ∙ ap (λ n. cond (nat_lt (position_or_len q ys) n) (Some (position_or_len q ys)) None) z.1

pub any_zip : {X Y : Type 0} (R : X → Y → Type 0) (p : X → Bool) (q : Y → Bool) → ((x : X) (y : Y) → R x y → p x ≡ q y) → (xs : List X) (ys : List Y) → AllZip R xs ys → list_any p xs ≡ list_any q ys
any_zip R p q same [] [] h = refl
any_zip R p q same [] (y ∷ ys) h = absurd h
any_zip R p q same (x ∷ xs) [] h = absurd h
any_zip R p q same (x ∷ xs) (y ∷ ys) h = ap (λ b. b || list_any p xs) (same x y h.0) ∙ ap (λ b. q y || b) (any_zip R p q same xs ys h.1)

-- an item whose numbers are all small enough, as it was parsed
pub record Small (l : ParsedItem) (i : WrittenItem) : Type 0 where
  pub shows : ItemShows i l
  pub page : l.page ≡ i.page
  pub large : l.modifiers.too_large ≡ false

capped_test : (n m : ℕ) → n ≡ min 100_000 m → nat_lt 99_999 n ≡ nat_lt 99_999 m
capped_test n m e = grind (arith, common_steps)

pub capped_small : (n m : ℕ) → n ≡ min 100_000 m → nat_lt 99_999 m ≡ false → n ≡ m
capped_small n m e h = grind (arith, common_steps)

pub neither : (a b : Bool) → (a || b) ≡ false → (a ≡ false) × (b ≡ false)
neither true b e = absurd (cc (e))
neither false b e = (refl, e)

large_same : (l : ParsedItem) (i : WrittenItem) → ItemShows i l → (nat_lt 99_999 l.page || l.modifiers.too_large) ≡ (nat_lt 99_999 i.page || list_any has_large i.modifiers)
large_same l i s = ap (λ b. b || l.modifiers.too_large) (capped_test l.page i.page s.page) ∙ ap (λ b. nat_lt 99_999 i.page || b) s.modifiers.large

small_item : (l : ParsedItem) (i : WrittenItem) → ItemShows i l → (nat_lt 99_999 i.page || list_any has_large i.modifiers) ≡ false → Small l i
small_item l i s e =
    let h = neither (nat_lt 99_999 i.page) (list_any has_large i.modifiers) e in
    record { shows = s; page = capped_small l.page i.page s.page h.0; large = s.modifiers.large ∙ h.1 }

pub small_items : (ls : List ParsedItem) (is : List WrittenItem) → AllZip (λ l i. ItemShows i l) ls is → list_any (λ i. nat_lt 99_999 i.page || list_any has_large i.modifiers) is ≡ false → AllZip Small ls is
small_items [] [] h e = tt
small_items [] (i ∷ is) h e = absurd h
small_items (l ∷ ls) [] h e = absurd h
small_items (l ∷ ls) (i ∷ is) h e =
    let n = neither (nat_lt 99_999 i.page || list_any has_large i.modifiers) (list_any (λ i. nat_lt 99_999 i.page || list_any has_large i.modifiers) is) e in
    (small_item l i h.0 n.0, small_items ls is h.1 n.1)

-- the lengths of groups have the first long one at the place of the first long group
position-map : {X : Type 0} (f : X → ℕ) (p : ℕ → Bool) (xs : List X) → AllZip (λ n x. n ≡ f x) (map f xs) xs
position-map f p [] = tt
position-map f p (x ∷ xs) = (refl, position-map f p xs)

-- the checks that come after the first
abbrev found : ℕ → (pages zeros again long : Option ℕ) → ℕ → Option Fault
found modulo pages zeros again long groups =
    else_first (only_if (modulo == 0) ModuloZero)
    (else_first (at_lowest pages PageOutOfBlock)
    (else_first (at_lowest zeros ScaleZero)
    (else_first (at_lowest again Repeated)
    (else_first (at_lowest long TooManySlots)
    (only_if (nat_lt most_groups groups) TooManyGroups)))))

found_same : (m m' : ℕ) (p p' z z' a a' l l' : Option ℕ) (g g' : ℕ) → m ≡ m' → p ≡ p' → z ≡ z' → a ≡ a' → l ≡ l' → g ≡ g' → found m p z a l g ≡ found m' p' z' a' l' g'
found_same m m' p p' z z' a a' l l' g g' em ep ez ea el eg =
    ap (λ x. found x p z a l g) em ∙ (ap (λ x. found m' x z a l g) ep ∙ (ap (λ x. found m' p' x a l g) ez ∙ (ap (λ x. found m' p' z' x l g) ea ∙ (ap (λ x. found m' p' z' a' x g) el ∙ ap (λ x. found m' p' z' a' l' x) eg))))

-- the same checks on what was parsed
abbrev parsed_fault : ℕ → List ParsedItem → List ℕ → Option Fault
parsed_fault modulo ls lengths =
    else_first (only_if (has_too_large modulo ls) TooLarge)
    (found modulo (position (λ i. nat_le modulo i.page) ls) (position (λ i. i.modifiers.scale_zero) ls) (position (λ i. i.modifiers.repeated) ls) (position (λ n. nat_lt most_slots n) lengths) (length lengths))

-- what the code finds in its parsed items is the first fault of the tree
parsed_is_fault : (tree : WrittenSpec) (modulo : ℕ) (ls : List ParsedItem) → AllZip (λ l i. ItemShows i l) ls (items tree) → modulo ≡ min 100_000 tree.modulo
    → parsed_fault modulo ls (map length tree.groups) ≡ fault_of most_slots tree
parsed_is_fault tree modulo ls zip m =
    let first : has_too_large modulo ls ≡ (nat_lt 99_999 tree.modulo || list_any (λ i. nat_lt 99_999 i.page || list_any has_large i.modifiers) (items tree)) =
    ap (λ b. b || list_any (λ i. nat_lt 99_999 i.page || i.modifiers.too_large) ls) (capped_test modulo tree.modulo m)
    ∙ ap (λ b. nat_lt 99_999 tree.modulo || b) (any_zip (λ l i. ItemShows i l) (λ l. nat_lt 99_999 l.page || l.modifiers.too_large) (λ i. nat_lt 99_999 i.page || list_any has_large i.modifiers) large_same ls (items tree) zip) in
    ap (λ b. else_first (only_if b TooLarge) (found modulo (position (λ i. nat_le modulo i.page) ls) (position (λ i. i.modifiers.scale_zero) ls) (position (λ i. i.modifiers.repeated) ls) (position (λ n. nat_lt most_slots n) (map length tree.groups)) (length (map length tree.groups)))) first ∙ by_first _ refl
  where
    by_first : (b : Bool) → (nat_lt 99_999 tree.modulo || list_any (λ i. nat_lt 99_999 i.page || list_any has_large i.modifiers) (items tree)) ≡ b
        → else_first (only_if (nat_lt 99_999 tree.modulo || list_any (λ i. nat_lt 99_999 i.page || list_any has_large i.modifiers) (items tree)) TooLarge) (found modulo (position (λ i. nat_le modulo i.page) ls) (position (λ i. i.modifiers.scale_zero) ls) (position (λ i. i.modifiers.repeated) ls) (position (λ n. nat_lt most_slots n) (map length tree.groups)) (length (map length tree.groups))) ≡ fault_of most_slots tree
    by_first true e = rw e refl
    by_first false e =
        let n = neither _ _ e in
        let z : AllZip Small ls (items tree) = small_items ls (items tree) zip n.1 in
        let mm : modulo ≡ tree.modulo = capped_small modulo tree.modulo m n.0 in
        let pages = position_zip Small (λ l. nat_le tree.modulo l.page) (λ i. nat_le tree.modulo i.page) (λ l i s. ap (nat_le tree.modulo) s.page) ls (items tree) z in
        let zeros = position_zip Small (λ l. l.modifiers.scale_zero) (λ i. list_any is_flat i.modifiers) (λ l i s. (s.shows.modifiers.known s.large).scale_zero) ls (items tree) z in
        let again = position_zip Small (λ l. l.modifiers.repeated) (λ i. is_repeated i.modifiers) (λ l i s. (s.shows.modifiers.known s.large).repeated) ls (items tree) z in
        let long = position_zip (λ n g. n ≡ length g) (λ n. nat_lt most_slots n) (λ g. nat_lt most_slots (length g)) (λ n g e. ap (nat_lt most_slots) e) (map length tree.groups) tree.groups (position-map length (λ n. nat_lt most_slots n) tree.groups) in
        ap (λ r. else_first (only_if (nat_lt 99_999 tree.modulo || list_any (λ i. nat_lt 99_999 i.page || list_any has_large i.modifiers) (items tree)) TooLarge) r)
        (found_same _ _ _ _ _ _ _ _ _ _ _ _ mm (ap (λ k. position (λ (i : ParsedItem). nat_le k i.page) ls) mm ∙ pages) zeros again long (length-map tree.groups length))

-- a refusal with this fault, or neither
abbrev IsTold : Option SpecError → Option Fault → Type 0
IsTold o f = option_map fault_named o ≡ option_map (λ x. Some x) f

told_or : (a b : Option SpecError) (x y : Option Fault) → IsTold a x → IsTold b y → IsTold (option_or a b) (else_first x y)
told_or None b None y h g = g
told_or (Some e) b (Some f) y h g = h
told_or None b (Some f) y h g = absurd (cc (h))
told_or (Some e) b None y h g = absurd (cc (h))

told_where : (b : Bool) (e : SpecError) (f : Fault) → fault_named e ≡ Some f → IsTold (fault_if b e) (only_if b f)
told_where true e f h = ap (λ x. Some x) h
told_where false e f h = refl

told_place : (o : Option ℕ) (named : ℕ → SpecError) (fault : ℕ → Fault) → ((i : ℕ) → fault_named (named i) ≡ Some (fault i)) → IsTold (option_map named o) (at_lowest o fault)
told_place None named fault h = refl
told_place (Some i) named fault h = ap (λ x. Some x) (h i)

told_first : (modulo : ℕ) (ls : List ParsedItem) (lengths : List ℕ) → IsTold (first_fault_of modulo ls lengths) (parsed_fault modulo ls lengths)
told_first modulo ls lengths =
    told_or _ _ _ _ (told_where (has_too_large modulo ls) error.TooLarge TooLarge refl)
    (told_or _ _ _ _ (told_where (modulo == 0) error.ModuloZero ModuloZero refl)
    (told_or _ _ _ _ (told_place (position (λ i. nat_le modulo i.page) ls) error.PageOutOfBlock PageOutOfBlock (λ i. refl))
    (told_or _ _ _ _ (told_place (position (λ i. i.modifiers.scale_zero) ls) error.ScaleZero ScaleZero (λ i. refl))
    (told_or _ _ _ _ (told_place (position (λ i. i.modifiers.repeated) ls) error.Repeated Repeated (λ i. refl))
    (told_or _ _ _ _ (told_place (position (λ n. nat_lt most_slots n) lengths) error.TooManySlots TooManySlots (λ i. refl))
    (told_where (nat_lt most_groups (length lengths)) error.TooManyGroups TooManyGroups refl))))))

-- the code reports the first fault of the text's meaning
pub told_fault : (spec : WrittenSpec) (modulo : ℕ) (ls : List ParsedItem) (lengths : List ℕ) → AreParsed ls (items spec) → lengths ≡ map length spec.groups → modulo ≡ min 100_000 spec.modulo
    → option_map fault_named (first_fault_of modulo ls lengths) ≡ option_map (λ x. Some x) (fault_of most_slots spec)
told_fault spec modulo ls lengths zip e m =
    told_first modulo ls lengths ∙ ap (option_map (λ x. Some x)) (ap (λ n. parsed_fault modulo ls n) e ∙ parsed_is_fault spec modulo ls zip m)

large_told : (b : Bool) (later : Option Fault) → b ≡ true → else_first (only_if b TooLarge) later ≡ None → ⊥
large_told true later h e = cc
large_told false later h e = cc

-- no fault was reported: the items are as they were parsed, with no number too large
pub no_fault : (spec : WrittenSpec) → fault_of most_slots spec ≡ None → (nat_lt 99_999 spec.modulo || list_any (λ i. nat_lt 99_999 i.page || list_any has_large i.modifiers) (items spec)) ≡ false
no_fault spec e = by_first _ refl
  where
    by_first : (b : Bool) → (nat_lt 99_999 spec.modulo || list_any (λ i. nat_lt 99_999 i.page || list_any has_large i.modifiers) (items spec)) ≡ b
        → (nat_lt 99_999 spec.modulo || list_any (λ i. nat_lt 99_999 i.page || list_any has_large i.modifiers) (items spec)) ≡ false
    by_first true h = absurd (large_told _ _ h e)
    by_first false h = h
