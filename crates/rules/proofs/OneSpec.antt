-- A text has the meaning of at most one specification: items, groups, the whole.
use Rattle.std.proofs.Common.{◌≡◌, ℕ, List, [], ◌∷◌, ◌++◌, Bool, true, false, ◌||◌, refl, sym, subst, true≢false, ◌∙◌, ap, append_assoc, append-nil, inl, inr}
use Rattle.std.specs.Prelude.{◌==◌}
use Rattle.std.specs.Char.{is_ascii_digit}
use Rattle.rules.specs.Numbers.{number_of}
use Rattle.rules.specs.Specification.{Modifier, WrittenItem, WrittenSpec, IsJoined, IsDigits, AreModifiers, minus_text, IsItem, IsBareItem, AreGroups}
use Rattle.rules.specs.Admissible.{OneReading}
use Rattle.rules.proofs.OneValue.{same_digits, same_tail, same_head, head_passes}
use Rattle.rules.proofs.OneNumber.{number_ends_digits}
use Rattle.rules.proofs.OneReading.{ends_item, modifiers_end, modifier_told, one_row}

abbrev item : Bool → ℕ → List Modifier → WrittenItem
item from_end page modifiers = record { from_end = from_end; page = page; modifiers = modifiers }

rw_item : (b b' : Bool) (p p' : ℕ) (ms ms' : List Modifier) → b ≡ b' → p ≡ p' → ms ≡ ms' → item b p ms ≡ item b' p' ms'
rw_item b b' p p' ms ms' e f g = rw e (rw f (rw g refl))

minus_is_no_digit : (x : ℕ) → is_ascii_digit x ≡ true → 45 ≡ x → ⊥
minus_is_no_digit x d e = true≢false (sym (subst (λ z. is_ascii_digit z ≡ true) (sym e) d))

-- there are digits, so the text doesn't begin with a minus
digits_no_minus : (digits r more : List ℕ) (n : ℕ) → IsDigits digits n → 45 ∷ more ≡ digits ++ r → ⊥
digits_no_minus [] r more n (all, some, value) e = some refl
digits_no_minus (x ∷ digits) r more n (all, some, value) e = minus_is_no_digit x (head_passes x digits all) (same_head 45 x more (digits ++ r) e)

pub record SameItem (b b' : Bool) (p p' : ℕ) (ms ms' : List Modifier) (r q : List ℕ) : Type 0 where
  pub sign : b ≡ b'
  pub page : p ≡ p'
  pub modifiers : ms ≡ ms'
  pub follower : r ≡ q

same_numbered : (b : Bool) (p p' : ℕ) (ms ms' : List Modifier) (r q d rest d' rest' : List ℕ) → IsDigits d p → AreModifiers rest ms → IsDigits d' p' → AreModifiers rest' ms'
    → ends_item r ≡ true → ends_item q ≡ true → d ++ (rest ++ r) ≡ d' ++ (rest' ++ q) → SameItem b b p p' ms ms' r q
same_numbered b p p' ms ms' r q d rest d' rest' (all, some, value) g (all', some', value') g' er eq e =
    let h = same_digits d d' (rest ++ r) (rest' ++ q) all all' (number_ends_digits (rest ++ r) (modifiers_end rest r ms g er)) (number_ends_digits (rest' ++ q) (modifiers_end rest' q ms' g' eq)) e in
    let k = one_row rest rest' r q ms ms' g g' er eq h.1 in
    record { sign = refl; page = value ∙ (ap number_of h.0 ∙ sym value'); modifiers = k.0; follower = k.1 }

same_signed : (b b' : Bool) (p p' : ℕ) (ms ms' : List Modifier) (r q d rest d' rest' : List ℕ) → IsDigits d p → AreModifiers rest ms → IsDigits d' p' → AreModifiers rest' ms'
    → ends_item r ≡ true → ends_item q ≡ true → minus_text b ++ (d ++ (rest ++ r)) ≡ minus_text b' ++ (d' ++ (rest' ++ q)) → SameItem b b' p p' ms ms' r q
same_signed true true p p' ms ms' r q d rest d' rest' n g n' g' er eq e = same_numbered true p p' ms ms' r q d rest d' rest' n g n' g' er eq (same_tail 45 45 _ _ e)
same_signed false false p p' ms ms' r q d rest d' rest' n g n' g' er eq e = same_numbered false p p' ms ms' r q d rest d' rest' n g n' g' er eq e
same_signed true false p p' ms ms' r q d rest d' rest' n g n' g' er eq e = absurd (digits_no_minus d' (rest' ++ q) _ p' n' e)
same_signed false true p p' ms ms' r q d rest d' rest' n g n' g' er eq e = absurd (digits_no_minus d (rest ++ r) _ p n (sym e))

regroup : (t s w p r : List ℕ) → t ≡ s ++ w ++ p → t ++ r ≡ s ++ (w ++ (p ++ r))
regroup t s w p r e = rw e (append_assoc (s ++ w) p r ∙ append_assoc s w (p ++ r))

-- the relation and what follows determine the meaning of a text, and where it ends
abbrev pub Decides : {X : Type 0} → (List ℕ → X → Type 0) → (List ℕ → Bool) → Type 0
Decides {X} R ends = (t u r q : List ℕ) (x y : X) → R t x → R u y → ends r ≡ true → ends q ≡ true → t ++ r ≡ u ++ q → (x ≡ y) × (r ≡ q)

one_item : Decides IsItem ends_item
one_item t u r q i j (d, rest, e, n, g) (d', rest', e', n', g') er eq f =
    let s = same_signed i.from_end j.from_end i.page j.page i.modifiers j.modifiers r q d rest d' rest' n g n' g' er eq
    (sym (regroup t (minus_text i.from_end) d rest r e) ∙ (f ∙ regroup u (minus_text j.from_end) d' rest' q e')) in
    (rw_item i.from_end j.from_end i.page j.page i.modifiers j.modifiers s.sign s.page s.modifiers, s.follower)

cons_cons : {X : Type 0} (x y : X) (xs ys : List X) → x ≡ y → xs ≡ ys → x ∷ xs ≡ y ∷ ys
cons_cons x y xs ys e f = rw e (rw f refl)

no_end : (c : ℕ) (outer : List ℕ → Bool) (r more : List ℕ) → ((xs : List ℕ) → outer (c ∷ xs) ≡ false) → outer r ≡ true → r ≡ c ∷ more → ⊥
no_end c outer r more h e f = true≢false (sym (subst (λ z. outer z ≡ true) f e) ∙ h more)

joined_same : {X : Type 0} (c : ℕ) (R : List ℕ → X → Type 0) (inner outer : List ℕ → Bool) → Decides R inner → ((xs : List ℕ) → inner (c ∷ xs) ≡ true)
    → ((r : List ℕ) → outer r ≡ true → inner r ≡ true) → ((xs : List ℕ) → outer (c ∷ xs) ≡ false)
    → (xs ys : List X) (t u r q : List ℕ) → IsJoined c R t xs → IsJoined c R u ys → outer r ≡ true → outer q ≡ true → t ++ r ≡ u ++ q → (xs ≡ ys) × (r ≡ q)
joined_same c R inner outer one hi ho hc [] ys t u r q h g er eq e = absurd h
joined_same c R inner outer one hi ho hc (x ∷ []) [] t u r q h g er eq e = absurd g
joined_same c R inner outer one hi ho hc (x ∷ x' ∷ xs) [] t u r q h g er eq e = absurd g
joined_same c R inner outer one hi ho hc (x ∷ []) (y ∷ []) t u r q h g er eq e =
    let o = one t u r q x y h g (ho r er) (ho q eq) e in
    (cons_cons x y [] [] o.0 refl, o.1)
joined_same c R inner outer one hi ho hc (x ∷ []) (y ∷ y' ∷ ys) t u r q h (front, rest, f, k, m) er eq e =
    let o = one t front r (c ∷ (rest ++ q)) x y h k (ho r er) (hi (rest ++ q)) (e ∙ (ap (λ z. z ++ q) f ∙ append_assoc front (c ∷ rest) q)) in
    absurd (no_end c outer r (rest ++ q) hc er o.1)
joined_same c R inner outer one hi ho hc (x ∷ x' ∷ xs) (y ∷ []) t u r q (front, rest, f, k, m) h er eq e =
    let o = one front u (c ∷ (rest ++ r)) q x y k h (hi (rest ++ r)) (ho q eq) (sym (ap (λ z. z ++ r) f ∙ append_assoc front (c ∷ rest) r) ∙ e) in
    absurd (no_end c outer q (rest ++ r) hc eq (sym o.1))
joined_same c R inner outer one hi ho hc (x ∷ x' ∷ xs) (y ∷ y' ∷ ys) t u r q (front, rest, f, k, m) (front', rest', f', k', m') er eq e =
    let o = one front front' (c ∷ (rest ++ r)) (c ∷ (rest' ++ q)) x y k k' (hi (rest ++ r)) (hi (rest' ++ q))
    (sym (ap (λ z. z ++ r) f ∙ append_assoc front (c ∷ rest) r) ∙ (e ∙ (ap (λ z. z ++ q) f' ∙ append_assoc front' (c ∷ rest') q))) in
    let n = joined_same c R inner outer one hi ho hc (x' ∷ xs) (y' ∷ ys) rest rest' r q m m' er eq (same_tail c c (rest ++ r) (rest' ++ q) o.1) in
    (cons_cons x y (x' ∷ xs) (y' ∷ ys) o.0 n.0, n.1)

abbrev ends_group : List ℕ → Bool
ends_group [] = true
ends_group (b ∷ bs) = b == 44

abbrev ends_text : List ℕ → Bool
ends_text [] = true
ends_text (b ∷ bs) = false

or_second : (a b : Bool) → b ≡ true → a || b ≡ true
or_second true b e = refl
or_second false b e = e

group_ends_item : (r : List ℕ) → ends_group r ≡ true → ends_item r ≡ true
group_ends_item [] e = refl
group_ends_item (b ∷ r) e = or_second (b == 43) (b == 44) e

text_ends_group : (r : List ℕ) → ends_text r ≡ true → ends_group r ≡ true
text_ends_group [] e = refl
text_ends_group (b ∷ r) e = absurd (true≢false (sym e))

one_group : Decides (IsJoined 43 IsItem) ends_group
one_group t u r q xs ys h g er eq e = joined_same 43 IsItem ends_item ends_group one_item (λ xs. refl) group_ends_item (λ xs. refl) xs ys t u r q h g er eq e

one_row_of_groups : Decides (IsJoined 44 (IsJoined 43 IsItem)) ends_text
one_row_of_groups t u r q xs ys h g er eq e = joined_same 44 (IsJoined 43 IsItem) ends_group ends_text one_group (λ xs. refl) text_ends_group (λ xs. refl) xs ys t u r q h g er eq e

-- the first byte of modifiers is a modifier's
pub record FirstTold (x : ℕ) : Type 0 where
  pub no_digit : is_ascii_digit x ≡ false
  pub no_minus : (x == 45) ≡ false
  pub no_colon : (x == 58) ≡ false

first_told : (x : ℕ) (more : List ℕ) (ms : List Modifier) → AreModifiers (x ∷ more) ms → FirstTold x
first_told x more [] e = cc
first_told x more (m ∷ ms) (front, rest, e, h, g) =
    let a = modifier_told front m h in
    let f = same_head a.first x (a.more ++ rest) more (sym (e ∙ ap (λ z. z ++ rest) a.parts)) in
    record { no_digit = subst (λ z. is_ascii_digit z ≡ false) f a.no_digit; no_minus = subst (λ z. (z == 45) ≡ false) f a.no_minus; no_colon = subst (λ z. (z == 58) ≡ false) f a.no_colon }

-- a text that begins with an item, followed by nothing or a separator
pub record BeginsWithItem (text : List ℕ) : Type 0 where
  pub from_end : Bool
  pub page : ℕ
  pub modifiers : List Modifier
  pub digits : List ℕ
  pub rest : List ℕ
  pub tail : List ℕ
  pub parts : text ≡ minus_text from_end ++ (digits ++ (rest ++ tail))
  pub number : IsDigits digits page
  pub behind : AreModifiers rest modifiers
  pub ends : ends_item tail ≡ true

item_front : (t text tail : List ℕ) (i : WrittenItem) → IsItem t i → text ≡ t ++ tail → ends_item tail ≡ true → BeginsWithItem text
item_front t text tail i (d, rest, e, n, g) f u =
    record { from_end = i.from_end; page = i.page; modifiers = i.modifiers; digits = d; rest = rest; tail = tail; parts = f ∙ regroup t (minus_text i.from_end) d rest tail e; number = n; behind = g; ends = u }

group_front : (t text tail : List ℕ) (g : List WrittenItem) → IsJoined 43 IsItem t g → text ≡ t ++ tail → ends_item tail ≡ true → BeginsWithItem text
group_front t text tail [] h f u = absurd h
group_front t text tail (i ∷ []) h f u = item_front t text tail i h f u
group_front t text tail (i ∷ k ∷ g) (front, rest, e, h, m) f u =
    item_front front text (43 ∷ (rest ++ tail)) i h (f ∙ (ap (λ z. z ++ tail) e ∙ append_assoc front (43 ∷ rest) tail)) refl

pub groups_front : (text : List ℕ) (gs : List (List WrittenItem)) → IsJoined 44 (IsJoined 43 IsItem) text gs → BeginsWithItem text
groups_front text [] h = absurd h
groups_front text (g ∷ []) h = group_front text text [] g h (sym (append-nil text)) refl
groups_front text (g ∷ k ∷ gs) (front, rest, e, h, m) = group_front front text (44 ∷ rest) g h e refl

clash : (b : Bool) → b ≡ true → b ≡ false → ⊥
clash b e f = true≢false (sym e ∙ f)

-- a text with a number isn't modifiers alone
numbered_no_row : (d more t : List ℕ) (n : ℕ) (ms : List Modifier) → IsDigits d n → AreModifiers t ms → t ≡ d ++ more → ⊥
numbered_no_row [] more t n ms (all, some, value) g e = some refl
numbered_no_row (x ∷ d) more t n ms (all, some, value) g e =
    clash (is_ascii_digit x) (head_passes x d all) (first_told x (d ++ more) ms (subst (λ z. AreModifiers z ms) e g)).no_digit

-- modifiers don't begin with a minus
minus_no_row : (more t : List ℕ) (ms : List Modifier) → AreModifiers t ms → t ≡ 45 ∷ more → ⊥
minus_no_row more t ms g e = true≢false ((first_told 45 more ms (subst (λ z. AreModifiers z ms) e g)).no_minus)

bare_no_number : (text : List ℕ) (b b' : Bool) (n : ℕ) (d more rest : List ℕ) (ms : List Modifier) → IsDigits d n → AreModifiers rest ms
    → text ≡ minus_text b ++ (d ++ more) → text ≡ minus_text b' ++ rest → ⊥
bare_no_number text true true n d more rest ms k g e f = numbered_no_row d more rest n ms k g (same_tail 45 45 rest (d ++ more) (sym f ∙ e))
bare_no_number text false false n d more rest ms k g e f = numbered_no_row d more rest n ms k g (sym f ∙ e)
bare_no_number text true false n d more rest ms k g e f = minus_no_row (d ++ more) rest ms g (sym f ∙ e)
bare_no_number text false true n d more rest ms k g e f = digits_no_minus d more rest n k (sym f ∙ e)

bare_no_groups : (text : List ℕ) (gs : List (List WrittenItem)) (i : WrittenItem) → IsJoined 44 (IsJoined 43 IsItem) text gs → IsBareItem text i → ⊥
bare_no_groups text gs i h (rest, e, p, some, g) =
    let a = groups_front text gs h in
    bare_no_number text a.from_end i.from_end a.page a.digits (a.rest ++ a.tail) rest i.modifiers a.number g a.parts e

same_bare : (text : List ℕ) (b b' : Bool) (rest rest' : List ℕ) (ms ms' : List Modifier) → AreModifiers rest ms → AreModifiers rest' ms' → text ≡ minus_text b ++ rest → text ≡ minus_text b' ++ rest' → (b ≡ b') × (ms ≡ ms')
same_bare text true true rest rest' ms ms' g g' e f =
    (refl, (one_row rest rest' [] [] ms ms' g g' refl refl (ap (λ z. z ++ []) (same_tail 45 45 rest rest' (sym e ∙ f)))).0)
same_bare text false false rest rest' ms ms' g g' e f = (refl, (one_row rest rest' [] [] ms ms' g g' refl refl (ap (λ z. z ++ []) (sym e ∙ f))).0)
same_bare text true false rest rest' ms ms' g g' e f = absurd (minus_no_row rest rest' ms' g' (sym f ∙ e))
same_bare text false true rest rest' ms ms' g g' e f = absurd (minus_no_row rest' rest ms g (sym e ∙ f))

one_bare : (text : List ℕ) (i j : WrittenItem) → IsBareItem text i → IsBareItem text j → i ≡ j
one_bare text i j (rest, e, p, some, g) (rest', e', p', some', g') =
    let s = same_bare text i.from_end j.from_end rest rest' i.modifiers j.modifiers g g' e e' in
    rw_item i.from_end j.from_end i.page j.page i.modifiers j.modifiers s.0 (p ∙ sym p') s.1

one_groups : (text : List ℕ) (gs hs : List (List WrittenItem)) → AreGroups text gs → AreGroups text hs → gs ≡ hs
one_groups text gs hs (inl h) (inl g) = (one_row_of_groups text text [] [] gs hs h g refl refl refl).0
one_groups text gs hs (inl h) (inr (j, f, g)) = absurd (bare_no_groups text gs j h g)
one_groups text gs hs (inr (i, e, h)) (inl g) = absurd (bare_no_groups text hs i g h)
one_groups text gs hs (inr (i, e, h)) (inr (j, f, g)) = e ∙ (ap (λ z. (z ∷ []) ∷ []) (one_bare text i j h g) ∙ sym f)

-- no colon follows an item's number
colon_behind : (rest tail more : List ℕ) (ms : List Modifier) → AreModifiers rest ms → ends_item tail ≡ true → rest ++ tail ≡ 58 ∷ more → ⊥
colon_behind [] tail more ms g u e = true≢false (sym (subst (λ z. ends_item z ≡ true) e u))
colon_behind (x ∷ rest) tail more ms g u e =
    true≢false (subst (λ z. (z == 58) ≡ false) (same_head x 58 (rest ++ tail) more e) (first_told x rest ms g).no_colon)

colon_ahead : (text : List ℕ) (b : Bool) (n m : ℕ) (d rest tail d' more : List ℕ) (ms : List Modifier) → IsDigits d n → AreModifiers rest ms → ends_item tail ≡ true → IsDigits d' m
    → text ≡ minus_text b ++ (d ++ (rest ++ tail)) → text ≡ d' ++ (58 ∷ more) → ⊥
colon_ahead text true n m d rest tail d' more ms k g u k' e f = digits_no_minus d' (58 ∷ more) (d ++ (rest ++ tail)) m k' (sym e ∙ f)
colon_ahead text false n m d rest tail d' more ms (all, some, value) g u (all', some', value') e f =
    colon_behind rest tail more ms g u
    (same_digits d d' (rest ++ tail) (58 ∷ more) all all' (number_ends_digits (rest ++ tail) (modifiers_end rest tail ms g u)) refl (sym e ∙ f)).1

no_colon_bare : (text : List ℕ) (b : Bool) (m : ℕ) (rest d' more : List ℕ) (ms : List Modifier) → AreModifiers rest ms → IsDigits d' m → text ≡ minus_text b ++ rest → text ≡ d' ++ more → ⊥
no_colon_bare text true m rest d' more ms g k e f = digits_no_minus d' more rest m k (sym e ∙ f)
no_colon_bare text false m rest d' more ms g k e f = numbered_no_row d' more rest m ms k g (sym e ∙ f)

-- a text with a modulo isn't one without
pub no_modulo_apart : (text digits rest : List ℕ) (m : ℕ) (gs : List (List WrittenItem)) → AreGroups text gs → IsDigits digits m → text ≡ digits ++ (58 ∷ rest) → ⊥
no_modulo_apart text digits rest m gs (inl h) k e =
    let a = groups_front text gs h in
    colon_ahead text a.from_end a.page m a.digits a.rest a.tail digits rest a.modifiers a.number a.behind a.ends k a.parts e
no_modulo_apart text digits rest m gs (inr (i, f, (row, p, z, some, g))) k e = no_colon_bare text i.from_end m row digits (58 ∷ rest) i.modifiers g k p e

abbrev spec : ℕ → List (List WrittenItem) → WrittenSpec
spec modulo groups = record { modulo = modulo; groups = groups }

rw_spec : (m n : ℕ) (gs hs : List (List WrittenItem)) → m ≡ n → gs ≡ hs → spec m gs ≡ spec n hs
rw_spec m n gs hs e f = rw e (rw f refl)

-- a text has the meaning of at most one specification
pub one_reading : OneReading
one_reading text a b (inl (m, h)) (inl (n, g)) = rw_spec a.modulo b.modulo a.groups b.groups (m ∙ sym n) (one_groups text a.groups b.groups h g)
one_reading text a b (inl (m, h)) (inr (d, rest, e, n, g)) = absurd (no_modulo_apart text d rest b.modulo a.groups h n e)
one_reading text a b (inr (d, rest, e, n, g)) (inl (m, h)) = absurd (no_modulo_apart text d rest a.modulo b.groups h n e)
one_reading text a b (inr (d, rest, e, (all, some, value), g)) (inr (d', rest', e', (all', some', value'), g')) =
    let s = same_digits d d' (58 ∷ rest) (58 ∷ rest') all all' refl refl (sym e ∙ e') in
    rw_spec a.modulo b.modulo a.groups b.groups (value ∙ (ap number_of s.0 ∙ sym value'))
    (one_groups rest a.groups b.groups g (subst (λ z. AreGroups z b.groups) (sym (same_tail 58 58 rest rest' s.1)) g'))
