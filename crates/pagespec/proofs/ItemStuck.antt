-- Where no item can be read on, with its page number or without.
use Rattle.std.proofs.Common.{inl, inr, ◌⊎◌, ◌≡◌, ◌≢◌, ℕ, List, [], ◌∷◌, ◌++◌, Bool, true, false, Option, Some, None, refl, sym, ap, subst, ◌∙◌, append_assoc, append-nil, length}
use Rattle.std.specs.Prelude.{◌==◌, if◌then◌else◌}
use Rattle.std.specs.Char.{is_ascii_digit}
use Rattle.std.specs.List.{AllPass}
use Rattle.rules.specs.Numbers.{number_of}
use Rattle.rules.specs.Specification.{Modifier, WrittenItem, IsItem, IsBareItem, minus_text}
use Rattle.lengths.specs.Reading.{digits, past_digits, is_empty}
use Rattle.lengths.proofs.Digits.{digits_whole, digits_pass, digits-append, past_digits-append}
use Rattle.lengths.proofs.Numbers.{some_same, taken}
use Rattle.pagespec.specs.Reading.{modifiers_at, is_minus_first, past_minus, item_with, item_from, item_at, bare_at, if_all_read}
use Rattle.pagespec.specs.Parsed.{ModifiersRead}
use Rattle.pagespec.specs.Places.{IsStuck, StuckIn, StuckAfter, ReadsBefore, AreSomeModifiers}
use Rattle.pagespec.specs.declared.parsed.Modifiers.{Modifiers}
use Rattle.pagespec.proofs.Items.{Unsigned, digits_unsigned, minus_taken, minus_whole}
use Rattle.pagespec.proofs.GroupLoops.{bare_empty, bare_stuck}
use Rattle.pagespec.proofs.ParsedItems.{no_item}
use Rattle.pagespec.proofs.NumberPlaces.{Alike, head_same, digits_alike, past_none}
use Rattle.pagespec.proofs.NumberStuck.{zero_digits}
use Rattle.pagespec.proofs.StuckPlaces.{stuck_behind, stuck_first}
use Rattle.pagespec.proofs.MeasureStuck.{IsSome, Nothing}
use Rattle.pagespec.proofs.ModifierStuck.{ModifiersStuck}

-- the minus of a text before another body, which begins with the same byte
abbrev SameMinus : List ℕ → List ℕ → Type 0
SameMinus t u = (is_minus_first (minus_text (is_minus_first t) ++ u) ≡ is_minus_first t) × (past_minus (minus_text (is_minus_first t) ++ u) ≡ u)

first_minus : (b : ℕ) (t u : List ℕ) → is_minus_first (b ∷ t) ≡ false → Unsigned (b ∷ u)
first_minus b t u e = let no : (b == 45) ≡ false = e in (no, rw no refl)

body_unsigned : (body u : List ℕ) → is_minus_first body ≡ false → Alike body u → Unsigned u
body_unsigned [] [] e l = (refl, refl)
body_unsigned [] (b ∷ u) e l = absurd (cc (l))
body_unsigned (a ∷ t) [] e l = absurd (cc (l))
body_unsigned (a ∷ t) (b ∷ u) e l = first_minus b u u (ap (λ x. x == 45) (sym (head_same a b l)) ∙ e)

minus_or : (from_end : Bool) (body u : List ℕ) → (from_end ≡ false → is_minus_first body ≡ false) → Alike body u → (is_minus_first (minus_text from_end ++ u) ≡ from_end) × (past_minus (minus_text from_end ++ u) ≡ u)
minus_or true body u e l = (refl, refl)
minus_or false body u e l = body_unsigned body u (e refl) l

no_minus_left : (t : List ℕ) → is_minus_first t ≡ false → is_minus_first (past_minus t) ≡ false
no_minus_left [] e = refl
no_minus_left (b ∷ t) e = rw e e

same_minus : (t u : List ℕ) → Alike (past_minus t) u → SameMinus t u
same_minus t u l = minus_or (is_minus_first t) (past_minus t) u (λ e. no_minus_left t e) l

item_read : (t u : List ℕ) → Alike (past_minus t) u → item_at (minus_text (is_minus_first t) ++ u) ≡ item_from (is_minus_first t) u
unfolding item_at
item_read t u l =
    let same = same_minus t u l in
    ap (λ x. item_from x (past_minus (minus_text (is_minus_first t) ++ u))) same.0 ∙ ap (item_from (is_minus_first t)) same.1

no_digits : (from_end : Bool) (u : List ℕ) → digits u ≡ [] → item_from from_end u ≡ None
no_digits from_end u e = ap (λ x. if is_empty x then None else Some (item_with from_end (number_of x) (modifiers_at (length (past_digits u)) (past_digits u)))) e

-- digits are missing
pub item_stuck : (t body : List ℕ) → body ≡ past_minus t → digits body ≡ [] → StuckIn IsItem item_at t (length body)
item_stuck t body b none = (
  no_item t body b none,
  subst (λ x. IsStuck (IsSome IsItem) (Nothing item_at) x (length body)) (ap (λ x. minus_text (is_minus_first t) ++ x) b ∙ sym (minus_whole t))
      (stuck_behind (λ x. x ≡ 48 ∷ []) (λ x. digits x ≡ []) (IsSome IsItem) (Nothing item_at) (minus_text (is_minus_first t)) body (length body)
      (λ x e. (
        [],
        (
          record { from_end = is_minus_first t; page = number_of (48 ∷ []); modifiers = [] },
          (48 ∷ [], [], ap (λ y. minus_text (is_minus_first t) ++ y) (append-nil x ∙ e) ∙ sym (append-nil (minus_text (is_minus_first t) ++ 48 ∷ [])), (zero_digits, (λ n. cc (n)), refl), refl),
        ),
      ))
      (λ u l e. item_read t u (subst (λ x. Alike x u) b l) ∙ no_digits (is_minus_first t) u e)
      (stuck_first (λ x. x ≡ 48 ∷ []) (λ x. digits x ≡ []) body (48 ∷ []) refl
      (λ x tail is after. (digits_alike (x ∷ tail) (x ∷ after) refl (ap digits (sym is) ∙ none)).0))),
)

signed_digits : (t ds u : List ℕ) → AllPass is_ascii_digit ds → ds ≢ [] → item_at (minus_text (is_minus_first t) ++ (ds ++ u)) ≡ item_from (is_minus_first t) (ds ++ u)
unfolding item_at
signed_digits t ds u pass some =
    let same = minus_taken (is_minus_first t) (ds ++ u) (digits_unsigned ds u pass some) in
    ap (λ x. item_from x (past_minus (minus_text (is_minus_first t) ++ (ds ++ u)))) same.0 ∙ ap (item_from (is_minus_first t)) same.1

-- after an item
pub item_ended : (t body behind rest : List ℕ) (left : ℕ) → body ≡ past_minus t → digits body ≢ [] → behind ≡ past_digits body → ModifiersStuck behind rest left → StuckAfter IsItem item_at t rest left
item_ended t body behind rest left b some past s =
    let m : List ℕ = minus_text (is_minus_first t) in
    let ds : List ℕ = digits body in
    let is_t : (m ++ ds) ++ behind ≡ t = append_assoc m ds behind ∙ (ap (λ x. m ++ (ds ++ x)) past ∙ (ap (λ x. m ++ x) (digits_whole body ∙ b) ∙ sym (minus_whole t))) in
    subst (λ x. StuckAfter IsItem item_at x rest left) is_t
    (stuck_behind (IsSome AreSomeModifiers) (λ x. ReadsBefore rest (Some (modifiers_at (length x) x))) (IsSome IsItem) (λ x. ReadsBefore rest (item_at x)) (m ++ ds) behind left
    (λ x (ms, (are, nonempty)). (
      [],
      (record { from_end = is_minus_first t; page = number_of ds; modifiers = ms }, (ds, x, ap (λ y. (m ++ ds) ++ y) (append-nil x), (digits_pass body, some, refl), are)),
    ))
    (λ u l (ms, after, e, begins).
    let none = digits_alike behind u l (ap digits past ∙ past_none body) in
    let first : digits (ds ++ u) ≡ ds = digits-append ds u (digits_pass body) ∙ (ap (λ x. ds ++ x) none.0 ∙ append-nil ds) in
    let behind_is : past_digits (ds ++ u) ≡ u = past_digits-append ds u (digits_pass body) ∙ none.1 in (
      record { from_end = is_minus_first t; page = number_of ds; modifiers = ms },
      after,
      ap item_at (append_assoc m ds u)
          ∙ (signed_digits t ds u (digits_pass body) some
          ∙ (taken (digits (ds ++ u)) _ (λ n. some (sym first ∙ n))
          ∙ (ap (λ x. Some (item_with (is_minus_first t) (number_of x) (modifiers_at (length (past_digits (ds ++ u))) (past_digits (ds ++ u))))) first
          ∙ (ap (λ x. Some (item_with (is_minus_first t) (number_of ds) (modifiers_at (length x) x))) behind_is
          ∙ ap (λ x. Some (item_with (is_minus_first t) (number_of ds) x)) (some_same _ _ e))))),
      begins,
    ))
    s)

bare_text : (t : List ℕ) → IsSome AreSomeModifiers t → (from_end : Bool) → (m : List ℕ) × IsSome IsBareItem (minus_text from_end ++ (t ++ m))
bare_text t (ms, (are, some)) from_end = (
  [],
  (record { from_end = from_end; page = 0; modifiers = ms }, (t, ap (λ y. minus_text from_end ++ y) (append-nil t), refl, not_empty from_end, are)),
)
  where
    not_empty : (b : Bool) → minus_text b ++ (t ++ []) ≢ []
    not_empty true e = cc (e)
    not_empty false e = some (sym (append-nil t) ∙ e)

bare_whole : {A : Type 0} (t : List ℕ) (o : Option A) → t ≡ [] ⊎ o ≡ None → (if is_empty t then None else o) ≡ None
bare_whole [] o h = refl
bare_whole (b ∷ t) o (inl e) = absurd (cc (e))
bare_whole (b ∷ t) o (inr e) = e

-- modifiers that end before the text does
bare_none : (t u : List ℕ) (ms : List Modifier) (after : List ℕ) → Alike (past_minus t) u → modifiers_at (length u) u ≡ (ms, after) → after ≢ [] → bare_at (minus_text (is_minus_first t) ++ u) ≡ None
unfolding bare_at
bare_none t u ms after l read more =
    let same = same_minus t u l in
    let x : List ℕ = minus_text (is_minus_first t) ++ u in
    bare_whole x _ (inr (ap (λ y. if_all_read (item_with (is_minus_first x) 0 (modifiers_at (length y) y))) same.1 ∙ (ap (λ y. if_all_read (item_with (is_minus_first x) 0 y)) read ∙ not_whole (item_with (is_minus_first x) 0 (ms, after)) more)))
  where
    not_whole : (y : WrittenItem × List ℕ) → y.1 ≢ [] → if_all_read y ≡ None
    not_whole (i, []) n = absurd (n refl)
    not_whole (i, b ∷ r) n = refl

pub bare_nothing : (t : List ℕ) → t ≡ [] → StuckIn IsBareItem bare_at t 0
bare_nothing t e = (
  bare_empty t e,
  subst (λ x. IsStuck (IsSome IsBareItem) (Nothing bare_at) x 0) (sym e)
      (stuck_first (IsSome IsBareItem) (Nothing bare_at) [] (45 ∷ []) (record { from_end = true; page = 0; modifiers = [] }, ([], refl, refl, (λ n. cc (n)), refl)) (λ b tail is after. absurd (cc (is)))),
)

pub bare_ended : (t body rest : List ℕ) (s : Modifiers) (left : ℕ) → body ≡ past_minus t → t ≢ [] → rest ≢ [] → ModifiersRead body s rest → ModifiersStuck body rest left → StuckIn IsBareItem bare_at t left
bare_ended t body rest parsed left b some more read s = (
  bare_stuck t body rest parsed b some read more,
  subst (λ x. IsStuck (IsSome IsBareItem) (Nothing bare_at) x left) (ap (λ x. minus_text (is_minus_first t) ++ x) b ∙ sym (minus_whole t))
      (stuck_behind (IsSome AreSomeModifiers) (λ x. ReadsBefore rest (Some (modifiers_at (length x) x))) (IsSome IsBareItem) (Nothing bare_at) (minus_text (is_minus_first t)) body left
      (λ x is. bare_text x is (is_minus_first t))
      (λ u l (ms, after, e, begins). bare_none t u ms after (subst (λ x. Alike x u) b l) (some_same _ _ e) (left_more rest after more begins))
      s),
)
  where
    left_more : (rest after : List ℕ) → rest ≢ [] → Alike rest after → after ≢ []
    left_more [] after n l = absurd (n refl)
    left_more (b ∷ rest) [] n l = absurd (cc (l))
    left_more (b ∷ rest) (a ∷ after) n l = λ e. cc (e)
