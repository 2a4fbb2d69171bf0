-- Where no modifier can be read on.
use Rattle.std.proofs.Common.{inl, arith, ◌≡◌, ◌≢◌, ℕ, zero, suc, ◌<◌, ◌≤◌, List, [], ◌∷◌, ◌++◌, Option, Some, None, refl, sym, ap, subst, ◌∙◌, append_assoc, append-nil, length}
use Rattle.std.specs.Prelude.{ℤ, Result, Ok, Err, MatchResult}
use Rattle.std.proofs.lemmas.List.{length-append}
use Rattle.rules.specs.Specification.{Modifier, Quarters, Scaled, Moved, IsModifier, AreModifiers}
use Rattle.lengths.specs.Reading.{number_at}
use Rattle.lengths.proofs.Numbers.{some_same}
use Rattle.pagespec.specs.Reading.{quarters_of, scale_at, offset_at, modifier_at, modifiers_at, modifiers_or, with_modifier}
use Rattle.pagespec.specs.Places.{IsStuck, StuckIn, StuckAfter, ReadsBefore, AreSomeModifiers}
use Rattle.pagespec.specs.Parsed.{ModifiersRead}
use Rattle.pagespec.specs.declared.parsed.Modifiers.{Modifiers}
use Rattle.pagespec.proofs.Letters.{turn_letter}
use Rattle.pagespec.proofs.Measures.{bind_some}
use Rattle.pagespec.proofs.Modifiers.{modifier_found, turn_read, offset_read, some_byte}
use Rattle.pagespec.proofs.Scans.{scale_from, at_nothing, at_scale, at_offset, at_other}
use Rattle.pagespec.proofs.NumberPlaces.{Alike, number_alike}
use Rattle.pagespec.proofs.StuckPlaces.{stuck_behind, stuck_first}
use Rattle.pagespec.proofs.MeasureStuck.{IsSome, Nothing, IsScaleAfter, IsOffsetAfter}

left_turn : IsSome IsModifier (76 ∷ [])
left_turn = (Quarters 1, inl (refl, inl refl))

pub nothing_stuck : (t : List ℕ) → t ≡ [] → StuckIn IsModifier modifier_at t 0
nothing_stuck t e = (
  at_nothing t e,
  subst (λ x. IsStuck (IsSome IsModifier) (Nothing modifier_at) x 0) (sym e)
      (stuck_first (IsSome IsModifier) (Nothing modifier_at) [] (76 ∷ []) left_turn (λ b tail is after. absurd (cc (is)))),
)

pub letter_stuck : (t rest : List ℕ) (b n : ℕ) → t ≡ b ∷ rest → b ≢ 64 → b ≢ 40 → n ≡ quarters_of b → n ≡ 0 → StuckIn IsModifier modifier_at t (length t)
letter_stuck t rest b n e f g q h = (
  at_other t rest b n e f g q h,
  stuck_first (IsSome IsModifier) (Nothing modifier_at) t (76 ∷ []) left_turn
      (λ c tail is after. let same : b ≡ c = cc (e, is) in ap (λ x. modifier_at (x ∷ after)) (sym same) ∙ at_other (b ∷ after) after b n refl f g q h),
)

-- after a first byte that decides what it is
part_stuck : (b : ℕ) (t u : List ℕ) (part : List ℕ → Option (Modifier × List ℕ)) (left : ℕ) → t ≡ b ∷ u → ((x : List ℕ) → modifier_at (b ∷ x) ≡ part x)
    → StuckIn (λ x m. IsModifier (b ∷ x) m) part u left → StuckIn IsModifier modifier_at t left
part_stuck b t u part left e same (none, s) = (
  ap modifier_at e ∙ (same u ∙ none),
  subst (λ x. IsStuck (IsSome IsModifier) (Nothing modifier_at) x left) (sym e)
      (stuck_behind (IsSome (λ x m. IsModifier (b ∷ x) m)) (Nothing part) (IsSome IsModifier) (Nothing modifier_at) (b ∷ []) u left
      (λ x is. ([], subst (λ y. IsSome IsModifier (b ∷ y)) (sym (append-nil x)) is)) (λ x l n. same x ∙ n) s),
)

pub at_stuck : (t u : List ℕ) (b left : ℕ) → t ≡ b ∷ u → b ≡ 64 → StuckIn IsScaleAfter scale_at u left → StuckIn IsModifier modifier_at t left
at_stuck t u b left e is s = part_stuck 64 t u scale_at left (e ∙ ap (λ x. x ∷ u) is) (λ x. at_scale (64 ∷ x) x 64 refl refl) s

pub bracket_stuck : (t u : List ℕ) (b left : ℕ) → t ≡ b ∷ u → b ≡ 40 → StuckIn IsOffsetAfter offset_at u left → StuckIn IsModifier modifier_at t left
bracket_stuck t u b left e is s = part_stuck 40 t u offset_at left (e ∙ ap (λ x. x ∷ u) is) (λ x. at_offset (40 ∷ x) x 40 refl refl) s

pair : (w : ℤ × List ℕ) (v : ℤ) (rest : List ℕ) → w.0 ≡ v → w.1 ≡ rest → w ≡ (v, rest)
pair w v rest a b = ap (λ x. (x, w.1)) a ∙ ap (λ y. (v, y)) b

scaled_same : (a b : ℤ) → Scaled a ≡ Scaled b → a ≡ b
scaled_same a b e = cc (e)

scale_alike : (t number rest u : List ℕ) (v : ℤ) → t ≡ number ++ rest → scale_at t ≡ Some (Scaled v, rest) → Alike rest u → scale_at (number ++ u) ≡ Some (Scaled v, u)
unfolding scale_at
scale_alike t number rest u v split e l =
    let (w, found, both) = bind_some (number_at t) _ (Scaled v, rest) e in
    let same = some_same _ _ both in
    let value : w.0 ≡ v = scaled_same w.0 v (ap (λ x. x.0) same) in
    let behind : w.1 ≡ rest = ap (λ x. x.1) same in
    scale_from (number ++ u) u v (number_alike t rest number u v (found ∙ ap (λ x. Some x) (pair w v rest value behind)) split l)

-- the same modifier is read before another rest that begins with the same byte
modifier_alike : (m : Modifier) (text rest u : List ℕ) → IsModifier text m → modifier_at (text ++ rest) ≡ Some (m, rest) → Alike rest u → modifier_at (text ++ u) ≡ Some (m, u)
unfolding modifier_at
modifier_alike (Quarters n) text rest u is e l = let (letter, same, q, h) = turn_letter text n is in ap (λ x. modifier_at (x ++ u)) same ∙ turn_read letter n u _ _ _ refl refl refl q h
modifier_alike (Scaled v) text rest u (number, same, is) e l =
    let here : scale_at (number ++ rest) ≡ Some (Scaled v, rest) = sym (ap (λ x. modifier_at (x ++ rest)) same) ∙ e in
    ap (λ x. modifier_at (x ++ u)) same ∙ scale_alike (number ++ rest) number rest u v refl here l
modifier_alike (Moved x y) text rest u (first, second, same, is_x, is_y) e l =
    ap (λ z. modifier_at (z ++ u)) same ∙ (ap (λ z. modifier_at (40 ∷ z)) (append_assoc (first ++ 44 ∷ second) (41 ∷ []) u ∙ append_assoc first (44 ∷ second) (41 ∷ u))
    ∙ offset_read first second u x y is_x is_y)

-- the modifiers at the front, and the same before another rest
pub record Front (t rest : List ℕ) (ms : List Modifier) : Type 0 where
  pub text : List ℕ
  pub split : t ≡ text ++ rest
  pub are : AreModifiers text ms
  pub again : (u : List ℕ) → Alike rest u → modifier_at u ≡ None → (k : ℕ) → length text ≤ k → modifiers_at k (text ++ u) ≡ (ms, u)

none_again : (u : List ℕ) (k : ℕ) → modifier_at u ≡ None → modifiers_at k u ≡ ([], u)
unfolding modifiers_at
none_again u zero e = refl
none_again u (suc k) e = rw e refl

no_front : (t rest : List ℕ) (ms : List Modifier) → ◌≡◌ {A = List Modifier × List ℕ} ([], t) (ms, rest) → Front t rest ms
no_front t rest ms e =
    subst (λ x. Front t x.1 x.0) e
    (record { text = []; split = refl; are = refl; again = λ u l none k h. none_again u k none })

one_again : (k : ℕ) (t u : List ℕ) (m : Modifier) (ms : List Modifier) (rest : List ℕ) → 0 < k → modifier_at t ≡ Some (m, u) → ((j : ℕ) → k ≡ suc j → modifiers_at j u ≡ (ms, rest)) → modifiers_at k t ≡ (m ∷ ms, rest)
unfolding modifiers_at
one_again zero t u m ms rest h e more = absurd (omega arith)
one_again (suc j) t u m ms rest h e more = rw e (ap (with_modifier m) (more j refl))

alike_more : (text rest u : List ℕ) → Alike rest u → Alike (text ++ rest) (text ++ u)
alike_more [] rest u l = l
alike_more (b ∷ text) rest u l = refl

front_or : (k : ℕ) (t rest : List ℕ) (ms : List Modifier) → ((u behind : List ℕ) (ns : List Modifier) → modifiers_at k u ≡ (ns, behind) → Front u behind ns)
    → (o : Option (Modifier × List ℕ)) → modifier_at t ≡ o → modifiers_or (λ u. modifiers_at k u) t o ≡ (ms, rest) → Front t rest ms
front_or k t rest ms fronts None none e = no_front t rest ms e
front_or k t rest ms fronts (Some m) found e =
    let (text, split, is) = modifier_found t m found in
    let more = fronts m.1 (modifiers_at k m.1).1 (modifiers_at k m.1).0 refl in
    let here : modifier_at (text ++ m.1) ≡ Some (m.0, m.1) = ap modifier_at (sym split) ∙ found in
    subst (λ x. Front t x.1 x.0) e
    (record {
      text = text ++ more.text;
      split = split ∙ (ap (λ x. text ++ x) more.split ∙ sym (append_assoc text more.text (modifiers_at k m.1).1));
      are = (text, more.text, refl, is, more.are);
      again = λ u l none j h.
          ap (modifiers_at j) (append_assoc text more.text u)
          ∙ one_again j (text ++ (more.text ++ u)) (more.text ++ u) m.0 (modifiers_at k m.1).0 u
          (omega (arith, h, length-append text more.text, some_byte m.0 text is))
          (modifier_alike m.0 text m.1 (more.text ++ u) is here (subst (λ x. Alike x (more.text ++ u)) (sym more.split) (alike_more more.text (modifiers_at k m.1).1 u l)))
          (λ i same. more.again u l none i (omega (arith, same, h, length-append text more.text, some_byte m.0 text is)));
    })

pub modifiers_front : (k : ℕ) (t rest : List ℕ) (ms : List Modifier) → modifiers_at k t ≡ (ms, rest) → Front t rest ms
unfolding modifiers_at
modifiers_front zero t rest ms e = no_front t rest ms e
modifiers_front (suc k) t rest ms e = front_or k t rest ms (λ u behind ns f. modifiers_front k u behind ns f) (modifier_at t) refl e

pub one_more : (front text : List ℕ) (ms : List Modifier) (m : Modifier) → AreModifiers front ms → IsModifier text m → AreModifiers (front ++ text) (ms ++ m ∷ [])
one_more front text [] m e is = (text, [], ap (λ x. x ++ text) e ∙ sym (append-nil text), is, refl)
one_more front text (n ∷ ms) m (first, rest, e, is_n, are) is = (first, rest ++ text, ap (λ x. x ++ text) e ∙ append_assoc first rest text, is_n, one_more rest text ms m are is)

not_nothing : (front text : List ℕ) → 0 < length text → front ++ text ≢ []
not_nothing front text h e = omega (arith, h, length-append front text, ap length e)

abbrev pub ModifiersStuck : (t rest : List ℕ) → ℕ → Type 0
ModifiersStuck t rest left = StuckAfter AreSomeModifiers (λ x. Some (modifiers_at (length x) x)) t rest left

-- modifiers were read, and the next one is stuck
pub modifiers_stuck : (t rest : List ℕ) (s : Modifiers) (left : ℕ) → ModifiersRead t s rest → StuckIn IsModifier modifier_at rest left → ModifiersStuck t rest left
modifiers_stuck t rest s left (ms, read, shows) (none, stuck) =
    let front = modifiers_front (length t) t rest ms read in
    subst (λ x. ModifiersStuck x rest left) (sym front.split)
    (stuck_behind (IsSome IsModifier) (Nothing modifier_at) (IsSome AreSomeModifiers) (λ x. ReadsBefore rest (Some (modifiers_at (length x) x))) front.text rest left
    (λ x (m, is).
    ([], (ms ++ m ∷ [], subst (λ y. AreSomeModifiers (front.text ++ y) (ms ++ m ∷ [])) (sym (append-nil x)) (one_more front.text x ms m front.are is, not_nothing front.text x (some_byte m x is)))))
    (λ u l e. (ms, u, ap (λ x. Some x) (front.again u l e (length (front.text ++ u)) (omega (arith, length-append front.text u))), l))
    stuck)

-- each modifier has at least one byte
pub modifier_bytes : (t rest : List ℕ) (m : Modifier) → modifier_at t ≡ Some (m, rest) → length rest < length t
modifier_bytes t rest m e =
    let (text, split, is) = modifier_found t (m, rest) e in
    omega (arith, ap length split, length-append text rest, some_byte m text is)

-- an outcome in other words
pub same_outcome : {X E : Type 0} (r : Result X E) (P Q : X → Type 0) (F G : E → Type 0) → ((x : X) → P x → Q x) → ((e : E) → F e → G e) → MatchResult r P F → MatchResult r Q G
same_outcome (Ok x) P Q F G f g h = f x h
same_outcome (Err e) P Q F G f g h = g e h
