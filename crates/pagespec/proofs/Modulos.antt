-- A whole text: its modulo and its groups.
use Rattle.std.proofs.Common.{inl, inr, ◌≡◌, ◌≢◌, ℕ, List, [], ◌∷◌, ◌++◌, false, Option, Some, None, refl, sym, ap, subst, ◌∙◌, append_assoc, append-nil, take}
use Rattle.std.specs.List.{AllPass}
use Rattle.std.specs.Char.{is_ascii_digit}
use Rattle.std.proofs.lemmas.List.Elements.{All-nil, All-cons}
use Rattle.rules.specs.Specification.{WrittenItem, AreGroups, IsSpec}
use Rattle.lengths.proofs.Digits.{IsDigit, by_test, digits_pass, digits-yes, digits-no, past_digits-yes, past_digits-no}
use Rattle.rules.specs.Numbers.{number_of}
use Rattle.lengths.specs.Reading.{digits, past_digits, is_empty}
use Rattle.pagespec.specs.Reading.{◌>>=◌, byte_at, all_groups_at, past_modulo, tree_from, tree_of, spec_at}
use Rattle.pagespec.specs.Places.{StuckIn}
use Rattle.pagespec.specs.Groups.{IsStop, ParsesTo}
use Rattle.pagespec.specs.Written.{ModuloRead, WrittenRead}
use Rattle.pagespec.specs.declared.groups.ParsedGroups.{ParsedGroups}
use Rattle.pagespec.specs.declared.groups.Stop.{Stop}
use Rattle.pagespec.specs.declared.groups.Stop.TheVariants.{Stuck, NoMemory}
use Rattle.pagespec.proofs.Texts.{all_groups_read, modulo_found, colon_here, bare_taken}
use Rattle.pagespec.proofs.NumberPlaces.{Alike, byte_alike}
use Rattle.pagespec.proofs.StuckPlaces.{stuck_behind}
use Rattle.pagespec.proofs.MeasureStuck.{IsSome, Nothing}

from_parsed : (t : List ℕ) (o : Option (List ℕ)) (modulo : ℕ) (rest : List ℕ) (parsed : ParsedGroups) → past_modulo t ≡ o → ModuloRead t o modulo rest → ParsesTo (all_groups_at rest) parsed → WrittenRead t modulo parsed
unfolding spec_at
from_parsed t None modulo rest parsed p read (gs, found, are) = record {
  spec = record { modulo = 1; groups = gs };
  found = ap (tree_from t) p ∙ (ap (λ x. all_groups_at x >>= tree_of 1) (sym read.1) ∙ ap (λ o. o >>= tree_of 1) found);
  modulo_is = read.0;
  groups = are;
}
from_parsed t (Some behind) modulo rest parsed p read (gs, found, are) = record {
  spec = record { modulo = number_of (digits t); groups = gs };
  found = ap (tree_from t) p ∙ (ap (λ x. all_groups_at x >>= tree_of (number_of (digits t))) (sym read.1) ∙ ap (λ o. o >>= tree_of (number_of (digits t))) found);
  modulo_is = read.0;
  groups = are;
}

pub written_parsed : (t : List ℕ) (modulo : ℕ) (rest : List ℕ) (parsed : ParsedGroups) → ModuloRead t (past_modulo t) modulo rest → ParsesTo (all_groups_at rest) parsed → WrittenRead t modulo parsed
written_parsed t modulo rest parsed read shows = from_parsed t (past_modulo t) modulo rest parsed refl read shows

-- what follows the digits at the front, and the digits, if the byte after the front ends them
record SameDigits (t u : List ℕ) : Type 0 where
  past : Alike (past_digits t) (past_digits u)
  same : digits u ≡ digits t

digits_end : (front tail after : List ℕ) (b : ℕ) → (AllPass is_ascii_digit (front ++ b ∷ []) → ⊥) → SameDigits (front ++ b ∷ tail) (front ++ b ∷ after)
digits_end [] tail after b n = elim (by_test (is_ascii_digit b)) [
  | inl e ↦ absurd (n (All-cons IsDigit b [] e (All-nil IsDigit)))
  | inr e ↦ not_first b tail after e
]
  where
    not_first : (b : ℕ) (t u : List ℕ) → is_ascii_digit b ≡ false → SameDigits (b ∷ t) (b ∷ u)
    not_first b t u e = record {
      past = ap (take 1) (past_digits-no b u e) ∙ sym (ap (take 1) (past_digits-no b t e));
      same = digits-no b u e ∙ sym (digits-no b t e);
    }
digits_end (x ∷ front) tail after b n = elim (by_test (is_ascii_digit x)) [
  | inl e ↦ (
      let more = digits_end front tail after b (λ all. n (All-cons IsDigit x (front ++ b ∷ []) e all)) in
      record {
        past = ap (take 1) (past_digits-yes x (front ++ b ∷ after) e) ∙ (more.past ∙ sym (ap (take 1) (past_digits-yes x (front ++ b ∷ tail) e)));
        same = digits-yes x (front ++ b ∷ after) e ∙ (ap (λ y. x ∷ y) more.same ∙ sym (digits-yes x (front ++ b ∷ tail) e));
      }
      )
  | inr e ↦ record {
    past = ap (take 1) (past_digits-no x (front ++ b ∷ after) e) ∙ sym (ap (take 1) (past_digits-no x (front ++ b ∷ tail) e));
    same = digits-no x (front ++ b ∷ after) e ∙ sym (digits-no x (front ++ b ∷ tail) e);
  }
]

no_modulo : (t u : List ℕ) → SameDigits t u → past_modulo t ≡ None → past_modulo u ≡ None
no_modulo t u same e = elim (by_test (is_empty (digits t))) [
  | inl h ↦ rw (ap is_empty same.same ∙ h) refl
  | inr h ↦ rw (ap is_empty same.same ∙ h) (byte_alike 58 (past_digits t) (past_digits u) same.past (sym (rw h refl) ∙ e))
]

-- digits alone are an item
not_digits : (t : List ℕ) → all_groups_at t ≡ None → t ≢ [] → AllPass is_ascii_digit t → ⊥
not_digits t e some all =
    let i : WrittenItem = record { from_end = false; page = number_of t; modifiers = [] } in
    let read : all_groups_at t ≡ Some ((i ∷ []) ∷ []) = all_groups_read t ((i ∷ []) ∷ []) (inl (t, [], sym (append-nil t), (all, some, refl), refl)) in
    cc

some_bytes : (front : List ℕ) (b : ℕ) → front ++ b ∷ [] ≢ []
some_bytes [] b e = cc (e)
some_bytes (x ∷ front) b e = cc (e)

alone_none : (t : List ℕ) → past_modulo t ≡ None → all_groups_at t ≡ None → spec_at t ≡ None
unfolding spec_at
alone_none t p e = ap (tree_from t) p ∙ ap (λ o. o >>= tree_of 1) e

-- groups without a modulo
groups_stuck : (t : List ℕ) (left : ℕ) → past_modulo t ≡ None → StuckIn AreGroups all_groups_at t left → StuckIn IsSpec spec_at t left
groups_stuck t left p (none, s) = (
  alone_none t p none,
  record {
    front = s.front;
    back = s.back;
    split = s.split;
    left_is = s.left_is;
    more = s.more;
    begun = let (gs, are) = s.begun in (record { modulo = 1; groups = gs }, inl (refl, are));
    fails = λ b tail e after.
        let ends = digits_end s.front tail after b (not_digits (s.front ++ b ∷ []) (s.fails b tail e []) (some_bytes s.front b)) in
        alone_none (s.front ++ b ∷ after)
        (no_modulo (s.front ++ b ∷ tail) (s.front ++ b ∷ after) ends (ap past_modulo (sym (s.split ∙ ap (λ x. s.front ++ x) e)) ∙ p))
        (s.fails b tail e after);
  },
)

modulo_read : (ds u : List ℕ) → AllPass is_ascii_digit ds → ds ≢ [] → all_groups_at u ≡ None → spec_at ((ds ++ 58 ∷ []) ++ u) ≡ None
unfolding spec_at
modulo_read ds u pass some e =
    let t : List ℕ = ds ++ 58 ∷ u in
    let here = colon_here ds u pass in
    let m : past_modulo t ≡ Some u = bare_taken (digits t) _ (λ n. some (sym here.0 ∙ n)) ∙ ap (byte_at 58) here.1 in
    ap spec_at (append_assoc ds (58 ∷ []) u) ∙ (ap (tree_from t) m ∙ ap (λ o. o >>= tree_of (number_of (digits t))) e)

-- groups after a modulo
modulo_stuck : (t rest : List ℕ) (left : ℕ) → past_modulo t ≡ Some rest → StuckIn AreGroups all_groups_at rest left → StuckIn IsSpec spec_at t left
modulo_stuck t rest left p (none, s) =
    let has = modulo_found t rest p in
    let ds : List ℕ = digits t in
    subst (λ x. StuckIn IsSpec spec_at x left) (append_assoc ds (58 ∷ []) rest ∙ sym has.0) (
      modulo_read ds rest (digits_pass t) has.1 none,
      stuck_behind (IsSome AreGroups) (Nothing all_groups_at) (IsSome IsSpec) (Nothing spec_at) (ds ++ 58 ∷ []) rest left
          (λ x (gs, are). ([], (record { modulo = number_of ds; groups = gs }, inr (ds, x, append_assoc ds (58 ∷ []) (x ++ []) ∙ ap (λ y. ds ++ 58 ∷ y) (append-nil x), (digits_pass t, has.1, refl), are))))
          (λ u l e. modulo_read ds u (digits_pass t) has.1 e) s,
    )

from_stuck : (t : List ℕ) (o : Option (List ℕ)) (modulo : ℕ) (rest : List ℕ) (left : ℕ) → past_modulo t ≡ o → ModuloRead t o modulo rest → StuckIn AreGroups all_groups_at rest left → StuckIn IsSpec spec_at t left
from_stuck t None modulo rest left p read s = groups_stuck t left p (subst (λ x. StuckIn AreGroups all_groups_at x left) read.1 s)
from_stuck t (Some behind) modulo rest left p read s = modulo_stuck t behind left p (subst (λ x. StuckIn AreGroups all_groups_at x left) read.1 s)

pub written_stuck : (t : List ℕ) (modulo : ℕ) (rest : List ℕ) (s : Stop) → ModuloRead t (past_modulo t) modulo rest → IsStop AreGroups all_groups_at rest s → IsStop IsSpec spec_at t s
written_stuck t modulo rest (Stuck place) read s = from_stuck t (past_modulo t) modulo rest place.left refl read s
written_stuck t modulo rest NoMemory read s = tt
