-- A command that is a chain of arguments, by their rules.
use Rattle.std.proofs.Common.{◌≡◌, ◌∙◌, ◌<◌, ap, refl, sym, true, false, Bool, map, List, [], ◌∷◌, ℕ, zero, suc, length, arith, not, ◌&&◌, get_or, inl, inr, Option, Some, None, is_some}
use Rattle.std.specs.Prelude.{codes}
use Rattle.std.specs.List.{All, fold, list_all}
use Rattle.std.specs.Str.{bytes_eq}
use Rattle.std.proofs.lemmas.Slice.Eq.{bytes_eq-Decides}
use Rattle.std.proofs.lemmas.Bool.{cases_lt}
use Rattle.clap.specs.Words.{AddsArg, AddsInTurn, Rule, Text, app_of, rule_of, with_rule}
use Rattle.clap.specs.Walk.{is_free_arg, is_simple_arg}
use Rattle.clap.specs.Built.{FitsChain, HasDistinctIds, IsAuto, TakesValue}
use Rattle.clap.specs.Facts.{unwrap_or_range}
use Rattle.clap.specs.declared.builder.action.ArgAction.TheVariants.{Set}
use Rattle.clap.proofs.SimpleLemmas.{is_false, is_nil}
use Rattle.clap.specs.declared.builder.arg.Arg.{Arg}
use Rattle.clap.specs.declared.builder.command.Command.{Command}
use Rattle.command_words.specs.Arguments.{are_distinct, stands_by_itself, is_met, is_own_id}

both : (a b : Bool) → (a && b) ≡ true → (a ≡ true) × (b ≡ true)
both true b e = (refl, e)
both false b e = cc

is_none : {X : Type 0} (o : Option X) → not (is_some o) ≡ true → o ≡ None
is_none None e = refl
is_none (Some x) e = cc

-- ---- one argument

unlike : (x y : Text) → not (bytes_eq x y) ≡ true → x ≡ y → ⊥
unlike x y e same = let yes = (bytes_eq-Decides x y).1 same in let no : bytes_eq x y ≡ false = is_false _ e in cc

-- what the test of a simple argument means
simple_facts : (a : Arg) → is_simple_arg a ≡ true
    → (a.overrides.items ≡ []) × (a.groups.items ≡ []) × (a.val_delim ≡ None) × (a.global ≡ false)
simple_facts a e =
    let p = both _ _ e in
    let q = both _ _ p.1 in
    let r = both _ _ q.1 in
    let s = both (not (is_some a.val_delim)) _ r.1 in
    let t = both (not (is_some a.terminator)) _ s.1 in
    let u = both (not a.allow_hyphen_values) _ t.1 in
    let v = both (not a.allow_negative_numbers) _ u.1 in
    let w = both (not a.require_equals) _ v.1 in
    let x = both (not a.last) (not a.global) w.1 in
    (is_nil _ p.0, is_nil _ r.0, is_none _ s.0, is_false _ x.1)

free_facts : (a : Arg) → is_free_arg a ≡ true → (a.exclusive ≡ false) × (a.conflicts.items ≡ [])
free_facts a e =
    let p = both _ _ e in
    let q = both _ _ p.1 in
    (is_false _ p.0, is_nil _ q.0)

own_facts : (id : Text) → is_own_id id ≡ true → (id ≡ [] → ⊥) × (id ≡ codes "help" → ⊥) × (id ≡ codes "version" → ⊥)
own_facts id e =
    let p = both _ _ e in
    let q = both _ _ p.1 in
    (unlike id [] p.0, unlike id (codes "help") q.0, unlike id (codes "version") q.1)

parts : (r : Rule) → stands_by_itself r ≡ true → (r.is_simple ≡ true) × (r.is_free ≡ true) × (is_own_id r.id ≡ true)
parts r e =
    let p = both _ _ e in
    let q = both _ _ p.1 in
    (p.0, q.0, q.1)

pub fits_chain : (a : Arg) → stands_by_itself (rule_of a) ≡ true → FitsChain a
fits_chain a e =
    let p = parts (rule_of a) e in
    let s = simple_facts a p.0 in
    let f = free_facts a p.1 in
    let own = own_facts a.id.now p.2 in
    let auto : IsAuto a → ⊥ = λ auto. elim auto [ inl h ↦ own.1 h | inr h ↦ own.2 h ] in
    ((f.0, f.1, s.0, s.1), s.3, own.0, auto)

pub takes_a_value : (a : Arg) → (rule_of a).required ≡ true → (rule_of a).action ≡ Some Set → (rule_of a).range ≡ None → stands_by_itself (rule_of a) ≡ true → TakesValue a
takes_a_value a required set one e =
    let s = simple_facts a (parts (rule_of a) e).0 in
    let least : (unwrap_or_range a.num_vals).start_inclusive ≡ 1 = ap (λ r. (unwrap_or_range r).start_inclusive) one in
    (required, set, s.2, omega arith)

-- ---- several

pub each_fits : (xs : List Arg) → list_all stands_by_itself (map rule_of xs) ≡ true → All FitsChain xs
each_fits [] e k d lt = absurd (omega arith)
each_fits (x ∷ xs) e zero d lt = fits_chain x (both _ _ e).0
each_fits (x ∷ xs) e (suc k) d lt = each_fits xs (both _ _ e).1 k d (omega arith)

-- the rules of a chain
pub chain_app : (c d : Command) (xs : List Arg) → AddsInTurn AddsArg c xs d → list_all stands_by_itself (map rule_of xs) ≡ true
    → app_of d ≡ fold with_rule (app_of c) (map rule_of xs)
chain_app c d [] h e = ap app_of (sym h)
chain_app c d (x ∷ xs) h e =
    let p = both _ _ e in
    chain_app h.0 d xs h.2 p.1 ∙ ap (λ a. fold with_rule a (map rule_of xs)) (h.1.shape (fits_chain x p.0).1)

-- no later argument has the id of an earlier one
apart : (xs : List Arg) → are_distinct (map rule_of xs) ≡ true → (j k : ℕ) (d e : Arg) → j < k → k < length xs
    → bytes_eq (get_or xs k e).id.now (get_or xs j d).id.now ≡ true → ⊥
apart [] h j k d e lt in_range same = absurd (omega arith)
apart (a ∷ rest) h j zero d e lt in_range same = absurd (omega arith)
apart (a ∷ rest) h zero (suc k) d e lt in_range same =
    let b : (not (is_met a.id.now (map rule_of rest)) ≡ true) × (are_distinct (map rule_of rest) ≡ true) = both _ _ h in
    let met = met_at rest a.id.now k e (omega arith) same in
    let bad : is_met a.id.now (map rule_of rest) ≡ false = is_false _ b.0 in
    cc
  where
    met_at : (ys : List Arg) (x : Text) (k : ℕ) (e : Arg) → k < length ys → bytes_eq (get_or ys k e).id.now x ≡ true → is_met x (map rule_of ys) ≡ true
    met_at [] x k e lt same = absurd (omega arith)
    met_at (y ∷ ys) x zero e lt same = grind arith
    met_at (y ∷ ys) x (suc k) e lt same = let more = met_at ys x k e (omega arith) same in grind (arith, more)
apart (a ∷ rest) h (suc j) (suc k) d e lt in_range same =
    apart rest (both _ _ h).1 j k d e (omega arith) (omega arith) same

flip : (x y : Text) → bytes_eq x y ≡ true → bytes_eq y x ≡ true
flip x y e = let is = (bytes_eq-Decides x y).0 e in (bytes_eq-Decides y x).1 (sym is)

pub distinct : (xs : List Arg) → are_distinct (map rule_of xs) ≡ true → HasDistinctIds xs
distinct xs h j k d e j_in k_in same =
    elim (cases_lt j k) [
      | inl under ↦ absurd (apart xs h j k e d under k_in (flip (get_or xs j e).id.now (get_or xs k d).id.now same))
      | inr over ↦ elim (cases_lt k j) as (λ _. j ≡ k) [
        | inl under ↦ absurd (apart xs h k j d e under j_in same)
        | inr under ↦ omega arith
      ]
    ]
