-- Operators on values ask for none of the names that the sheet's text puts, see no matrices, and so are blind and placeless.
use Rattle.std.specs.Prelude.{Option, Some, None, if◌then◌else◌, option_map, codes, bytes_eq}
use Rattle.std.proofs.Common.{◌≡◌, ℕ, refl, ap, ap₂, ◌∙◌, sym, subst, Bool, true, false, not, ◌&&◌, ◌||◌, ◌==◌, List, [], ◌∷◌, ◌++◌, true≢false}
use Rattle.std.proofs.Math.Path.{fun_ext}
use Rattle.std.proofs.lemmas.List.{map-append}
use Rattle.pictures.specs.Objects.{Object, Procedure, Saved, Kind}
use Rattle.pictures.specs.Dictionaries.{DictionaryEntry, dictionary_entry, or}
use Rattle.pictures.specs.Machine.{KeptMatrix}
use Rattle.pictures.specs.Unaware.{is_saved, no_saved, no_saved_in}
use Rattle.pictures.specs.Shifted.{one_save_more, ups, AgreeShifted, up_work}
use Rattle.pictures.proofs.Tests.{first, second}
use Rattle.pictures.proofs.Shifted.{ups_same}
use Rattle.pictures.proofs.Names.{agrees_put}
use Rattle.open_pictures.specs.Operators.{Visible, Outcome, Blind, Stop, AtName, AtOperands, table_entry, TakesOthers, AsksForNone, FailsOnOperands}
use Rattle.open_pictures.specs.Shelter.{SeesNoMatrices}
use Rattle.open_pictures.specs.Stores.{Store, Given, Change, Valued, above_save, from_save, is_put, unlevelled, seen, given_of, changed_work, change_made, by_store, or_else, by_stores, FormsTakeOthers}
use Rattle.open_pictures.specs.Stores.{StoresAskForNone, StoresSeeNoMatrices, StoresAreBlind, StoresArePlacelessThere}
use Rattle.open_pictures.proofs.Operators.{never, some_same, tables_are_blind}
use Rattle.open_pictures.proofs.GuardedOperators.{tables_are_placeless_there}

-- What is seen is the same.

unlevelled_up : (o : Object) → unlevelled (one_save_more o) ≡ unlevelled o
unlevelled_up (Saved level) = refl
unlevelled_up o = refl

not_two : (n d : ℕ) (a b : Bool) → (a || b) ≡ false
    → (if a && (0 == d) then Some (Procedure []) else if b && (0 == d) then Some (Saved n) else None) ≡ None
not_two n d true b e = absurd (true≢false e)
not_two n d false true e = absurd (true≢false e)
not_two n d false false e = refl

seen_up : (x y : Option Object) → x ≡ or (option_map one_save_more y) None → option_map unlevelled x ≡ option_map unlevelled y
seen_up x None e = ap (option_map unlevelled) e
seen_up x (Some o) e = ap (option_map unlevelled) e ∙ ap Some (unlevelled_up o)

seen_if : (n d : ℕ) (k : List ℕ) (es fs : List DictionaryEntry) (b : Bool) → is_put k ≡ b → AgreeShifted n es fs
    → (if b then None else option_map unlevelled (dictionary_entry d k es)) ≡ (if b then None else option_map unlevelled (dictionary_entry d k fs))
seen_if n d k es fs true e a = refl
seen_if n d k es fs false e a =
    seen_up (dictionary_entry d k es) (dictionary_entry d k fs)
    (a d k ∙ ap (or (option_map one_save_more (dictionary_entry d k fs))) (not_two n d (bytes_eq (codes "showpage") k) (bytes_eq (codes "ImposeSave") k) e))

seen_same : (n : ℕ) (es fs : List DictionaryEntry) → AgreeShifted n es fs → seen es ≡ seen fs
seen_same n es fs a = fun_ext (λ d. fun_ext (λ k. seen_if n d k es fs (is_put k) refl a))

above_up : (os : List Object) → above_save (ups os) ≡ above_save os
above_up [] = refl
above_up (Saved level ∷ os) = refl
above_up (o ∷ os) = ap (λ ps. o ∷ ps) (above_up os)

from_up : (os : List Object) → from_save (ups os) ≡ ups (from_save os)
from_up [] = refl
from_up (Saved level ∷ os) = refl
from_up (o ∷ os) = from_up os

abbrev upped : List DictionaryEntry → Visible → Visible
upped es sight = record sight { work = up_work es sight.work }

abbrev given_with : Visible → List Object → Store → Given
given_with sight os store = record {
  operands = os;
  store = store;
  dictionaries = sight.work.dictionaries;
  made = sight.work.made;
  settings = sight.settings;
  point = sight.point;
}

given_same : (n : ℕ) (sight : Visible) (es : List DictionaryEntry) → AgreeShifted n es sight.work.entries → given_of (upped es sight) ≡ given_of sight
given_same n sight es a =
    ap₂ (given_with sight) (above_up sight.work.operands) (seen_same n es sight.work.entries a)

-- What comes of it is the same.

no_save_same : (o : Object) → not (is_saved o) ≡ true → one_save_more o ≡ o
no_save_same (Saved level) e = absurd (true≢false (sym e))
no_save_same o e = refl

puts_agree : (n : ℕ) (puts es fs : List DictionaryEntry) → no_saved_in puts ≡ true → AgreeShifted n es fs → AgreeShifted n (puts ++ es) (puts ++ fs)
puts_agree n [] es fs e a = a
puts_agree n (x ∷ puts) es fs e a =
    subst (λ o. AgreeShifted n (record { dictionary = x.dictionary; key = x.key; value = o } ∷ (puts ++ es)) (x ∷ (puts ++ fs)))
    (no_save_same x.value (first _ (no_saved_in puts) e))
    (agrees_put n (puts ++ es) (puts ++ fs) x.dictionary x.key x.value (puts_agree n puts es fs (second _ (no_saved_in puts) e) a))

abbrev Asks : ℕ → Blind → Visible → Outcome → List DictionaryEntry → Type 0
Asks m f sight o es = (fs : List DictionaryEntry) × (f (upped es sight) ≡ Some (record o { work = up_work fs o.work })) × AgreeShifted m fs o.work.entries

abbrev made_by : Change → Visible → Outcome
made_by c sight = record { next = c.next; past = c.past; work = changed_work c sight.work; kept = sight.kept; strokes = c.strokes }

operands_up : (os ps : List Object) → no_saved os ≡ true → os ++ from_save (ups ps) ≡ ups (os ++ from_save ps)
operands_up os ps e =
    ap₂ (λ xs ys. xs ++ ys) (sym (ups_same os e)) (from_up ps) ∙ sym (map-append one_save_more os (from_save ps))

abbrev with_them : Change → Visible → List DictionaryEntry → List Object → Outcome
with_them c sight es os = record {
  next = c.next;
  past = c.past;
  work = record { operands = os; dictionaries = sight.work.dictionaries; entries = c.puts ++ es; made = c.made };
  kept = sight.kept;
  strokes = c.strokes;
}

on_clean : (g : Valued) (m : ℕ) (sight : Visible) (o : Outcome) (es : List DictionaryEntry) (c : Change) (b : Bool) → g (given_of sight) ≡ Some c
    → (no_saved c.operands && no_saved_in c.puts) ≡ b → AgreeShifted m es sight.work.entries → (if b then Some (made_by c sight) else None) ≡ Some o
    → Asks m (by_store g) sight o es
on_clean g m sight o es c false t v a k = absurd (never o k)
on_clean g m sight o es c true t v a k =
    subst (λ p. Asks m (by_store g) sight p es) (some_same (made_by c sight) o k) (
      c.puts ++ es,
      ap (λ given. change_made (g given) (upped es sight)) (given_same m sight es a)
          ∙ ap (λ r. change_made r (upped es sight)) t
          ∙ ap (λ b. if b then Some (made_by c (upped es sight)) else None) v
          ∙ ap (λ os. Some (with_them c sight es os)) (operands_up c.operands sight.work.operands (first (no_saved c.operands) (no_saved_in c.puts) v)),
      puts_agree m c.puts es sight.work.entries (second (no_saved c.operands) (no_saved_in c.puts) v) a,
    )

on_change : (g : Valued) (m : ℕ) (sight : Visible) (o : Outcome) (es : List DictionaryEntry) (r : Option Change) → g (given_of sight) ≡ r
    → AgreeShifted m es sight.work.entries → change_made r sight ≡ Some o → Asks m (by_store g) sight o es
on_change g m sight o es None t a k = absurd (never o k)
on_change g m sight o es (Some c) t a k = on_clean g m sight o es c (no_saved c.operands && no_saved_in c.puts) t refl a k

pub stores_ask_for_none : StoresAskForNone
stores_ask_for_none g m sight o es k a = on_change g m sight o es (g (given_of sight)) refl a k

-- Matrices.

abbrev holding : List KeptMatrix → Visible → Visible
holding ks sight = record sight { kept = ks }

abbrev Holds : List KeptMatrix → Visible → Outcome → Option Outcome → Type 0
Holds ks sight o r = (o.kept ≡ sight.kept) × (r ≡ Some (record o { kept = ks }))

if_clean : (ks : List KeptMatrix) (sight : Visible) (o : Outcome) (c : Change) (b : Bool) → (if b then Some (made_by c sight) else None) ≡ Some o
    → Holds ks sight o (if b then Some (made_by c (holding ks sight)) else None)
if_clean ks sight o c false e = absurd (never o e)
if_clean ks sight o c true e =
    subst (λ z. Holds ks sight z (Some (made_by c (holding ks sight)))) (some_same (made_by c sight) o e) (refl, refl)

if_changed : (ks : List KeptMatrix) (sight : Visible) (o : Outcome) (r : Option Change) → change_made r sight ≡ Some o
    → Holds ks sight o (change_made r (holding ks sight))
if_changed ks sight o None e = absurd (never o e)
if_changed ks sight o (Some c) e = if_clean ks sight o c (no_saved c.operands && no_saved_in c.puts) e

pub stores_see_no_matrices : StoresSeeNoMatrices
stores_see_no_matrices g sight o ks e = if_changed ks sight o (g (given_of sight)) e

-- Tables.

pub split_at_save : (os : List Object) → os ≡ above_save os ++ from_save os
split_at_save [] = refl
split_at_save (Saved level ∷ os) = refl
split_at_save (o ∷ os) = ap (λ ps. o ∷ ps) (split_at_save os)

form_outside : (formed : List ℕ → Kind → Valued) (name : List ℕ) (kind : Kind) (sight : Visible) (o : Outcome) (r : Option Change) → formed name kind (given_of sight) ≡ r
    → FormsTakeOthers formed → change_made r sight ≡ Some o → FailsOnOperands kind sight.work
form_outside formed name kind sight o None t q e = absurd (never o e)
form_outside formed name kind sight o (Some c) t q e = q name kind sight c t

stores_take_others : (named : List ℕ → Option Valued) (formed : List ℕ → Kind → Valued) (others : List ℕ → Option Blind) → FormsTakeOthers formed
    → TakesOthers (by_stores named formed others)
stores_take_others named formed others q name kind f sight o e k =
    form_outside formed name kind sight o (formed name kind (given_of sight)) refl q
    (ap (λ g. g sight) (some_same (by_store (formed name kind)) f e) ∙ k)

-- what is so of each operator on values, and of the others, is so of all of the table
all_so : (P : Blind → Type 0) (named : List ℕ → Option Valued) (formed : List ℕ → Kind → Valued) (others : List ℕ → Option Blind)
    → ((g : Valued) → P (by_store g)) → ((name : List ℕ) (f : Blind) → others name ≡ Some f → P f)
    → (stop : Stop) (f : Blind) → table_entry (by_stores named formed others) stop ≡ Some f → P f
all_so P named formed others p q (AtName name) f e = by_name (named name) e
  where
    by_name : (r : Option Valued) → or_else (option_map by_store r) (others name) ≡ Some f → P f
    by_name None e = q name f e
    by_name (Some g) e = subst P (some_same (by_store g) f e) (p g)
all_so P named formed others p q (AtOperands name kind) f e = subst P (some_same (by_store (formed name kind)) f e) (p (formed name kind))

pub stores_are_blind : StoresAreBlind
stores_are_blind named formed others t q =
    tables_are_blind (by_stores named formed others) (stores_take_others named formed others t)
    (all_so AsksForNone named formed others stores_ask_for_none q)

pub stores_are_placeless_there : StoresArePlacelessThere
stores_are_placeless_there named formed others t q =
    tables_are_placeless_there (by_stores named formed others) (stores_take_others named formed others t)
    (all_so SeesNoMatrices named formed others stores_see_no_matrices q)
