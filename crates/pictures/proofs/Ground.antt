-- Guarded states: after the guard, and after definitions of other names.
use Rattle.rules.specs.Papers.{Paper}
use Rattle.pictures.specs.Objects.{Token}
use Rattle.std.specs.Prelude.{Option, Some, None, codes, bytes_eq, if◌then◌else◌}
use Rattle.std.proofs.lemmas.Slice.Eq.{bytes_eq-Decides}
use Rattle.std.proofs.Common.{◌≡◌, ℕ, refl, ap, ap₂, ◌∙◌, sym, subst, Bool, true, false, not, ◌&&◌, ◌||◌, ◌==◌, List, [], ◌∷◌, true≢false, arith}
use Rattle.pictures.specs.Dictionaries.{DictionaryEntry, dictionary_entry, has}
use Rattle.pictures.specs.Operators.{Work, holder}
use Rattle.pictures.specs.Sheets.{among}
use Rattle.pictures.specs.Unaware.{absent}
use Rattle.pictures.proofs.Tests.{by_test, first, second}
use Rattle.pictures.proofs.Opening.{name_other}
use Rattle.pictures.specs.Shelter.{all_absent}
use Rattle.pictures.specs.AfterGuard.{after_guard}
use Rattle.pictures.specs.Pages.{HasGuard, names_looked_up, looked_up_first, guarded_names, GuardIsEnough, StaysGuarded}

guard_is_there : (sheet : Option Paper) (rest : List Token) → HasGuard (after_guard sheet rest).work 0
guard_is_there None rest =
    record { number = 2; save_is = refl; guard_is = refl; clip_is = refl; clip_alone = refl; path_is = refl; names = refl; few_operands = omega arith; operands = refl; dictionaries = refl }
guard_is_there (Some paper) rest =
    record { number = 3; save_is = refl; guard_is = refl; clip_is = refl; clip_alone = refl; path_is = refl; names = refl; few_operands = omega arith; operands = refl; dictionaries = refl }

pub guard_is_enough : GuardIsEnough
guard_is_enough None rest =
    record { guard = guard_is_there None rest; userdict_first = refl; showpage_is = refl; flag_is = refl; show_is = refl; graphics = refl }
guard_is_enough (Some paper) rest =
    record { guard = guard_is_there (Some paper) rest; userdict_first = refl; showpage_is = refl; flag_is = refl; show_is = refl; graphics = refl }

-- A name that is none of these is another than each of them.

neither : (a b : Bool) → (a || b) ≡ false → a ≡ false
neither true b e = e
neither false b e = refl

pub nor : (a b : Bool) → (a || b) ≡ false → b ≡ false
nor true b e = absurd (true≢false e)
nor false b e = e

pub differs : (key name : List ℕ) (names : List (List ℕ)) → among key names ≡ false → among name names ≡ true → bytes_eq key name ≡ false
differs key name [] a h = absurd (true≢false (sym h))
differs key name (other ∷ others) a h = by_test (bytes_eq name other)
    (λ same. subst (λ z. bytes_eq key z ≡ false) (sym ((bytes_eq-Decides name other).0 same)) (neither (bytes_eq key other) (among key others) a))
    (λ differ. differs key name others (nor (bytes_eq key other) (among key others) a) (subst (λ b. (b || among name others) ≡ true) differ h))

pub entry_other : (d : ℕ) (e : DictionaryEntry) (es : List DictionaryEntry) (name : List ℕ) → bytes_eq e.key name ≡ false → dictionary_entry d name (e ∷ es) ≡ dictionary_entry d name es
entry_other d e es name other = ap (λ b. if b && (e.dictionary == d) then Some e.value else dictionary_entry d name es) other

absent_other : (ds : List ℕ) (e : DictionaryEntry) (es : List DictionaryEntry) (name : List ℕ) → bytes_eq e.key name ≡ false → absent ds (e ∷ es) name ≡ absent ds es name
absent_other [] e es name other = refl
absent_other (d ∷ ds) e es name other =
    ap₂ (λ x b. not (has x) && b) (entry_other d e es name other) (absent_other ds e es name other)

pub holder_other : (ds : List ℕ) (e : DictionaryEntry) (es : List DictionaryEntry) (name : List ℕ) → bytes_eq e.key name ≡ false → holder ds (e ∷ es) name ≡ holder ds es name
holder_other [] e es name other = refl
holder_other (d ∷ ds) e es name other =
    ap₂ (λ x y. if has x then Some d else y) (entry_other d e es name other) (holder_other ds e es name other)

-- the names all differ from the entry's key
abbrev pub AllDiffer : DictionaryEntry → List (List ℕ) → Type 0
AllDiffer e [] = Unit {0}
AllDiffer e (name ∷ names) = (bytes_eq e.key name ≡ false) × AllDiffer e names

pub all_absent_other : (names : List (List ℕ)) (ds : List ℕ) (e : DictionaryEntry) (es : List DictionaryEntry) → AllDiffer e names → all_absent names ds (e ∷ es) ≡ all_absent names ds es
all_absent_other [] ds e es h = refl
all_absent_other (name ∷ names) ds e es h = ap₂ (λ a b. a && b) (absent_other ds e es name h.0) (all_absent_other names ds e es h.1)

abbrev pub all_among : List (List ℕ) → List (List ℕ) → Bool
all_among [] others = true
all_among (name ∷ names) others = among name others && all_among names others

pub all_differ : (e : DictionaryEntry) (names others : List (List ℕ)) → among e.key others ≡ false → all_among names others ≡ true → AllDiffer e names
all_differ e [] others a h = tt
all_differ e (name ∷ names) others a h = (
  differs e.key name others a (first (among name others) (all_among names others) h),
  all_differ e names others a (second (among name others) (all_among names others) h),
)

-- The guard is there still, where another name is defined.

pub picked : (e : DictionaryEntry) (others : List (List ℕ)) → AllDiffer e others → (name : List ℕ) → among name others ≡ true → bytes_eq e.key name ≡ false
picked e [] d name h = absurd (true≢false (sym h))
picked e (other ∷ others) d name h = by_test (bytes_eq name other)
    (λ same. subst (λ z. bytes_eq e.key z ≡ false) (sym ((bytes_eq-Decides name other).0 same)) d.0)
    (λ differ. picked e others d.1 name (subst (λ b. (b || among name others) ≡ true) differ h))

pub some_differ : (e : DictionaryEntry) (others : List (List ℕ)) → AllDiffer e others → (names : List (List ℕ)) → all_among names others ≡ true → AllDiffer e names
some_differ e others d [] h = tt
some_differ e others d (name ∷ names) h = (
  picked e others d name (first (among name others) (all_among names others) h),
  some_differ e others d names (second (among name others) (all_among names others) h),
)

abbrev pub guard_names : List (List ℕ)
guard_names = codes "save" ∷ codes "ImposeGuard" ∷ codes "ImposePath" ∷ names_looked_up

unfoldable pub guard_stays_there : (w : Work) (level : ℕ) (e : DictionaryEntry) → AllDiffer e guard_names → HasGuard w level → HasGuard (record w { entries = e ∷ w.entries }) level
guard_stays_there w level e d g =
    let ds : List ℕ = w.dictionaries in
    let es : List DictionaryEntry = w.entries in
    let other : (name : List ℕ) → among name guard_names ≡ true → bytes_eq e.key name ≡ false = picked e guard_names d in
    record {
      number = g.number;
      save_is = name_other ds e es (codes "save") (other (codes "save") refl) ∙ g.save_is;
      guard_is = name_other ds e es (codes "ImposeGuard") (other (codes "ImposeGuard") refl) ∙ g.guard_is;
      clip_is = entry_other g.number e es (codes "clip") (other (codes "clip") refl) ∙ g.clip_is;
      clip_alone = all_absent_other looked_up_first (g.number ∷ ds) e es (some_differ e guard_names d looked_up_first refl) ∙ g.clip_alone;
      path_is = entry_other 0 e es (codes "ImposePath") (other (codes "ImposePath") refl) ∙ g.path_is;
      names = all_absent_other names_looked_up (0 ∷ ds) e es (some_differ e guard_names d names_looked_up refl) ∙ g.names;
      few_operands = g.few_operands;
      operands = g.operands;
      dictionaries = g.dictionaries;
    }

pub stays_guarded : StaysGuarded
stays_guarded s e g a =
    let ds : List ℕ = s.work.dictionaries in
    let es : List DictionaryEntry = s.work.entries in
    let other : (name : List ℕ) → among name guarded_names ≡ true → bytes_eq e.key name ≡ false = λ name h. differs e.key name guarded_names a h in
    record {
      guard = guard_stays_there s.work s.level e (all_differ e guard_names guarded_names a refl) g.guard;
      userdict_first = holder_other ds e es (codes "showpage") (other (codes "showpage") refl) ∙ g.userdict_first;
      showpage_is = name_other ds e es (codes "showpage") (other (codes "showpage") refl) ∙ g.showpage_is;
      flag_is = name_other ds e es (codes "PStoPSenablepage") (other (codes "PStoPSenablepage") refl) ∙ g.flag_is;
      show_is = name_other ds e es (codes "ImposeShow") (other (codes "ImposeShow") refl) ∙ g.show_is;
      graphics = g.graphics;
    }
