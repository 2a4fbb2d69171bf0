-- Where sheets of sheets can be placed: after the guard, and after definitions of other names.
use Rattle.std.specs.Prelude.{Some, None, codes, bytes_eq, nat_lt}
use Rattle.std.proofs.lemmas.Bool.{lt-ltb}
use Rattle.std.proofs.Common.{◌≡◌, ℕ, ◌+◌, refl, ap, ap₂, ◌∙◌, true, false, not, ◌&&◌, List, [], ◌∷◌}
use Rattle.pictures.specs.Dictionaries.{DictionaryEntry}
use Rattle.pictures.specs.Sheets.{among}
use Rattle.pictures.proofs.Opening.{name_other, apart}
use Rattle.pictures.proofs.Tests.{first, second}
use Rattle.pictures.proofs.Placed.{both_true}
use Rattle.pictures.specs.AfterGuard.{after_guard}
use Rattle.pictures.specs.SheetsOfSheets.{none_newer, none_above_of, put_there, taken_names, GuardTakesSheets, StaysTakingSheets}
use Rattle.pictures.proofs.Ground.{guard_is_enough, differs, all_differ, all_among, holder_other, guard_names, guard_stays_there}
use Rattle.pictures.proofs.GuardedPlaced.{takes_pages}
use Rattle.pictures.proofs.PutThere.{above_other}

pub guard_takes_sheets : GuardTakesSheets
guard_takes_sheets None rest = record { takes = takes_pages (after_guard None rest) (guard_is_enough None rest); above = refl; outermost = refl; restore_is = refl; new = refl; older = tt }
guard_takes_sheets (Some paper) rest =
    record { takes = takes_pages (after_guard (Some paper) rest) (guard_is_enough (Some paper) rest); above = refl; outermost = refl; restore_is = refl; new = refl; older = tt }

is_apart : (key name : List ℕ) → bytes_eq key name ≡ false → apart key (name ∷ []) ≡ true
is_apart key name e = ap (λ b. not b && true) e

all_above : (names : List (List ℕ)) (ds : List ℕ) (e : DictionaryEntry) (es : List DictionaryEntry) → among e.key taken_names ≡ false → all_among names taken_names ≡ true
    → none_above_of names ds (e ∷ es) ≡ none_above_of names ds es
all_above [] ds e es a h = refl
all_above (name ∷ names) ds e es a h =
    ap₂ (λ x y. x && y) (above_other ds name e es (is_apart e.key name (differs e.key name taken_names a (first (among name taken_names) (all_among names taken_names) h))))
    (all_above names ds e es a (second (among name taken_names) (all_among names taken_names) h))

pub stays_taking_sheets : StaysTakingSheets
stays_taking_sheets s e t a made =
    let ds : List ℕ = s.work.dictionaries in
    let es : List DictionaryEntry = s.work.entries in
    let g = t.takes in
    let other : (name : List ℕ) → among name taken_names ≡ true → bytes_eq e.key name ≡ false = λ name h. differs e.key name taken_names a h in
    record {
      takes = record {
        guard = guard_stays_there s.work s.level e (all_differ e guard_names taken_names a refl) g.guard;
        userdict_first = holder_other ds e es (codes "showpage") (other (codes "showpage") refl) ∙ g.userdict_first;
        encloses = name_other ds e es (codes "PStoPSenablepage") (other (codes "PStoPSenablepage") refl) ∙ g.encloses;
        shows = (
          name_other ds e es (codes "showpage") (other (codes "showpage") refl) ∙ g.shows.0,
          name_other ds e es (codes "ImposeShow") (other (codes "ImposeShow") refl) ∙ g.shows.1,
        );
        clips = g.clips;
        numbers = g.numbers;
        held = g.held;
      };
      above = all_above put_there ds e es a refl ∙ t.above;
      outermost = name_other ds e es (codes "ImposeOuter") (other (codes "ImposeOuter") refl) ∙ t.outermost;
      restore_is = name_other ds e es (codes "restore") (other (codes "restore") refl) ∙ t.restore_is;
      new = both_true (nat_lt e.dictionary (s.work.made + 1)) (none_newer s.work.made es) (lt-ltb e.dictionary (s.work.made + 1) made) t.new;
      older = t.older;
    }
