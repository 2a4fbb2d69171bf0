-- Groups to the end of a text, or the one item whose page number is left out.
use Rattle.std.proofs.Common.{◌≡◌, ◌≢◌, ℕ, List, [], ◌∷◌, Option, Some, None, refl, sym, ap, subst, ◌∙◌, ◌++◌, inl, inr, append-nil, min}
use Rattle.std.specs.List.{AllZip}
use Rattle.std.specs.Prelude.{MatchResult, Result, Ok, Err, IfOk, IfErr}
use Rattle.rules.specs.Specification.{WrittenItem, IsBareItem, AreGroups}
use Rattle.pagespec.specs.Reading.{◌>>=◌, groups_at, bare_at, all_groups_at, if_all_read, whole_groups_at, or_bare}
use Rattle.pagespec.specs.Places.{StuckIn, StuckAfter, ReadsBefore}
use Rattle.pagespec.specs.Parsed.{ItemShows}
use Rattle.pagespec.specs.Groups.{GroupsRead, ParsesTo, BareRead, IsStop, AreWholeGroups}
use Rattle.pagespec.specs.declared.parsed.ParsedItem.{ParsedItem}
use Rattle.pagespec.specs.declared.groups.ParsedGroups.{ParsedGroups}
use Rattle.pagespec.specs.declared.groups.Stop.{Stop}
use Rattle.pagespec.specs.declared.scan.ParseStop.{ParseStop as Place}
use Rattle.pagespec.specs.declared.groups.Stop.TheVariants.{Stuck, NoMemory}
use Rattle.pagespec.proofs.Texts.{bare_found, all_groups_read}
use Rattle.pagespec.proofs.StuckPlaces.{stuck_there, stuck_farther}
use Rattle.pagespec.proofs.MeasureStuck.{IsSome, Nothing}

pub whole_there : (t rest : List ℕ) (parsed : ParsedGroups) → GroupsRead t parsed rest → rest ≡ [] → ParsesTo (groups_at t >>= if_all_read) parsed
whole_there t rest parsed (gs, found, are) e = (gs, ap (λ o. o >>= if_all_read) found ∙ ap (λ r. if_all_read (gs, r)) e, are)

-- nothing follows the groups of a whole text
not_whole : (o : Option (List (List WrittenItem) × List ℕ)) (rest : List ℕ) → rest ≢ [] → ReadsBefore rest o → (o >>= if_all_read) ≡ None
not_whole o [] n read = absurd (n refl)
not_whole o (b ∷ rest) n (gs, [], e, l) = absurd (cc (l))
not_whole o (b ∷ rest) n (gs, a ∷ after, e, l) = ap (λ x. x >>= if_all_read) e

pub whole_ended : (t rest : List ℕ) (left : ℕ) → (gs : List (List WrittenItem)) → groups_at t ≡ Some (gs, rest) → rest ≢ [] → StuckAfter AreWholeGroups groups_at t rest left → StuckIn AreWholeGroups whole_groups_at t left
whole_ended t rest left gs found n s = (
  not_whole (groups_at t) rest n (gs, rest, found, refl),
  stuck_there (IsSome AreWholeGroups) (λ u. ReadsBefore rest (groups_at u)) (IsSome AreWholeGroups) (Nothing whole_groups_at) t left
      (λ x is. ([], subst (IsSome AreWholeGroups) (sym (append-nil x)) is)) (λ u l read. not_whole (groups_at u) rest n read) s,
)

pub whole_stuck : (t : List ℕ) (left : ℕ) → StuckIn AreWholeGroups groups_at t left → StuckIn AreWholeGroups whole_groups_at t left
whole_stuck t left (none, s) = (
  ap (λ o. o >>= if_all_read) none,
  stuck_there (IsSome AreWholeGroups) (Nothing groups_at) (IsSome AreWholeGroups) (Nothing whole_groups_at) t left
      (λ x is. ([], subst (IsSome AreWholeGroups) (sym (append-nil x)) is)) (λ u l e. ap (λ o. o >>= if_all_read) e) s,
)

pub all_there : (t : List ℕ) (parsed : ParsedGroups) → ParsesTo (groups_at t >>= if_all_read) parsed → ParsesTo (all_groups_at t) parsed
unfolding all_groups_at
all_there t parsed (gs, found, are) = (gs, ap (or_bare t) found, are)

all_none : (t : List ℕ) → bare_at t ≡ None → whole_groups_at t ≡ None → all_groups_at t ≡ None
unfolding all_groups_at
all_none t b e = ap (or_bare t) e ∙ ap (λ o. o >>= λ i. Some ((i ∷ []) ∷ [])) b

as_groups : (t : List ℕ) → IsSome AreWholeGroups t → (m : List ℕ) × IsSome AreGroups (t ++ m)
as_groups t (gs, are) = ([], (gs, inl (subst (λ x. AreWholeGroups x gs) (sym (append-nil t)) are)))

as_bare : (t : List ℕ) → IsSome IsBareItem t → (m : List ℕ) × IsSome AreGroups (t ++ m)
as_bare t (i, is) = ([], ((i ∷ []) ∷ [], inr (i, refl, subst (λ x. IsBareItem x i) (sym (append-nil t)) is)))

-- both readers are stuck, and so is the one that goes farther
pub all_stuck : (t : List ℕ) (bare groups left : ℕ) → StuckIn IsBareItem bare_at t bare → StuckIn AreWholeGroups whole_groups_at t groups → left ≡ min groups bare → StuckIn AreGroups all_groups_at t left
all_stuck t bare groups left (no_bare, b) (no_groups, g) e = (
  all_none t no_bare no_groups,
  stuck_farther (IsSome AreWholeGroups) (Nothing whole_groups_at) (IsSome IsBareItem) (Nothing bare_at) (IsSome AreGroups) (Nothing all_groups_at) t groups bare left as_groups as_bare (λ u x y. all_none u y x) g b e,
)

all_bare : (t : List ℕ) (i : WrittenItem) → bare_at t ≡ Some i → all_groups_at t ≡ Some ((i ∷ []) ∷ [])
all_bare t i e = all_groups_read t _ (inr (i, refl, bare_found t i e))

-- the one item is the whole text
pub bare_parsed : (t : List ℕ) (item : ParsedItem) (parsed : ParsedGroups) → BareRead t item → parsed.items.items ≡ item ∷ [] → parsed.lengths.items ≡ 1 ∷ [] → ParsesTo (all_groups_at t) parsed
bare_parsed t item parsed (i, found, shows) items lengths =
    ((i ∷ []) ∷ [], all_bare t i found, record { items = subst (λ ks. AllZip (λ k j. ItemShows j k) ks (i ∷ [])) (sym items) (shows, tt); lengths = lengths })

pub bare_outcome : (t : List ℕ) (item : ParsedItem) (r : Result ParsedGroups Stop) → BareRead t item → IfOk r (λ k. (k.items.items ≡ item ∷ []) × (k.lengths.items ≡ 1 ∷ [])) → IfErr r (λ e. e ≡ NoMemory)
    → MatchResult r (ParsesTo (all_groups_at t)) (IsStop AreGroups all_groups_at t)
bare_outcome t item (Ok parsed) read alone stop = bare_parsed t item parsed read alone.0 alone.1
bare_outcome t item (Err e) read alone stop = subst (IsStop AreGroups all_groups_at t) (sym stop) tt

pub stuck_at : {X Y : Type 0} (R : List ℕ → X → Type 0) (part : List ℕ → Option Y) (bytes : List ℕ) (s : Stop) (place : Place) → s ≡ Stuck place → IsStop R part bytes s → StuckIn R part bytes place.left
stuck_at R part bytes s place e h = subst (IsStop R part bytes) e h
