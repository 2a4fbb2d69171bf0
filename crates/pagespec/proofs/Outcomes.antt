-- The result of reading a whole text.
use Rattle.std.proofs.Common.{arith, ◌≡◌, ◌≤◌, ◌<◌, ◌^◌, ℕ, suc, List, [], ◌∷◌, Bool, true, false, Option, Some, None, refl, sym, ap, subst, ◌∙◌, inl, inr, length, map, min}
use Rattle.std.specs.Prelude.{flat_map, option_map, ◌==◌, nat_lt, nat_le, position}
use Rattle.std.specs.List.{list_any}
use Rattle.std.proofs.lemmas.List.{length-append, length-map, append-nil}
use Rattle.std.proofs.lemmas.Slice.Zip.{AllZip-long}
use Rattle.rules.specs.Specification.{WrittenItem, WrittenSpec, Item, Spec, IsSpec, IsItem, IsJoined, AreGroups, settled}
use Rattle.rules.specs.Admissible.{Fault, TooLong, Syntax, TooLarge, ModuloZero, PageOutOfBlock, ScaleZero, Repeated, TooManySlots, TooManyGroups, items, fault_of, else_first, only_if, at_lowest, any_too_large, is_flat, repeats, Refuses, Takes, IsAdmissible, most_slots, most_spec_bytes, most_groups}
use Rattle.pagespec.specs.Reading.{spec_at}
use Rattle.pagespec.specs.Groups.{AreParsed}
use Rattle.pagespec.specs.Faults.{fault_named, first_fault_of}
use Rattle.pagespec.specs.Settled.{item_of_parsed, split_by, AreLengths}
use Rattle.pagespec.specs.Written.{WrittenRead}
use Rattle.pagespec.specs.Refusals.{NamesFault, IsRefusal, IsSyntaxPlace}
use Rattle.pagespec.specs.Parsed.{ItemShows}
use Rattle.pagespec.specs.declared.parsed.ParsedItem.{ParsedItem}
use Rattle.pagespec.specs.declared.groups.ParsedGroups.{ParsedGroups}
use Rattle.pagespec.specs.declared.error.SpecError.{SpecError}
use Rattle.pagespec.specs.declared.error.SpecError.TheVariants as error
use Rattle.lengths.proofs.Numbers.{some_same}
use Rattle.pagespec.proofs.Joined.{few_parts}
use Rattle.pagespec.specs.Groups.{IsGroup}
use Rattle.pagespec.proofs.Texts.{spec_found, no_tree}
use Rattle.pagespec.proofs.Faults.{told_fault, no_fault, neither, small_items, capped_small}
use Rattle.pagespec.proofs.Settling.{groups_settle, parsed_fit}

pub syntax_refused : (t bytes : List ℕ) → length t ≤ most_spec_bytes → bytes ≡ t → spec_at bytes ≡ None → Refuses most_slots t Syntax
syntax_refused t bytes h b e = (h, λ spec is. no_tree t (ap spec_at (sym b) ∙ e) spec is)

-- a text that was read, and what was parsed from it
pub record Read (t : List ℕ) (modulo : ℕ) (parsed : List ParsedItem) (lengths : List ℕ) : Type 0 where
  pub spec : WrittenSpec
  pub stands : IsSpec t spec
  pub modulo_is : modulo ≡ min 100_000 spec.modulo
  pub shows : AreParsed parsed (items spec)
  pub counted : lengths ≡ map length spec.groups

pub all_read : (t bytes : List ℕ) (modulo : ℕ) (parsed : ParsedGroups) (ks : List ParsedItem) (ns : List ℕ) → bytes ≡ t → WrittenRead bytes modulo parsed → ks ≡ parsed.items.items → ns ≡ parsed.lengths.items → Read t modulo ks ns
all_read t bytes modulo parsed ks ns b read e f = record {
  spec = read.spec;
  stands = spec_found t read.spec (ap spec_at (sym b) ∙ read.found);
  modulo_is = read.modulo_is;
  shows = subst (λ xs. AreParsed xs (items read.spec)) (sym e) read.groups.items;
  counted = f ∙ read.groups.lengths;
}

-- each item but one has a byte before or after it that belongs to no other
few_in_groups : (gs : List (List WrittenItem)) (text : List ℕ) → IsJoined 44 IsGroup text gs → length (flat_map (λ g. g) gs) ≤ suc (length text)
few_in_groups [] text joined = absurd joined
few_in_groups (g ∷ []) text joined = subst (λ xs. length xs ≤ suc (length text)) (sym (append-nil g)) (few_parts 43 IsItem g text joined)
few_in_groups (g ∷ h ∷ gs) text (front, rest, e, is, joined) =
    omega (arith, length-append g (flat_map (λ x. x) (h ∷ gs)), few_parts 43 IsItem g front is, few_in_groups (h ∷ gs) rest joined, ap length e, length-append front (44 ∷ rest))

few_items : (text : List ℕ) (gs : List (List WrittenItem)) → AreGroups text gs → length (flat_map (λ g. g) gs) ≤ suc (length text)
few_items text gs (inl joined) = few_in_groups gs text joined
few_items text gs (inr (i, e, bare)) = subst (λ x. length (flat_map (λ g. g) x) ≤ suc (length text)) (sym e) (omega arith)

few_groups : (text : List ℕ) (gs : List (List WrittenItem)) → AreGroups text gs → length gs ≤ suc (length text)
few_groups text gs (inl joined) = few_parts 44 IsGroup gs text joined
few_groups text gs (inr (i, e, bare)) = subst (λ x. length x ≤ suc (length text)) (sym e) (omega arith)

few_items_in : (t : List ℕ) (spec : WrittenSpec) → IsSpec t spec → length (items spec) ≤ suc (length t)
few_items_in t spec (inl (m, are)) = few_items t spec.groups are
few_items_in t spec (inr (ds, rest, e, is, are)) = omega (arith, few_items rest spec.groups are, ap length e, length-append ds (58 ∷ rest))

few_groups_in : (t : List ℕ) (spec : WrittenSpec) → IsSpec t spec → length spec.groups ≤ suc (length t)
few_groups_in t spec (inl (m, are)) = few_groups t spec.groups are
few_groups_in t spec (inr (ds, rest, e, is, are)) = omega (arith, few_groups rest spec.groups are, ap length e, length-append ds (58 ∷ rest))

pub few_parsed : (t : List ℕ) (modulo : ℕ) (ks : List ParsedItem) (ns : List ℕ) → Read t modulo ks ns → length t ≤ most_spec_bytes → length ks < 2 ^ 32
few_parsed t modulo ks ns read h = omega (arith, h, AllZip-long (λ k i. ItemShows i k) ks (items read.spec) read.shows, few_items_in t read.spec read.stands)

pub few_lengths : (t : List ℕ) (modulo : ℕ) (ks : List ParsedItem) (ns : List ℕ) → Read t modulo ks ns → length t ≤ most_spec_bytes → length ns < 2 ^ 32
few_lengths t modulo ks ns read h = omega (arith, h, ap length read.counted, length-map read.spec.groups length, few_groups_in t read.spec read.stands)

-- a fault of the meaning of a text is no fault of the text itself
abbrev OfSpec : Option Fault → Type 0
OfSpec None = Unit {0}
OfSpec (Some TooLong) = ⊥
OfSpec (Some Syntax) = ⊥
OfSpec (Some TooLarge) = Unit {0}
OfSpec (Some ModuloZero) = Unit {0}
OfSpec (Some (PageOutOfBlock i)) = Unit {0}
OfSpec (Some (ScaleZero i)) = Unit {0}
OfSpec (Some (Repeated i)) = Unit {0}
OfSpec (Some (TooManySlots g)) = Unit {0}
OfSpec (Some TooManyGroups) = Unit {0}

of_else : (a b : Option Fault) → OfSpec a → OfSpec b → OfSpec (else_first a b)
of_else None b h g = g
of_else (Some f) b h g = h

of_if : (b : Bool) (f : Fault) → OfSpec (Some f) → OfSpec (only_if b f)
of_if true f h = h
of_if false f h = tt

of_place : (o : Option ℕ) (f : ℕ → Fault) → ((i : ℕ) → OfSpec (Some (f i))) → OfSpec (at_lowest o f)
of_place None f h = tt
of_place (Some i) f h = h i

of_spec : (spec : WrittenSpec) → OfSpec (fault_of most_slots spec)
of_spec spec =
    of_else (only_if (any_too_large spec) TooLarge) _ (of_if (any_too_large spec) TooLarge tt)
    (of_else (only_if (spec.modulo == 0) ModuloZero) _ (of_if (spec.modulo == 0) ModuloZero tt)
    (of_else (at_lowest (position (λ i. nat_le spec.modulo i.page) (items spec)) PageOutOfBlock) _ (of_place (position (λ i. nat_le spec.modulo i.page) (items spec)) PageOutOfBlock (λ i. tt))
    (of_else (at_lowest (position (λ i. list_any is_flat i.modifiers) (items spec)) ScaleZero) _ (of_place (position (λ i. list_any is_flat i.modifiers) (items spec)) ScaleZero (λ i. tt))
    (of_else (at_lowest (position repeats (items spec)) Repeated) _ (of_place (position repeats (items spec)) Repeated (λ i. tt))
    (of_else (at_lowest (position (λ g. nat_lt most_slots (length g)) spec.groups) TooManySlots) _ (of_place (position (λ g. nat_lt most_slots (length g)) spec.groups) TooManySlots (λ i. tt))
    (of_if (nat_lt most_groups (length spec.groups)) TooManyGroups tt))))))

refused_by : (t : List ℕ) (spec : WrittenSpec) (f : Fault) → length t ≤ most_spec_bytes → IsSpec t spec → fault_of most_slots spec ≡ Some f → OfSpec (Some f) → Refuses most_slots t f
refused_by t spec TooLong h is e o = absurd o
refused_by t spec Syntax h is e o = absurd o
refused_by t spec TooLarge h is e o = (h, spec, is, e)
refused_by t spec ModuloZero h is e o = (h, spec, is, e)
refused_by t spec (PageOutOfBlock i) h is e o = (h, spec, is, e)
refused_by t spec (ScaleZero i) h is e o = (h, spec, is, e)
refused_by t spec (Repeated i) h is e o = (h, spec, is, e)
refused_by t spec (TooManySlots g) h is e o = (h, spec, is, e)
refused_by t spec TooManyGroups h is e o = (h, spec, is, e)

named_refused : (t : List ℕ) (spec : WrittenSpec) (named : Option Fault) (f : Option Fault) → length t ≤ most_spec_bytes → IsSpec t spec → fault_of most_slots spec ≡ f → Some named ≡ option_map (λ x. Some x) f → NamesFault t named
named_refused t spec named None h is e told = absurd (cc (told))
named_refused t spec named (Some f) h is e told =
    subst (NamesFault t) (sym (some_same named (Some f) told)) (refused_by t spec f h is e (subst OfSpec e (of_spec spec)))

pub fault_refused : (t : List ℕ) (modulo : ℕ) (ks : List ParsedItem) (ns : List ℕ) (e : SpecError) → Read t modulo ks ns → length t ≤ most_spec_bytes → Some e ≡ first_fault_of modulo ks ns → IsRefusal t e
fault_refused t modulo ks ns e read h told =
    named_refused t read.spec (fault_named e) (fault_of most_slots read.spec) h read.stands refl
    (ap (option_map fault_named) told ∙ told_fault read.spec modulo ks ns read.shows read.counted read.modulo_is)

-- a text that was read has no syntax fault
no_syntax_fault : (t : List ℕ) (modulo : ℕ) (ks : List ParsedItem) (ns : List ℕ) (e : SpecError) → Read t modulo ks ns → IsRefusal t e → IsSyntaxPlace t e
no_syntax_fault t modulo ks ns error.TooLong read refused = tt
no_syntax_fault t modulo ks ns (error.Syntax at) read refused = absurd (refused.1 read.spec read.stands)
no_syntax_fault t modulo ks ns error.TooLarge read refused = tt
no_syntax_fault t modulo ks ns error.ModuloZero read refused = tt
no_syntax_fault t modulo ks ns (error.PageOutOfBlock i) read refused = tt
no_syntax_fault t modulo ks ns (error.ScaleZero i) read refused = tt
no_syntax_fault t modulo ks ns (error.Repeated i) read refused = tt
no_syntax_fault t modulo ks ns (error.TooManySlots g) read refused = tt
no_syntax_fault t modulo ks ns error.TooManyGroups read refused = tt
no_syntax_fault t modulo ks ns error.NoMemory read refused = tt

pub fault_placed : (t : List ℕ) (modulo : ℕ) (ks : List ParsedItem) (ns : List ℕ) (e : SpecError) → Read t modulo ks ns → length t ≤ most_spec_bytes → Some e ≡ first_fault_of modulo ks ns → IsSyntaxPlace t e
fault_placed t modulo ks ns e read h told = no_syntax_fault t modulo ks ns e read (fault_refused t modulo ks ns e read h told)

none_told : (f : Option Fault) (o : Option SpecError) → None ≡ o → option_map fault_named o ≡ option_map (λ x. Some x) f → f ≡ None
none_told None o e told = refl
none_told (Some f) None e told = absurd (cc (told))
none_told (Some f) (Some x) e told = absurd (cc (e))

pub faultless : (t : List ℕ) (modulo : ℕ) (ks : List ParsedItem) (ns : List ℕ) (read : Read t modulo ks ns) → None ≡ first_fault_of modulo ks ns → fault_of most_slots read.spec ≡ None
faultless t modulo ks ns read e = none_told _ _ e (told_fault read.spec modulo ks ns read.shows read.counted read.modulo_is)

pub lengths_right : (t : List ℕ) (modulo : ℕ) (ks : List ParsedItem) (ns : List ℕ) → Read t modulo ks ns → AreLengths ns ks
lengths_right t modulo ks ns read = parsed_fit (λ k i. ItemShows i k) ks read.spec.groups ns read.shows read.counted

abbrev spec_of : ℕ → List (List Item) → Spec
spec_of modulo groups = record { modulo = modulo; groups = groups }

same_spec : (m n : ℕ) (gs hs : List (List Item)) → m ≡ n → gs ≡ hs → spec_of m gs ≡ spec_of n hs
same_spec m n gs hs e f = rw e (rw f refl)

comes_to : (t : List ℕ) (modulo : ℕ) (ks : List ParsedItem) (ns : List ℕ) (groups : List (List Item)) (read : Read t modulo ks ns) → None ≡ first_fault_of modulo ks ns
    → groups ≡ split_by ns (map item_of_parsed ks) → spec_of modulo groups ≡ settled read.spec
comes_to t modulo ks ns groups read none e =
    let small = neither _ _ (no_fault read.spec (faultless t modulo ks ns read none)) in
    same_spec _ _ _ _ (capped_small modulo read.spec.modulo read.modulo_is small.0)
    (e ∙ groups_settle ks read.spec.groups ns (small_items ks (items read.spec) read.shows small.1) read.counted)

pub admissible : (t : List ℕ) (modulo : ℕ) (ks : List ParsedItem) (ns : List ℕ) (groups : List (List Item)) → Read t modulo ks ns → length t ≤ most_spec_bytes → None ≡ first_fault_of modulo ks ns
    → groups ≡ split_by ns (map item_of_parsed ks) → IsAdmissible most_slots (spec_of modulo groups)
admissible t modulo ks ns groups read h none e = record { text = t; taken = (h, read.spec, read.stands, faultless t modulo ks ns read none, comes_to t modulo ks ns groups read none e) }

pub taken : (t : List ℕ) (modulo : ℕ) (ks : List ParsedItem) (ns : List ℕ) (groups : List (List Item)) (result : Spec) → Read t modulo ks ns → length t ≤ most_spec_bytes → None ≡ first_fault_of modulo ks ns
    → groups ≡ split_by ns (map item_of_parsed ks) → result ≡ spec_of modulo groups → Takes most_slots t result
taken t modulo ks ns groups result read h none e is =
    (h, read.spec, read.stands, faultless t modulo ks ns read none, is ∙ comes_to t modulo ks ns groups read none e)

-- the same groups, by equal rows
pub split_same : (a b x : List ParsedItem) (n m y : List ℕ) → a ≡ x → b ≡ x → n ≡ y → m ≡ y → split_by n (map item_of_parsed a) ≡ split_by m (map item_of_parsed b)
split_same a b x n m y e f g h = ap (λ z. split_by n (map item_of_parsed z)) (e ∙ sym f) ∙ ap (λ k. split_by k (map item_of_parsed b)) (g ∙ sym h)
