-- The sheets of a specification that are made block by block, and how many they are.
use Rattle.std.proofs.Common.{arith, ◌≡◌, ℕ, zero, suc, min, ◌+◌, ◌*◌, ◌/◌, ◌%◌, ◌<◌, ◌≤◌, inl, inr, subst, List, [], ◌∷◌, ◌++◌, length, map, take, get_or, refl, sym, ap, ◌∙◌, append_assoc}
use Rattle.std.specs.Prelude.{flat_map, sum_by}
use Rattle.std.specs.List.{range_with_len}
use Rattle.std.specs.declared.vec.Vec.{Vec}
use Rattle.std.specs.declared.alloc.Global.{Global}
use Rattle.std.proofs.lemmas.List.{map_more, map_push, length-map, flat_map_more}
use Rattle.std.proofs.lemmas.List.Sums.{sum_by-cons}
use Rattle.std.proofs.lemmas.Nat.{mul-le}
use Rattle.rules.specs.Bytes.{comma, plus_sign}
use Rattle.rules.specs.Admissible.{IsAdmissible, most_groups, most_slots}
use Rattle.rules.specs.Papers.{Paper}
use Rattle.rules.specs.Specification.{AreGroups, IsItem, IsJoined, IsSpec, Item, Spec, WrittenItem, WrittenSpec, settled_item}
use Rattle.rules.specs.Sheets.{Slot, blocks}
use Rattle.rules.specs.Signatures.{entry_of}
use Rattle.rules.proofs.Counts.{sheet_count, place_count}
use Rattle.rules.specs.Made.{MadeSheet, made_slot}
use Rattle.rules.specs.MadePlans.{slot_count}
use Rattle.rules.specs.Rows.{Row, sheets_of_row}
use Rattle.pagespec.specs.declared.item.Item.{Item as PageItem}
use Rattle.pagespec.specs.Items.{groups_of, item_of}
use Rattle.sheet_plan.proofs.Access.{few_in_block}
use Rattle.sheet_plan.proofs.Admitted.{bounded}
use Rattle.sheet_plan.proofs.Bounds.{blocks_ceil}
use Rattle.row_sheets.specs.BySpec.{made_on, by_spec}

-- one group more
pub group_more : (sheet_of : List Item → MadeSheet) (groups : List (Vec PageItem Global)) (i : ℕ) (group : Vec PageItem Global) (old now new : List MadeSheet) (sheet : MadeSheet) → i < length groups → group ≡ get_or groups i group
    → now ≡ old ++ map sheet_of (groups_of (take i groups)) → new ≡ now ++ sheet ∷ [] → sheet ≡ sheet_of (map item_of group.items) → new ≡ old ++ map sheet_of (groups_of (take (i + 1) groups))
group_more sheet_of groups i group old now new sheet lt is so_far more here =
    more
    ∙ ap (λ (xs : List MadeSheet). xs ++ sheet ∷ []) so_far
    ∙ append_assoc old (map sheet_of (groups_of (take i groups))) (sheet ∷ [])
    ∙ ap (λ (x : MadeSheet). old ++ (map sheet_of (groups_of (take i groups)) ++ x ∷ [])) (here ∙ ap (λ (g : Vec PageItem Global). sheet_of (map item_of g.items)) is)
    ∙ ap (λ (xs : List MadeSheet). old ++ xs) (sym (map_push sheet_of (groups_of (take i groups)) (map item_of (get_or groups i group).items)))
    ∙ ap (λ (gs : List (List Item)). old ++ map sheet_of gs) (sym (map_more (λ (g : Vec PageItem Global). map item_of g.items) groups i group lt))

range_more : (a n j : ℕ) → a + n ≡ j → range_with_len a (suc n) ≡ range_with_len a n ++ j ∷ []
range_more a zero j is = ap (λ k. k ∷ []) (omega (arith, is))
range_more a (suc n) j is = ap (λ ks. a ∷ ks) (range_more (a + 1) n j (omega (arith, is)))

-- one block more
pub block_more : (f : ℕ → List MadeSheet) (old new : List MadeSheet) (b : ℕ) → old ≡ flat_map f (range_with_len 0 b) → new ≡ old ++ f b → new ≡ flat_map f (range_with_len 0 (b + 1))
block_more f old new b so_far more =
    let next : suc b ≡ b + 1 = omega arith in
    more
    ∙ ap (λ (xs : List MadeSheet). xs ++ f b) so_far
    ∙ flat_map_more f [] (range_with_len 0 b) b
    ∙ ap (flat_map f) (sym (range_more 0 b b (omega arith)) ∙ ap (range_with_len 0) next)

-- ---- a specification of a text has a group
joined_some : {X : Type 0} (c : ℕ) (R : List ℕ → X → Type 0) (text : List ℕ) (xs : List X) → IsJoined c R text xs → 0 < length xs
joined_some c R text [] j = absurd j
joined_some c R text (x ∷ xs) j = omega arith

groups_some : (text : List ℕ) (groups : List (List WrittenItem)) → AreGroups text groups → 0 < length groups
groups_some text groups (inl j) = joined_some comma (IsJoined plus_sign IsItem) text groups j
groups_some text groups (inr (i, is, bare)) = subst (λ (gs : List (List WrittenItem)). 0 < length gs) (sym is) (let one : 0 < length ((i ∷ []) ∷ []) = omega arith in one)

written_some : (text : List ℕ) (w : WrittenSpec) → IsSpec text w → 0 < length w.groups
written_some text w (inl (one, groups)) = groups_some text w.groups groups
written_some text w (inr (digits, rest, is, number, groups)) = groups_some rest w.groups groups

some_groups : (spec : Spec) → IsAdmissible most_slots spec → 0 < length spec.groups
some_groups spec a =
    let (short, written, stands, faultless, settles) = a.taken in
    subst (λ (s : Spec). 0 < length s.groups) (sym settles) (let some = written_some a.text written stands in let l = length-map written.groups (λ g. map settled_item g) in omega (arith, some, l))

-- ---- how many sheets, and how many slots on them
pub sheets_counted : (spec : Spec) (sheet page : Paper) (row : Row) → length (by_spec spec sheet page row) ≡ blocks spec.modulo (length row) * length spec.groups
sheets_counted spec sheet page row =
    length-map (sheets_of_row spec row) _ ∙ sheet_count spec (length row) (entry_of row)

slots_kept : (sheet page : Paper) (all : List (List Slot)) → sum_by slot_count (made_on sheet page all) ≡ sum_by length all
slots_kept sheet page [] = refl
slots_kept sheet page (x ∷ xs) =
    sum_by-cons slot_count (record { paper = sheet; slots = map (λ slot. made_slot page slot.page slot.item) x }) (made_on sheet page xs)
    ∙ ap (λ n. n + sum_by slot_count (made_on sheet page xs)) (length-map x (λ slot. made_slot page slot.page slot.item))
    ∙ ap (λ n. length x + n) (slots_kept sheet page xs)
    ∙ sym (sum_by-cons length x xs)

pub slots_counted : (spec : Spec) (sheet page : Paper) (row : Row) → sum_by slot_count (by_spec spec sheet page row) ≡ blocks spec.modulo (length row) * sum_by length spec.groups
slots_counted spec sheet page row = slots_kept sheet page (sheets_of_row spec row) ∙ place_count spec (length row) (entry_of row)

-- what the fields of a specification and the row say of the sheets
pub record IsCounted (spec : Spec) (sheet page : Paper) (row : Row) (many : ℕ) (groups : List (Vec PageItem Global)) : Type 0 where
  pub blocks_are : many ≡ blocks spec.modulo (length row)
  pub some_groups : 0 < length groups
  pub few_slots : sum_by length (groups_of groups) ≤ most_groups * most_slots
  pub sheet_total : many * length groups ≡ length (by_spec spec sheet page row)
  pub slot_total : many * sum_by length (groups_of groups) ≡ sum_by slot_count (by_spec spec sheet page row)

pub counted : (spec : Spec) (sheet page : Paper) (row : Row) (modulo many : ℕ) (groups : List (Vec PageItem Global)) → IsAdmissible most_slots spec → modulo ≡ spec.modulo → groups_of groups ≡ spec.groups → many ≡ length row / modulo + min 1 (length row % modulo)
    → IsCounted spec sheet page row many groups
counted spec sheet page row modulo many groups admissible same all is =
    let b = bounded spec admissible in
    let up : many ≡ blocks spec.modulo (length row) = is ∙ ap (λ m. length row / m + min 1 (length row % m)) same ∙ blocks_ceil (length row) spec.modulo b.modulo in
    let len : length groups ≡ length spec.groups = sym (length-map groups (λ g. map item_of g.items)) ∙ ap length all in
    record {
      blocks_are = up;
      some_groups = let some = some_groups spec admissible in omega (arith, some, len);
      few_slots = subst (λ (gs : List (List Item)). sum_by length gs ≤ most_groups * most_slots) (sym all) (few_in_block spec b);
      sheet_total = ap (λ n. n * length groups) up ∙ ap (λ n. blocks spec.modulo (length row) * n) len ∙ sym (sheets_counted spec sheet page row);
      slot_total = ap (λ n. n * sum_by length (groups_of groups)) up ∙ ap (λ (gs : List (List Item)). blocks spec.modulo (length row) * sum_by length gs) all ∙ sym (slots_counted spec sheet page row);
    }

-- no more blocks than sheets
pub few_blocks : (many groups most : ℕ) → 0 < groups → many * groups ≤ most → many ≤ most
few_blocks many groups most some le = let one : many * 1 ≤ many * groups = mul-le many 1 many groups (omega arith) some in omega (arith, one, le)
