-- Where the bits of each sheet are, sheet by sheet, and that a new table keeps its rule.
use Rattle.std.proofs.Common.{◌≡◌, ℕ, zero, suc, ◌+◌, ◌*◌, ◌/◌, ◌<◌, ◌≤◌, Bool, true, false, true≢false, ltb, List, [], ◌∷◌, ◌++◌, length, refl, sym, ap, ◌∙◌, subst, arith, length-append, get_or}
use Rattle.std.specs.Prelude.{slice_index_or, if◌then◌else◌}
use mathlib.Core.Logic.{dite}
use native.Mathlib.Decide.{ℕ_discrete}
use Rattle.std.proofs.lemmas.List.{get_or_append_left, get_or-append-add}
use Rattle.atomic_table.specs.Table.{opening}
use Rattle.rules.specs.Sheets.{Layout}
use Rattle.gather_table.specs.declared.lane.Home.{Home}
use Rattle.gather_table.specs.declared.lane.Lane.{Lane}
use Rattle.gather_table.specs.Homes.{IsHome, AreHomes}
use Rattle.gather_table.specs.Lanes.{width, lane, free, lane_for, bits_after, wide_at}
use Rattle.gather_table.specs.Rule.{WordsHold, HasTableHistory}
use Rattle.gather_table.specs.Table.{IsSoundLayout, slots_on, is_wide, group_count, start}
use Rattle.gather_table.proofs.Lanes.{width_le, free_inside, facts}
use Rattle.gather_table.proofs.Sheets.{few_groups}
use Rattle.rules.specs.Seats.{opening_sight}

-- the first n sheets have their places: the next lane follows theirs, and the next wide sheet follows the wide ones
-- among them
pub record Placed (layout : Layout) (n : ℕ) (homes : List Home) (next : Lane) (wide : ℕ) : Type 0 where
  pub count : length homes ≡ n
  pub homes_are : (s : ℕ) (d : Home) → s < n → IsHome layout s (slice_index_or homes s d)
  pub next_is : next ≡ free layout n
  pub wide_is : wide ≡ wide_at layout n

-- the place of a sheet, by the number of its slots
abbrev pub placed_at : (pages slots : ℕ) → Lane → (wide : ℕ) → Home
placed_at pages slots at wide = if ltb 64 slots then record { slots = slots; word = wide; first = 0 } else record { slots = slots; word = pages + at.word; first = at.first }

home_placed : (layout : Layout) (n slots wide : ℕ) (at : Lane) → slots ≡ slots_on layout n → at ≡ lane layout n → wide ≡ wide_at layout n → IsHome layout n (placed_at layout.pages slots at wide)
home_placed layout n slots wide at is_count is_lane is_wide_at = two (ltb 64 slots) refl
  where
    two : (b : Bool) → ltb 64 slots ≡ b → IsHome layout n (placed_at layout.pages slots at wide)
    two true e =
        let home : placed_at layout.pages slots at wide ≡ record { slots = slots; word = wide; first = 0 } = ap (λ (b : Bool). if b then record { slots = slots; word = wide; first = 0 } else record { slots = slots; word = layout.pages + at.word; first = at.first }) e in
        let w : is_wide layout n ≡ true = ap (ltb 64) (sym is_count) ∙ e in
        subst (IsHome layout n) (sym home) (record { slots = is_count; lane = λ slim. absurd (true≢false (sym w ∙ slim)); wide = λ _. is_wide_at })
    two false e =
        let home : placed_at layout.pages slots at wide ≡ record { slots = slots; word = layout.pages + at.word; first = at.first } = ap (λ (b : Bool). if b then record { slots = slots; word = wide; first = 0 } else record { slots = slots; word = layout.pages + at.word; first = at.first }) e in
        let w : is_wide layout n ≡ false = ap (ltb 64) (sym is_count) ∙ e in
        subst (IsHome layout n) (sym home) (record {
          slots = is_count;
          lane = λ _. (ap (λ (l : Lane). layout.pages + l.word) is_lane, ap (λ (l : Lane). l.first) is_lane);
          wide = λ is. absurd (true≢false (sym is ∙ w));
        })

-- the lane of the next sheet, and the next free bit after it
pub lane_next : (layout : Layout) (n slots bits : ℕ) (next at : Lane) → next ≡ free layout n → slots ≡ slots_on layout n → bits ≡ (if ltb 64 slots then 0 else slots) → at ≡ lane_for next bits
    → (bits ≡ width layout n) × (at ≡ lane layout n) × (bits_after at bits ≡ free layout (n + 1))
lane_next layout n slots bits next at is_next is_count is_bits is_at =
    let w : bits ≡ width layout n = is_bits ∙ ap (λ (k : ℕ). if ltb 64 k then 0 else k) is_count in
    let l : at ≡ lane layout n = is_at ∙ (λ i. lane_for (is_next i) (w i)) in
    let one : suc n ≡ n + 1 = omega arith in
    (w, l, (λ i. bits_after (l i) (w i)) ∙ ap (free layout) one)

pub more_placed : (layout : Layout) (n slots bits pages own wide : ℕ) (homes : List Home) (home : Home) (next at : Lane) → n < length layout.sheets → Placed layout n homes next wide → pages ≡ layout.pages → slots ≡ slots_on layout n
    → bits ≡ (if ltb 64 slots then 0 else slots) → at ≡ lane_for next bits → home ≡ placed_at pages slots at wide → own ≡ (if ltb 64 slots then 1 + (slots + 63) / 64 else 0) → Placed layout (n + 1) (homes ++ home ∷ []) (bits_after at bits) (wide + own)
more_placed layout n slots bits pages own wide homes home next at lt p is_pages is_count is_bits is_at is_home is_own =
    let next_lane = lane_next layout n slots bits next at p.next_is is_count is_bits is_at in
    let one : suc n ≡ n + 1 = omega arith in
    let here : IsHome layout n home = subst (IsHome layout n) (sym (is_home ∙ ap (λ (k : ℕ). placed_at k slots at wide) is_pages)) (home_placed layout n slots wide at is_count next_lane.1 p.wide_is) in
    let mine : own ≡ (if is_wide layout n then 1 + group_count layout n else 0) = is_own ∙ ap (λ (k : ℕ). if ltb 64 k then 1 + (k + 63) / 64 else 0) is_count in
    record {
      count = let c = p.count in omega (arith, length-append homes (home ∷ []));
      homes_are = λ s d low. let c = p.count in dite (ℕ_discrete s n)
          (λ (same : s ≡ n).
          let at_end : s ≡ length homes + 0 = omega arith in
          let is : get_or (homes ++ home ∷ []) s d ≡ home = ap (λ (i : ℕ). get_or (homes ++ home ∷ []) i d) at_end ∙ get_or-append-add homes (home ∷ []) 0 d in
          subst (λ (z : ℕ × Home). IsHome layout z.0 z.1) (λ i. (sym same i, sym is i)) here)
          (λ other. subst (IsHome layout s) (sym (get_or_append_left homes (home ∷ []) d s (omega arith))) (p.homes_are s d (omega arith)));
      next_is = next_lane.2;
      wide_is = (λ i. p.wide_is i + mine i) ∙ ap (wide_at layout) one;
    }

-- a lane's word is no further than the sheets before it
pub word_below : (layout : Layout) (n : ℕ) → n ≤ length layout.sheets → (free layout n).word ≤ n
word_below layout zero le = omega arith
word_below layout (suc n) le = let h = word_below layout n (omega arith) in let a = (facts layout (λ q _. width_le layout q) n (omega arith)).3 in omega arith

-- and a wide sheet has at most 65 words
pub wide_below : (layout : Layout) → IsSoundLayout layout → (n : ℕ) → n ≤ length layout.sheets → wide_at layout n ≤ 2_000_001 + 65 * n
wide_below layout ok zero le = let w = word_below layout (length layout.sheets) (omega arith) in let p = ok.few_pages in let s = ok.few_sheets in omega arith
wide_below layout ok (suc n) le = let h = wide_below layout ok n (omega arith) in let g = few_groups layout ok.narrow n (omega arith) in two (is_wide layout n) refl h g
  where
    two : (b : Bool) → is_wide layout n ≡ b → wide_at layout n ≤ 2_000_001 + 65 * n → group_count layout n ≤ 64 → wide_at layout n + (if is_wide layout n then 1 + group_count layout n else 0) ≤ 2_000_001 + 65 * suc n
    two true e h g = subst (λ (b : Bool). wide_at layout n + (if b then 1 + group_count layout n else 0) ≤ 2_000_001 + 65 * suc n) (sym e) (omega arith)
    two false e h g = subst (λ (b : Bool). wide_at layout n + (if b then 1 + group_count layout n else 0) ≤ 2_000_001 + 65 * suc n) (sym e) (omega arith)

-- so the numbers in the code are small
pub may_fit : (layout : Layout) → IsSoundLayout layout → (n slots bits : ℕ) (next : Lane) → n < length layout.sheets → next ≡ free layout n → slots ≡ slots_on layout n → bits ≡ (if ltb 64 slots then 0 else slots) → (next.first ≤ 64) × (bits ≤ 64) × (next.word < 1_000_000)
may_fit layout ok n slots bits next lt is_next is_count is_bits =
    let few = ok.few_sheets in
    let w = (lane_next layout n slots bits next (lane_for next bits) is_next is_count is_bits refl).0 in
    let most = width_le layout n in
    let word = ap (λ (z : Lane). z.word) is_next in
    let first = ap (λ (z : Lane). z.first) is_next in
    let h = word_below layout n (omega arith) in
    let f = free_inside layout (λ q _. width_le layout q) n (omega arith) in
    (omega arith, omega arith, omega arith)

-- the bits of the next lane end in its word
pub lane_ends : (next at : Lane) (bits : ℕ) → next.first ≤ 64 → bits ≤ 64 → at ≡ lane_for next bits → at.first + bits < 256
lane_ends next at bits first few is_at = two (ltb 64 (next.first + bits)) refl
  where
    two : (b : Bool) → ltb 64 (next.first + bits) ≡ b → at.first + bits < 256
    two true e = let none : at.first ≡ 0 = ap (λ (l : Lane). l.first) is_at ∙ ap (λ (b : Bool). (if b then record { word = next.word + 1; first = 0 } else next).first) e in omega arith
    two false e = let here : at.first ≡ next.first = ap (λ (l : Lane). l.first) is_at ∙ ap (λ (b : Bool). (if b then record { word = next.word + 1; first = 0 } else next).first) e in omega arith

-- at the end all sheets have their places
pub all_placed : (layout : Layout) (n : ℕ) (homes : List Home) (next : Lane) (wide : ℕ) → n ≡ length layout.sheets → Placed layout n homes next wide → AreHomes layout homes × (wide ≡ wide_at layout (length layout.sheets))
all_placed layout n homes next wide end p = (
  record { count = p.count ∙ end; each = λ s d lt. p.homes_are s d (omega arith) },
  p.wide_is ∙ ap (wide_at layout) end,
)

pub lane_low : (layout : Layout) → IsSoundLayout layout → (n slots bits : ℕ) (next at : Lane) → n < length layout.sheets → next ≡ free layout n → slots ≡ slots_on layout n → bits ≡ (if ltb 64 slots then 0 else slots) → at ≡ lane_for next bits → at.word ≤ 1_000_000
lane_low layout ok n slots bits next at lt is_next is_count is_bits is_at =
    let few = ok.few_sheets in
    let word = ap (λ (z : Lane). z.word) (lane_next layout n slots bits next at is_next is_count is_bits is_at).1 in
    let h = word_below layout n (omega arith) in
    let a = (facts layout (λ q _. width_le layout q) n lt).3 in
    omega arith

pub wide_fits : (layout : Layout) → IsSoundLayout layout → (n slots own wide : ℕ) → n < length layout.sheets → wide ≡ wide_at layout n → slots ≡ slots_on layout n → own ≡ (if ltb 64 slots then 1 + (slots + 63) / 64 else 0) → wide + own < 4294967296
wide_fits layout ok n slots own wide lt is_wide_at is_count is_own =
    let few = ok.few_sheets in
    let mine : own ≡ (if is_wide layout n then 1 + group_count layout n else 0) = is_own ∙ ap (λ (k : ℕ). if ltb 64 k then 1 + (k + 63) / 64 else 0) is_count in
    let h = wide_below layout ok (suc n) (omega arith) in
    omega arith

-- the rule holds for the words at the start
pub opens : (layout : Layout) (words : List ℕ) → WordsHold layout (start layout) words → HasTableHistory layout (opening words [] (opening_sight layout))
opens layout words h = (
  [],
  record {
    legal = tt;
    words = h;
    seats = Rattle.rules.proofs.SeatShares.opens layout;
  },
)
