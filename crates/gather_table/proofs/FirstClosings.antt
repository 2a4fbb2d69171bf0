-- The closing words at the start: once the blank slots are marked, the groups with only blank slots are closed.
use Rattle.std.proofs.Common.{◌≡◌, ◌≢◌, ℕ, suc, ◌+◌, ◌-◌, ◌/◌, ◌<◌, ◌≤◌, ◌^◌, Bool, true, false, ◌&&◌, ◌||◌, ◌==◌, ltb, List, length, set, refl, sym, ap, ◌∙◌, subst, arith, eq-eqb, ne_eqb}
use Rattle.std.specs.Prelude.{slice_index, bit_and, bit_or, if◌then◌else◌}
use Rattle.std.proofs.lemmas.Bool.{lt-ltb, le-ltb}
use Rattle.rules.specs.Sheets.{Layout}
use Rattle.gather_table.specs.declared.lane.Home.{Home}
use Rattle.gather_table.specs.Homes.{IsHome, blanks_to, closed_to}
use Rattle.gather_table.specs.Lanes.{wide_at, group_word}
use Rattle.gather_table.specs.Rule.{WordsHold}
use Rattle.gather_table.specs.Table.{TableState, IsSoundLayout, slots, is_wide, is_blank_slot, blank_group, is_full, in_group, group_count, group_size, with_closed, start, HasGroup}
use Rattle.gather_table.proofs.Bits.{full_bits}
use Rattle.gather_table.proofs.FirstWords.{holds_same, one_more, none_more, before_next}
use Rattle.gather_table.proofs.Legal.{and_false}
use Rattle.gather_table.proofs.Sheets.{closing_written, group_shown, low_bits, wide_room, few_groups}

-- a group of a wide sheet is closed from the start if its slots are all blank
blank_where_full : (layout : Layout) (s g : ℕ) → HasGroup layout s g → blank_group layout s g ≡ is_full layout s g (is_blank_slot (slots layout s))
blank_where_full layout s g has = λ i. (has.wide i && lt-ltb g (group_count layout s) has.group i) && is_full layout s g (is_blank_slot (slots layout s))

-- the groups that the code counts exist
pub has_group : (layout : Layout) (s g n : ℕ) (home : Home) → IsHome layout s home → s < length layout.sheets → n ≡ (if ltb 64 home.slots then (home.slots + 63) / 64 else 0) → g < n → HasGroup layout s g
has_group layout s g n home at lt is_n low = two (ltb 64 home.slots) refl
  where
    two : (b : Bool) → ltb 64 home.slots ≡ b → HasGroup layout s g
    two true e =
        let n_is : n ≡ (home.slots + 63) / 64 = is_n ∙ ap (λ (b : Bool). if b then (home.slots + 63) / 64 else 0) e in
        let count = ap (λ (z : ℕ). (z + 63) / 64) at.slots in
        record { sheet = lt; wide = ap (ltb 64) (sym at.slots) ∙ e; group = omega arith }
    two false e = let n_is : n ≡ 0 = is_n ∙ ap (λ (b : Bool). if b then (home.slots + 63) / 64 else 0) e in absurd (omega arith)

-- and they are few
pub few_of : (layout : Layout) (s : ℕ) (home : Home) → IsSoundLayout layout → s < length layout.sheets → IsHome layout s home → home.slots ≤ 4096
few_of layout s home ok lt at = let n = ok.narrow s lt in let c = at.slots in omega arith

-- one more group
pub group_more : (layout : Layout) (words : List ℕ) (s g : ℕ) → HasGroup layout s g
    → WordsHold layout (if is_full layout s g ((closed_to layout s g).marked s) then with_closed (closed_to layout s g) s g else closed_to layout s g) words → WordsHold layout (closed_to layout s (suc g)) words
group_more layout words s g has held = two (is_full layout s g (is_blank_slot (slots layout s))) refl held
  where
    two : (b : Bool) → is_full layout s g (is_blank_slot (slots layout s)) ≡ b → WordsHold layout (if b then with_closed (closed_to layout s g) s g else closed_to layout s g) words → WordsHold layout (closed_to layout s (suc g)) words
    two true e h = holds_same layout (with_closed (closed_to layout s g) s g) (closed_to layout s (suc g)) words h (λ p lt. refl) (λ r j lt inn. refl)
        (λ r i _. one_more (blank_group layout) s g r i (blank_where_full layout s g has ∙ e))
    two false e h = holds_same layout (closed_to layout s g) (closed_to layout s (suc g)) words h (λ p lt. refl) (λ r j lt inn. refl)
        (λ r i _. none_more (blank_group layout) s g r i (blank_where_full layout s g has ∙ e))

-- before the first sheet there is no group. After a sheet's last group the next sheet follows. After the last sheet
-- the words are the start's
pub none_closed : (layout : Layout) (words : List ℕ) → WordsHold layout (blanks_to layout (length layout.sheets) 0) words → WordsHold layout (closed_to layout 0 0) words
none_closed layout words h = holds_same layout (blanks_to layout (length layout.sheets) 0) (closed_to layout 0 0) words h (λ p lt. refl)
    (λ r j lt inn. ap (λ (b : Bool). (b || ((r == length layout.sheets) && ltb j 0)) && is_blank_slot (slots layout r) j) (lt-ltb r (length layout.sheets) lt))
    (λ r i has. sym (ap (λ (b : Bool). b && blank_group layout r i) ((λ m. le-ltb r 0 (omega arith) m || ((r == 0) && le-ltb i 0 (omega arith) m)) ∙ and_false (r == 0))))

pub next_sheet : (layout : Layout) (words : List ℕ) (s g n : ℕ) (home : Home) → IsHome layout s home → n ≡ (if ltb 64 home.slots then (home.slots + 63) / 64 else 0) → n ≤ g → WordsHold layout (closed_to layout s g) words → WordsHold layout (closed_to layout (s + 1) 0) words
next_sheet layout words s g n home at is_n le h =
    let one : suc s ≡ s + 1 = omega arith in
    subst (λ (k : ℕ). WordsHold layout (closed_to layout k 0) words) one
    (holds_same layout (closed_to layout s g) (closed_to layout (suc s) 0) words h (λ p lt. refl) (λ r j lt inn. refl)
    (λ r i has. ap (λ (b : Bool). b && blank_group layout r i) (before_next s g r i (λ (is : r ≡ s).
    let wide : ltb 64 home.slots ≡ true = ap (ltb 64) at.slots ∙ ap (is_wide layout) (sym is) ∙ has.wide in
    let n_is : n ≡ (home.slots + 63) / 64 = is_n ∙ ap (λ (b : Bool). if b then (home.slots + 63) / 64 else 0) wide in
    let count : (home.slots + 63) / 64 ≡ group_count layout r = ap (λ (z : ℕ). (z + 63) / 64) at.slots ∙ ap (group_count layout) (sym is) in
    let lt = has.group in
    omega arith))))

pub all_closed : (layout : Layout) (words : List ℕ) (n : ℕ) → length layout.sheets ≤ n → WordsHold layout (closed_to layout n 0) words → WordsHold layout (start layout) words
all_closed layout words n le h = holds_same layout (closed_to layout n 0) (start layout) words h (λ p lt. refl) (λ r j lt inn. refl)
    (λ r i has. ap (λ (b : Bool). (b || ((r == n) && ltb i 0)) && blank_group layout r i) (lt-ltb r n (let lt = has.sheet in omega arith)))

-- the words of a wide sheet's groups exist
pub groups_in : (layout : Layout) (words : List ℕ) (s g : ℕ) (home : Home) → IsHome layout s home → HasGroup layout s g → wide_at layout (length layout.sheets) ≤ length words → (home.word ≡ wide_at layout s) × (home.word + 1 + g < length words)
groups_in layout words s g home at has room =
    let here = at.wide has.wide in
    let enough = wide_room layout s (length words) has.wide has.sheet room in
    let lt = has.group in
    (here, omega arith)

-- the word of a group shows whether one of its slots is missing
full_shown : (layout : Layout) (t : TableState) (words : List ℕ) (s g full word : ℕ) → HasGroup layout s g → full ≡ 2 ^ group_size layout s g - 1 → word ≡ group_word layout s g → WordsHold layout t words
    → (bit_and (slice_index words word) full == full) ≡ is_full layout s g (t.marked s)
full_shown layout t words s g full word has is_full_word is_word h =
    (λ i. (ap (λ (z : ℕ). bit_and (slice_index words z) full) is_word ∙ low_bits (slice_index words (group_word layout s g)) (group_size layout s g) full is_full_word ∙ group_shown layout t words s g h has) i == is_full_word i)
    ∙ full_bits (in_group (t.marked s) g) (group_size layout s g)

-- so its closing bit is set if none is missing
pub full_closed : (layout : Layout) (words : List ℕ) (s g full n bit x : ℕ) (home : Home) → IsSoundLayout layout → IsHome layout s home → HasGroup layout s g → wide_at layout (length layout.sheets) ≤ length words → full ≡ 2 ^ group_size layout s g - 1
    → bit_and (slice_index words (home.word + 1 + g)) full ≡ full → n ≡ slice_index words home.word → n < 2 ^ 64 → bit ≡ 2 ^ g → x ≡ bit_or n bit
    → (t : TableState) → WordsHold layout t words → WordsHold layout (if is_full layout s g (t.marked s) then with_closed t s g else t) (set words home.word x)
full_closed layout words s g full n bit x home ok at has room is_full_word test found small is_bit is_x t h =
    let here = (groups_in layout words s g home at has room).0 in
    let yes_full : true ≡ is_full layout s g (t.marked s) = sym (eq-eqb (bit_and (slice_index words (home.word + 1 + g)) full) full test) ∙ full_shown layout t words s g full (home.word + 1 + g) has is_full_word (omega arith) h in
    let written = closing_written layout t words s g n has (few_groups layout ok.narrow s has.sheet) (few_groups layout ok.narrow) h (found ∙ ap (slice_index words) here) small in
    subst (λ (z : Bool × ℕ × ℕ). WordsHold layout (if z.0 then with_closed t s g else t) (set words z.1 z.2)) (λ i. (yes_full i, sym here i, sym (is_x ∙ ap (bit_or n) is_bit) i)) written

pub open_kept : (layout : Layout) (words : List ℕ) (s g full : ℕ) (home : Home) → IsHome layout s home → HasGroup layout s g → wide_at layout (length layout.sheets) ≤ length words → full ≡ 2 ^ group_size layout s g - 1
    → bit_and (slice_index words (home.word + 1 + g)) full ≢ full → (t : TableState) → WordsHold layout t words → WordsHold layout (if is_full layout s g (t.marked s) then with_closed t s g else t) words
open_kept layout words s g full home at has room is_full_word test t h =
    let here = (groups_in layout words s g home at has room).0 in
    let lacks : false ≡ is_full layout s g (t.marked s) = sym (ne_eqb (bit_and (slice_index words (home.word + 1 + g)) full) full test) ∙ full_shown layout t words s g full (home.word + 1 + g) has is_full_word (omega arith) h in
    subst (λ (b : Bool). WordsHold layout (if b then with_closed t s g else t) words) lacks h
