-- A slot of a plan, read from its specification.
use Rattle.std.proofs.Common.{arith, ◌≡◌, ℕ, ◌+◌, ◌*◌, ◌/◌, ◌%◌, ◌<◌, ◌≤◌, List, [], length, map, get_or, take, sym, ap, ◌∙◌, Some, subst, Option}
use Rattle.std.specs.Prelude.{vec_len, slice_get, option_map, sum_by}
use Rattle.std.specs.declared.vec.Vec.{Vec}
use Rattle.std.specs.declared.alloc.Global.{Global}
use Rattle.std.proofs.lemmas.List.{length-map, get_or-map, map_more, take-map}
use Rattle.std.proofs.lemmas.List.Sums.{sum_by-le, sum_by_push, sum_by-take-le}
use Rattle.std.proofs.lemmas.Nat.{mul-le}
use Rattle.std.proofs.lemmas.Option.{slice_get-map, get_or_from_slice_get, slice_get_within}
use Rattle.pagespec.specs.declared.item.Item.{Item as PageItem}
use Rattle.pagespec.specs.Items.{groups_of, item_of}
use Rattle.rules.specs.Admissible.{most_groups, most_slots}
use Rattle.rules.specs.Specification.{Spec, Item}
use Rattle.rules.specs.Sheets.{Plan, place, blocks}
use Rattle.rules.specs.Signatures.{entry_in, row_len, sheets_in}
use Rattle.rules.proofs.Counts.{sheet_count}
use Rattle.sheet_plan.specs.Plans.{planned_in, pages_on, items_on}
use Rattle.sheet_plan.specs.Refusals.{IsAccepted}
use Rattle.sheet_plan.specs.Sources.{spec_of}
use Rattle.sheet_plan.proofs.Admitted.{IsBounded, bounded}
use Rattle.sheet_plan.proofs.Rows.{is_sheet, pages_row, items_row, slot_count}
use Rattle.sheet_plan.proofs.Bounds.{blocks_times, place_below}

-- a sheet of the plan, its block and its group among count groups
pub record IsAt (sides : Option ℕ) (spec : Spec) (n count : ℕ) (plan : Plan) (s : ℕ) : Type 0 where
  pub some : 0 < count
  pub block : s / count < blocks spec.modulo (row_len sides n)
  pub group : s % count < count
  pub pages : pages_on plan s ≡ map (λ i. entry_in sides n (place spec.modulo (row_len sides n) (s / count) i)) (get_or spec.groups (s % count) [])
  pub items : items_on plan s ≡ get_or spec.groups (s % count) []
  pub slots : length (pages_on plan s) ≡ length (get_or spec.groups (s % count) [])

at_of : (sides : Option ℕ) (spec : Spec) (n s : ℕ) → s < length (sheets_in sides spec n) → IsAt sides spec n (length spec.groups) (planned_in sides spec n) s
at_of sides spec n s lt =
    let at = is_sheet sides spec n s lt in
    record { some = at.some; block = at.block; group = at.group; pages = pages_row sides spec n s lt; items = items_row sides spec n s lt; slots = slot_count sides spec n s lt }

pub at_sheet : (sides : Option ℕ) (modulo n : ℕ) (groups : List (Vec PageItem Global)) (plan : Plan) → planned_in sides (spec_of modulo groups) n ≡ plan → (s : ℕ) → s < length plan.sheets → IsAt sides (spec_of modulo groups) n (length groups) plan s
at_sheet sides modulo n groups plan is s lt =
    let spec = spec_of modulo groups in
    let lt' : s < length (sheets_in sides spec n) = subst (λ (p : Plan). s < length p.sheets) (sym is) lt in
    let here = at_of sides spec n s lt' in
    let counted = subst (λ count. IsAt sides spec n count (planned_in sides spec n) s) (length-map groups (λ g. map item_of g.items)) here in
    subst (λ (p : Plan). IsAt sides spec n (length groups) p s) is counted

-- the number of sheets
pub sheets_of : (sides : Option ℕ) (modulo n : ℕ) (groups : List (Vec PageItem Global)) (plan : Plan) → planned_in sides (spec_of modulo groups) n ≡ plan → blocks modulo (row_len sides n) * length groups ≡ length plan.sheets
sheets_of sides modulo n groups plan is =
    ap (λ k. blocks modulo (row_len sides n) * k) (sym (length-map groups (λ g. map item_of g.items))) ∙ sym (sheet_count (spec_of modulo groups) (row_len sides n) (entry_in sides n)) ∙ ap (λ (p : Plan). length p.sheets) is

-- an item's page is in its block
pub paged_item : (sides : Option ℕ) (spec : Spec) (n : ℕ) → IsAccepted sides spec n → (g k : ℕ) → g < length spec.groups → (item : Item) → slice_get (get_or spec.groups g []) k ≡ Some item → item.page < spec.modulo
paged_item sides spec n a g k lt item e =
    let b = bounded spec a.admissible in
    subst (λ (i : Item). i.page < spec.modulo) (get_or_from_slice_get (get_or spec.groups g []) k item item e) (b.paged g [] lt k item (slice_get_within (get_or spec.groups g []) k item e))

-- a slot's page, by its place
pub page_shown : (sides : Option ℕ) (spec : Spec) (n count : ℕ) (plan : Plan) (s k : ℕ) (item : Item) (at : ℕ) (page : Option ℕ) → IsAt sides spec n count plan s → slice_get (get_or spec.groups (s % count) []) k ≡ Some item
    → at ≡ place spec.modulo (row_len sides n) (s / count) item → page ≡ entry_in sides n at → slice_get (pages_on plan s) k ≡ Some page
page_shown sides spec n count plan s k item at page here e place_is page_is =
    ap (λ xs. slice_get xs k) here.pages
    ∙ slice_get-map (λ i. entry_in sides n (place spec.modulo (row_len sides n) (s / count) i)) (get_or spec.groups (s % count) []) k
    ∙ ap (option_map (λ i. entry_in sides n (place spec.modulo (row_len sides n) (s / count) i))) e
    ∙ ap (λ p. Some (entry_in sides n p)) (sym place_is)
    ∙ ap Some (sym page_is)

-- the places of a block are in the filled row
pub entry_few : (sides : Option ℕ) (spec : Spec) (n block at : ℕ) (item : Item) → IsAccepted sides spec n → block < blocks spec.modulo (row_len sides n) → item.page < spec.modulo
    → at ≡ place spec.modulo (row_len sides n) block item → at < 1_100_000
entry_few sides spec n block at item a lt page is =
    let b = bounded spec a.admissible in
    let row = blocks_times (row_len sides n) spec.modulo b.modulo in
    let few = a.few_entries in
    let narrow = b.few_pages in
    let low = place_below spec.modulo (row_len sides n) block item lt page in
    omega arith

-- a block has at most this many slots
pub few_in_block : (spec : Spec) → IsBounded spec → sum_by length spec.groups ≤ most_groups * most_slots
few_in_block spec b =
    let s = sum_by-le length most_slots spec.groups b.few_slots in
    let m = mul-le (length spec.groups) most_slots most_groups most_slots b.few_groups (omega arith) in
    omega arith

-- a vector's length, read off a slice of vectors
vector_len : (groups : List (Vec PageItem Global)) (i n : ℕ) (group : Vec PageItem Global) → group ≡ get_or groups i group → n ≡ vec_len (get_or groups i group) → length group.items ≡ n
vector_len groups i n group is e =
    let l : vec_len group ≡ vec_len (get_or groups i group) = ap (λ (g : Vec PageItem Global). vec_len g) is in
    omega arith

-- a group has as many items as its vector
pub group_len : (groups : List (Vec PageItem Global)) (i n : ℕ) (group : Vec PageItem Global) → i < length groups → group ≡ get_or groups i group → n ≡ vec_len (get_or groups i group) → length (get_or (groups_of groups) i []) ≡ n
group_len groups i n group lt is e =
    ap length (get_or-map (λ (g : Vec PageItem Global). map item_of g.items) groups i group [] lt ∙ ap (λ (g : Vec PageItem Global). map item_of g.items) (sym is))
    ∙ length-map group.items item_of
    ∙ vector_len groups i n group is e

-- the slots of one more group
pub block_more : (groups : List (Vec PageItem Global)) (i n : ℕ) (group : Vec PageItem Global) → i < length groups → group ≡ get_or groups i group → n ≡ vec_len group → sum_by length (groups_of (take (i + 1) groups)) ≡ sum_by length (groups_of (take i groups)) + n
block_more groups i n group lt is e =
    let l : length group.items ≡ n = omega arith in
    ap (sum_by length) (map_more (λ (g : Vec PageItem Global). map item_of g.items) groups i group lt)
    ∙ sum_by_push length (groups_of (take i groups)) (map item_of (get_or groups i group).items)
    ∙ ap (λ (g : Vec PageItem Global). sum_by length (groups_of (take i groups)) + length (map item_of g.items)) (sym is)
    ∙ ap (λ k. sum_by length (groups_of (take i groups)) + k) (length-map group.items item_of ∙ l)

pub block_part : (groups : List (Vec PageItem Global)) (i : ℕ) → sum_by length (groups_of (take i groups)) ≤ sum_by length (groups_of groups)
block_part groups i = subst (λ xs. sum_by length xs ≤ sum_by length (groups_of groups)) (take-map (λ (g : Vec PageItem Global). map item_of g.items) i groups) (sum_by-take-le length (groups_of groups) i)
