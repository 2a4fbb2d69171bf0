-- Sheets that pass a limit by their number alone.
use Rattle.std.proofs.Common.{arith, ◌≡◌, ℕ, suc, zero, ◌+◌, ◌-◌, ◌*◌, ◌/◌, ◌%◌, ◌<◌, ◌≤◌, ◌&&◌, Bool, true, false, List, [], ◌∷◌, length, map, get_or, refl, sym, ap, subst, ◌∙◌, Option, Some, None}
use Rattle.std.specs.Prelude.{All, not, nat_le, nat_lt, if◌then◌else◌, position, sum_by}
use Rattle.std.specs.List.{range_with_len}
use Rattle.std.proofs.Math.Nat.{suc-mul}
use Rattle.std.proofs.lemmas.Bool.Decides.{nat_tests}
use Rattle.std.proofs.lemmas.List.{length-append}
use Rattle.std.proofs.lemmas.List.Concat.{flat_map-cons}
use Rattle.std.proofs.lemmas.List.Elements.{All-append, All-map}
use Rattle.std.proofs.lemmas.List.FromFn.{length-map-range_with_len}
use Rattle.std.proofs.lemmas.List.Sums.{sum_by-cons}
use Rattle.std.proofs.lemmas.Option.{none-some, same_Some}
use Rattle.rules.specs.Papers.{Paper}
use Rattle.rules.specs.Made.{MadeSheet, Blank, Placed}
use Rattle.rules.specs.MadePlans.{is_slot_count, slot_count}
use Rattle.rules.specs.Rows.{Row}
use Rattle.sheet_plan.specs.MadeRefusals.{RefusesMade}
use Rattle.sheet_plan.specs.declared.error.MadeError.{MadeError}
use Rattle.sheet_plan.specs.declared.error.MadeError.TheVariants as plan
use Rattle.sheet_plan.proofs.Accepted.{looked_none, found_at, slots_out, too_many_places, too_many_sheets, uneven}
use Rattle.row_sheets.specs.Filled.{Filling, card_entry, card_sheets, is_turned, slot_on}
use Rattle.row_sheets.specs.Posters.{entry_tiles, poster_paper, row_tiles, tile_item}
use Rattle.row_sheets.specs.Shapes.{filling}
use Rattle.row_sheets.specs.declared.poster.Poster.{Poster}
use Rattle.row_sheets.proofs.NoPlan.{even_count, none_from}
use Rattle.row_runs.specs.declared.sheet_request.Laying.{Laying}
use Rattle.row_runs.specs.declared.sheet_request.Laying.TheVariants as laying
use Rattle.row_sheets.specs.declared.fill.Scheme.TheVariants as scheme
use Rattle.row_runs.specs.Evened.{at_common_scale}
use Rattle.row_runs.specs.Limits.{IsLimit, SheetsAreFew, AreFewAsLaid, limit_in, limit_passed}
use Rattle.row_runs.specs.Sheets.{MayBeLaid, WhyNoPlan, sheets_laid}

-- ---- sheets with as many places each
abbrev HaveSlots : (places : ℕ) → List MadeSheet → Type 0
HaveSlots k made = All (λ s. slot_count s ≡ k) made

tail_of : {X : Type 0} (P : X → Type 0) (x : X) (xs : List X) → All P (x ∷ xs) → All P xs
tail_of P x xs h k d less = h (suc k) d (omega (arith, less))

sum_even : (k : ℕ) (made : List MadeSheet) → HaveSlots k made → sum_by slot_count made ≡ length made * k
sum_even k [] h = let z : 0 ≡ 0 * k = omega arith in z
sum_even k (s ∷ ss) h =
    let first : slot_count s ≡ k = h 0 s (omega arith) in
    let rest : sum_by slot_count ss ≡ length ss * k = sum_even k ss (tail_of (λ x. slot_count x ≡ k) s ss h) in
    let both : sum_by slot_count (s ∷ ss) ≡ slot_count s + sum_by slot_count ss = sum_by-cons slot_count s ss in
    both ∙ (ap (λ n. n + sum_by slot_count ss) first ∙ (ap (λ n. k + n) rest ∙ more (length ss) k))
  where
    more : (n k : ℕ) → k + n * k ≡ (suc n) * k
    more n k = let e : suc n * k ≡ n * k + k = suc-mul n k in omega (arith, e)

is_le : (a b : ℕ) → a ≤ b → nat_le a b ≡ true
is_le a b le = grind (arith, nat_tests)

is_not_le : (a b : ℕ) → b < a → nat_le a b ≡ false
is_not_le a b lt = grind (arith, nat_tests)

is_lt : (a b : ℕ) → a < b → nat_lt a b ≡ true
is_lt a b lt = grind (arith, nat_tests)

wide_count : (k : ℕ) → 4_096 < k → not (is_slot_count k) ≡ true
wide_count k many = ap (λ b. not (b && nat_le k 4_096)) (is_le 1 k (omega (arith, many))) ∙ ap (λ b. not (true && b)) (is_not_le k 4_096 many)

all_even : (k : ℕ) (made : List MadeSheet) → HaveSlots k made → 0 < k → k ≤ 4_096 → position uneven made ≡ None
all_even k made h some few =
    looked_none uneven made ∙ none_from uneven made 0 (λ j d less. ap (λ n. not (is_slot_count n)) (h j d less) ∙ even_count k some few)

first_wide : (k : ℕ) (made : List MadeSheet) → HaveSlots k made → 0 < length made → 4_096 < k → position uneven made ≡ Some 0
first_wide k [] h there many = absurd (omega (arith, there))
first_wide k (s ∷ ss) h there many =
    found_at uneven (s ∷ ss) 0 s (uneven s) (omega arith) (looked_none uneven (s ∷ ss)) refl
    (ap (λ n. not (is_slot_count n)) (h 0 s (omega arith)) ∙ wide_count k many)

-- ---- the first of three limits
abbrev first_of : (a b c : Bool) → Option MadeError
first_of a b c = if a then Some plan.TooManySheets else (if b then Some (plan.SlotsOutOfRange 0) else (if c then Some plan.TooManyPlaces else None))

by_first : (P : MadeError → Type 0) (a b c : Bool) (e : MadeError) → (a ≡ true → P plan.TooManySheets) → (a ≡ false → b ≡ true → P (plan.SlotsOutOfRange 0)) → (a ≡ false → b ≡ false → c ≡ true → P plan.TooManyPlaces)
    → first_of a b c ≡ Some e → P e
by_first P true b c e x y z is = subst P (same_Some plan.TooManySheets e is) (x refl)
by_first P false true c e x y z is = subst P (same_Some (plan.SlotsOutOfRange 0) e is) (y refl refl)
by_first P false false true e x y z is = subst P (same_Some plan.TooManyPlaces e is) (z refl refl refl)
by_first P false false false e x y z is = absurd (none-some e is)

by_none : (a b c : Bool) → first_of a b c ≡ None → (a ≡ false) × (b ≡ false) × (c ≡ false)
by_none true b c is = absurd (none-some plan.TooManySheets (sym is))
by_none false true c is = absurd (none-some (plan.SlotsOutOfRange 0) (sym is))
by_none false false true is = absurd (none-some plan.TooManyPlaces (sym is))
by_none false false false is = (refl, refl, refl)

above : (a b : ℕ) → nat_lt a b ≡ true → a < b
above a b e = grind (arith, nat_tests)

at_most : (a b : ℕ) → nat_lt a b ≡ false → b ≤ a
at_most a b e = grind (arith, nat_tests)

both_true : (a b : Bool) → (a && b) ≡ true → (a ≡ true) × (b ≡ true)
both_true true true e = (refl, refl)
both_true true false e = cc
both_true false b e = cc

narrow : (n k : ℕ) → 0 < n → (nat_lt 0 n && nat_lt 4_096 k) ≡ false → k ≤ 4_096
narrow n k some e = at_most 4_096 k (right (nat_lt 0 n) (nat_lt 4_096 k) (is_lt 0 n some) e)
  where
    right : (a b : Bool) → a ≡ true → (a && b) ≡ false → b ≡ false
    right true b t e = e
    right false b t e = cc

some_of : (n k : ℕ) → 4_000_000 < n * k → 0 < n
some_of zero k h = absurd (omega (arith, h))
some_of (suc n) k h = omega arith

passes : (pages : ℕ) (made : List MadeSheet) (k : ℕ) (e : MadeError) → pages ≤ 1_000_000 → 0 < k → HaveSlots k made → limit_passed (length made) k ≡ Some e → RefusesMade pages made e
passes pages made k e le some even is =
    let n = length made in
    by_first (RefusesMade pages made) (nat_lt 1_000_000 n) (nat_lt 0 n && nat_lt 4_096 k) (nat_lt 4_000_000 (n * k)) e
    (λ many. too_many_sheets pages made le (above 1_000_000 n many))
    (λ few wide. let two = both_true (nat_lt 0 n) (nat_lt 4_096 k) wide in
    slots_out pages made 0 le (at_most 1_000_000 n few) (first_wide k made even (above 0 n two.0) (above 4_096 k two.1)))
    (λ few thin many. let placed = above 4_000_000 (n * k) many in
    too_many_places pages made le (at_most 1_000_000 n few) (all_even k made even some (narrow n k (some_of n k placed) thin)) (subst (λ m. 4_000_000 < m) (sym (sum_even k made even)) placed))
    is

keeps : (made : List MadeSheet) (k : ℕ) → HaveSlots k made → limit_passed (length made) k ≡ None → SheetsAreFew made
keeps made k even is =
    let n = length made in
    let (few, thin, placed) = by_none (nat_lt 1_000_000 n) (nat_lt 0 n && nat_lt 4_096 k) (nat_lt 4_000_000 (n * k)) is in
    record {
      sheets = at_most 1_000_000 n few;
      places = subst (λ m. m ≤ 4_000_000) (sym (sum_even k made even)) (at_most 4_000_000 (n * k) placed);
    }

-- ---- cards
abbrev card_of : Filling → (cells : ℕ) → Row → ℕ → MadeSheet
card_of f cells row s = record {
  paper = f.setting.room.paper;
  slots = map (λ c. slot_on f (is_turned false s) c (card_entry row s c)) (range_with_len 0 cells);
}

cards_even : (f : Filling) (cells : ℕ) (row : Row) → HaveSlots cells (card_sheets f cells row)
cards_even f cells row =
    All-map (λ s. slot_count s ≡ cells) (card_of f cells row) (range_with_len 0 (length row))
    (λ k d less. length-map-range_with_len (λ c. slot_on f (is_turned false (get_or (range_with_len 0 (length row)) k d)) c (card_entry row (get_or (range_with_len 0 (length row)) k d) c)) 0 cells)

cards_count : (f : Filling) (cells : ℕ) (row : Row) → length (card_sheets f cells row) ≡ length row
cards_count f cells row = length-map-range_with_len (card_of f cells row) 0 (length row)

-- ---- posters
abbrev blank_tile : Poster → ℕ → MadeSheet
blank_tile p n = record { paper = p.sheet; slots = Blank ∷ [] }

abbrev page_tile : Poster → List Paper → ℕ → ℕ → MadeSheet
page_tile p papers page n = record {
  paper = p.sheet;
  slots = Placed page (tile_item (poster_paper p papers page) p (n % p.columns) (p.rows - (n / p.columns + 1))) (poster_paper p papers page) ∷ [];
}

abbrev pub tiles_in : Poster → ℕ
tiles_in p = p.rows * p.columns

entry_even : (p : Poster) (papers : List Paper) (entry : Option ℕ) → HaveSlots 1 (entry_tiles p papers entry)
entry_even p papers None = All-map (λ s. slot_count s ≡ 1) (blank_tile p) (range_with_len 0 (tiles_in p)) (λ k d less. refl)
entry_even p papers (Some page) = All-map (λ s. slot_count s ≡ 1) (page_tile p papers page) (range_with_len 0 (tiles_in p)) (λ k d less. refl)

tiles_even : (p : Poster) (papers : List Paper) (row : Row) → HaveSlots 1 (row_tiles p papers row)
tiles_even p papers [] = λ k d less. absurd (omega (arith, less))
tiles_even p papers (e ∷ es) =
    subst (HaveSlots 1) (sym (flat_map-cons (entry_tiles p papers) e es))
    (All-append (λ s. slot_count s ≡ 1) (entry_tiles p papers e) (row_tiles p papers es) (entry_even p papers e) (tiles_even p papers es))

entry_count : (p : Poster) (papers : List Paper) (entry : Option ℕ) → length (entry_tiles p papers entry) ≡ tiles_in p
entry_count p papers None = length-map-range_with_len (blank_tile p) 0 (tiles_in p)
entry_count p papers (Some page) = length-map-range_with_len (page_tile p papers page) 0 (tiles_in p)

pub tiles_count : (p : Poster) (papers : List Paper) (row : Row) → length (row_tiles p papers row) ≡ length row * tiles_in p
tiles_count p papers [] = let z : 0 ≡ 0 * tiles_in p = omega arith in z
tiles_count p papers (e ∷ es) =
    ap length (flat_map-cons (entry_tiles p papers) e es)
    ∙ (length-append (entry_tiles p papers e) (row_tiles p papers es)
    ∙ (ap (λ n. n + length (row_tiles p papers es)) (entry_count p papers e)
    ∙ (ap (λ n. tiles_in p + n) (tiles_count p papers es) ∙ more (length es) (tiles_in p))))
  where
    more : (n k : ℕ) → k + n * k ≡ (suc n) * k
    more n k = let e : suc n * k ≡ n * k + k = suc-mul n k in omega (arith, e)

-- ---- layings
pub no_plan : (l : Laying) (leaves : ℕ) (papers : List Paper) (row : Row) (e : MadeError) → MayBeLaid l → limit_in l (length row) ≡ Some e → WhyNoPlan l leaves papers row e
no_plan (laying.InCells setting (scheme.Cards cells)) leaves papers row e may is pages le =
    let f = filling setting papers in
    passes pages (card_sheets f cells row) cells e le may.0 (cards_even f cells row) (subst (λ (n : ℕ). limit_passed n cells ≡ Some e) (sym (cards_count f cells row)) is)
no_plan (laying.Poster poster) leaves papers row e may is pages le =
    passes pages (row_tiles poster papers row) 1 e le (omega arith) (tiles_even poster papers row) (subst (λ (n : ℕ). limit_passed n 1 ≡ Some e) (sym (tiles_count poster papers row)) is)
no_plan other leaves papers row e may is pages le = absurd (none-some e is)

-- a limit that numbers alone tell is the one
pub is_limit : (l : Laying) (n : ℕ) (e : MadeError) → limit_in l n ≡ Some e → IsLimit l n e
is_limit (laying.BySpec spec sheet page) n e is = tt
is_limit other n e is = is

few_laid : (l : Laying) (leaves : ℕ) (papers : List Paper) (row : Row) → limit_in l (length row) ≡ None → AreFewAsLaid l (sheets_laid l leaves papers row)
few_laid (laying.InCells setting (scheme.Cards cells)) leaves papers row is =
    let f = filling setting papers in
    keeps (card_sheets f cells row) cells (cards_even f cells row) (subst (λ (n : ℕ). limit_passed n cells ≡ None) (sym (cards_count f cells row)) is)
few_laid (laying.Poster poster) leaves papers row is =
    keeps (row_tiles poster papers row) 1 (tiles_even poster papers row) (subst (λ (n : ℕ). limit_passed n 1 ≡ None) (sym (tiles_count poster papers row)) is)
few_laid other leaves papers row is = tt

-- also at one scale
few_evened : (same_scale : Bool) (l : Laying) (papers : List Paper) (row : Row) (made : List MadeSheet) → AreFewAsLaid (at_common_scale same_scale l papers row) made → AreFewAsLaid l made
few_evened false l papers row made h = h
few_evened true (laying.InCells t (scheme.Cards cells)) papers row made h = h
few_evened true other papers row made h = h

pub few_made : (same_scale : Bool) (l even : Laying) (leaves : ℕ) (papers : List Paper) (row : Row) (made : List MadeSheet) → even ≡ at_common_scale same_scale l papers row → made ≡ sheets_laid even leaves papers row
    → limit_in even (length row) ≡ None → AreFewAsLaid l made
few_made same_scale l even leaves papers row made is laid few =
    few_evened same_scale l papers row made
    (subst (λ (h : Laying). AreFewAsLaid h made) is (subst (AreFewAsLaid even) (sym laid) (few_laid even leaves papers row few)))
