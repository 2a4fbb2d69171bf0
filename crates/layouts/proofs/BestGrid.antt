-- No grid of n cells or more is better than the chosen one.
use Rattle.std.proofs.Common.{arith, rules, ◌≡◌, ◌≢◌, inl, inr, ℕ, suc, zero, ◌+◌, ◌-◌, ◌*◌, ◌/◌, ◌<◌, ◌≤◌, Bool, true, false, refl, sym, ap, subst, ◌∙◌, eq-eqb}
use Rattle.std.specs.Prelude.{nat_lt, nat_abs, min, ◌==◌, ◌&&◌, ◌||◌, if◌then◌else◌}
use Rattle.std.proofs.Math.Nat.{lt-div-mul-add, mul_comm, mul_left_comm, lt_of_mul-lt-mul_left, mul-le-mul_left, mul-le-mul_right, mul-add, mul_assoc, suc-mul, zero-mul, div-zero, div-mul-le_self, div-lt_iff_lt-mul}
use Rattle.std.proofs.lemmas.Bool.{cases_lt}
use Rattle.std.proofs.lemmas.Nat.{le-div}
use Rattle.rules.specs.Papers.{Paper}
use Rattle.layouts.specs.declared.arrangement.Turned.{Turned}
use Rattle.layouts.specs.declared.arrangement.Turned.TheVariants as sideways
use Rattle.layouts.specs.Placed.{Room}
use Rattle.layouts.specs.Cells.{Along, Grid, cell, fitting, held_across, held_down, held_width, held_height, left_free, kept_length, pitch, wide, high, trimmed_side, exact_along, exact_scale, scale_in, size}
use Rattle.layouts.specs.Grids.{grid, is_better, better, best_of, best_grid, formed, best_formed}
use Rattle.layouts.specs.Laws.{IsAsGood, BestIsBest, BestHasCells, BestIsLarge, Allows, AllowsAlong, IsNotTiny}
use Rattle.layouts.proofs.InGrid.{cells, room_in, some_each}

-- fewer parts are no smaller

-- a lesser number, in larger parts
over_le : (n m p q : ℕ) → n ≤ m → q ≤ p → (q ≡ 0 → p ≡ 0) → n / p ≤ m / q
over_le n m p zero less parts none =
    subst (λ d. n / d ≤ m / 0) (sym (none refl)) (omega (arith, div-zero n, div-zero m))
over_le n m p (suc q) less parts none =
    le-div (n / p) m (suc q) (omega arith) (omega (arith, less, mul-le-mul_left (n / p) parts, div-mul-le_self n p))

no_page : (page a b : ℕ) → 0 < b → page * b ≡ 0 → page * a ≡ 0
no_page zero a b some e = zero-mul a
no_page (suc page) a b some e = absurd (omega (arith, some, e, suc-mul page b))

exact_le : (a : Along) (side m n page : ℕ) → 0 < n → n ≤ m → exact_along a side m page ≤ exact_along a side n page
exact_le a side m n page some fewer =
    let d = kept_length a.trim a.gap in
    let gaps : d * n ≤ d * m = mul-le-mul_left d fewer in
    over_le (1_000_000_000 * left_free a side + 1_270_000_000_000_000 * d - 1_270_000_000_000_000 * (d * m))
    (1_000_000_000 * left_free a side + 1_270_000_000_000_000 * d - 1_270_000_000_000_000 * (d * n)) (page * m) (page * n)
    (omega (arith, gaps)) (mul-le-mul_left page fewer) (no_page page m n some)

scale_le : (page : Paper) (room : Room) (r c r' c' : ℕ) (b : Bool) → 0 < r' → 0 < c' → r' ≤ r → c' ≤ c → exact_scale page room (cells r c b) ≤ exact_scale page room (cells r' c' b)
scale_le page room r c r' c' b some_rows some_columns rows columns =
    omega (arith, exact_le (held_across b room) (held_width b room.paper) c c' (trimmed_side room page.width) some_columns columns, exact_le (held_down b room) (held_height b room.paper) r r' (trimmed_side room page.height) some_rows rows)

-- the better of two

good_self : (page : Paper) (room : Room) (g : Grid) → IsAsGood page room g g
good_self page room g = record { large = omega arith; few = λ e. omega arith; upright = λ e f t. t; narrow = λ e f t. omega arith }

-- what is upright if the next is, and has the turn of the last, has that of the one between
same_turn : (a b c : Bool) → (b ≡ false → a ≡ false) → (c ≡ false → b ≡ false) → a ≡ c → (a ≡ b) × (b ≡ c)
same_turn true true true x y e = (refl, refl)
same_turn false false false x y e = (refl, refl)
same_turn true false true x y e = let no = x refl in absurd (cc (no))
same_turn false true false x y e = let no = y refl in absurd (cc (no))
same_turn true b false x y e = absurd (cc (e))
same_turn false b true x y e = absurd (cc (e))

good_trans : (page : Paper) (room : Room) (f g h : Grid) → IsAsGood page room f g → IsAsGood page room g h → IsAsGood page room f h
good_trans page room f g h x y =
    let more : exact_scale page room g ≤ exact_scale page room f = x.large in
    let more' : exact_scale page room h ≤ exact_scale page room g = y.large in
    let first : exact_scale page room f ≡ exact_scale page room h → exact_scale page room f ≡ exact_scale page room g = λ e. omega (arith, more, more', e) in
    let last : exact_scale page room f ≡ exact_scale page room h → exact_scale page room g ≡ exact_scale page room h = λ e. omega (arith, more, more', e) in
    let few : exact_scale page room f ≡ exact_scale page room h → size f ≤ size g = λ e. x.few (first e) in
    let few' : exact_scale page room f ≡ exact_scale page room h → size g ≤ size h = λ e. y.few (last e) in
    let size_first : exact_scale page room f ≡ exact_scale page room h → size f ≡ size h → size f ≡ size g = λ e s. let m = few e in let m' = few' e in omega (arith, m, m', s) in
    let size_last : exact_scale page room f ≡ exact_scale page room h → size f ≡ size h → size g ≡ size h = λ e s. let m = few e in let m' = few' e in omega (arith, m, m', s) in
    record {
      large = omega (arith, more, more');
      few = λ e. let m = few e in let m' = few' e in omega (arith, m, m');
      upright = λ e s t. x.upright (first e) (size_first e s) (y.upright (last e) (size_last e s) t);
      narrow = λ e s t.
          let turns = same_turn f.turned g.turned h.turned (x.upright (first e) (size_first e s)) (y.upright (last e) (size_last e s)) t in
          let m : f.columns ≤ g.columns = x.narrow (first e) (size_first e s) turns.0 in
          let m' : g.columns ≤ h.columns = y.narrow (last e) (size_last e s) turns.1 in
          omega (arith, m, m');
    }

-- the one is to be kept if both are as large and have as many cells
record IsFirst (one other : Grid) : Type 0 where
  pub upright : other.turned ≡ false → one.turned ≡ false
  pub narrow : one.turned ≡ other.turned → one.columns ≤ other.columns

abbrev BothGood : (page : Paper) → Room → (chosen one other : Grid) → Type 0
BothGood page room chosen one other = IsAsGood page room chosen one × IsAsGood page room chosen other

prefer_at : (page : Paper) (room : Room) (one other : Grid) → IsFirst one other → (more same fewer : Bool) → nat_lt (exact_scale page room one) (exact_scale page room other) ≡ more
    → (exact_scale page room one == exact_scale page room other) ≡ same → nat_lt (size other) (size one) ≡ fewer → BothGood page room (if more || same && fewer then other else one) one other
prefer_at page room one other first true same fewer e f g =
    let h : exact_scale page room one < exact_scale page room other = search (rules, e) in (
      record { large = omega (arith, h); few = λ eq. absurd (omega (arith, h, eq)); upright = λ eq. absurd (omega (arith, h, eq)); narrow = λ eq. absurd (omega (arith, h, eq)) },
      good_self page room other,
    )
prefer_at page room one other first false true true e f g =
    let h : exact_scale page room one ≡ exact_scale page room other = search (rules, f) in
    let m : size other < size one = search (rules, g) in
    (record { large = omega (arith, h); few = λ eq. omega (arith, m); upright = λ eq s. absurd (omega (arith, m, s)); narrow = λ eq s. absurd (omega (arith, m, s)) }, good_self page room other)
prefer_at page room one other first false true false e f g =
    let h : exact_scale page room one ≡ exact_scale page room other = search (rules, f) in
    let m : size one ≤ size other = search (rules, g) in
    (good_self page room one, record { large = omega (arith, h); few = λ eq. m; upright = λ eq s. first.upright; narrow = λ eq s. first.narrow })
prefer_at page room one other first false false fewer e f g =
    let h : exact_scale page room other ≤ exact_scale page room one = search (rules, e) in
    let differ : exact_scale page room one ≢ exact_scale page room other = λ eq. let same = eq-eqb (exact_scale page room one) (exact_scale page room other) eq in absurd (cc (f, same)) in
    (good_self page room one, record { large = h; few = λ eq. absurd (differ eq); upright = λ eq. absurd (differ eq); narrow = λ eq. absurd (differ eq) })

both_good : (page : Paper) (room : Room) (one other : Grid) → IsFirst one other → BothGood page room (better page room one other) one other
both_good page room one other first =
    prefer_at page room one other first (nat_lt (exact_scale page room one) (exact_scale page room other)) (exact_scale page room one == exact_scale page room other) (nat_lt (size other) (size one)) refl refl refl

-- the turn and the columns of what was found so far

record IsEarly (turned : Bool) (most : ℕ) (g : Grid) : Type 0 where
  pub turn : g.turned ≡ turned
  pub columns : g.columns ≤ most

either_early : (turned : Bool) (most : ℕ) (one other : Grid) (b : Bool) → IsEarly turned most one → IsEarly turned most other → IsEarly turned most (if b then other else one)
either_early turned most one other true x y = y
either_early turned most one other false x y = x

first_early : (page : Paper) (room : Room) (turned : Bool) (n k : ℕ) → IsEarly turned (suc k) (best_of page room turned n k)
first_early page room turned n zero = record { turn = refl; columns = omega arith }
first_early page room turned n (suc k) =
    let one = first_early page room turned n k in
    let columns : (best_of page room turned n k).columns ≤ suc k = one.columns in
    either_early turned (suc (suc k)) (best_of page room turned n k) (grid turned n (suc k)) _ (record { turn = one.turn; columns = omega (arith, columns) }) (record { turn = refl; columns = omega arith })

before_next : (page : Paper) (room : Room) (turned : Bool) (n k : ℕ) → IsFirst (best_of page room turned n k) (grid turned n (suc k))
before_next page room turned n k =
    let early = first_early page room turned n k in
    record { upright = λ t. early.turn ∙ t; narrow = λ t. early.columns }

upright_first : (page : Paper) (room : Room) (n : ℕ) → IsFirst (best_of page room false n n) (best_of page room true n n)
upright_first page room n =
    let here : (best_of page room false n n).turned ≡ false = (first_early page room false n n).turn in
    let there : (best_of page room true n n).turned ≡ true = (first_early page room true n n).turn in
    record { upright = λ t. here; narrow = λ t. absurd (cc (here, there, t)) }

-- the best of many

first_good : (page : Paper) (room : Room) (turned : Bool) (n k d : ℕ) → 0 < d → d ≤ k → IsAsGood page room (best_of page room turned n k) (grid turned n d)
first_good page room turned n zero d some most = absurd (omega (arith, some, most))
first_good page room turned n (suc k) d some most =
    let one = best_of page room turned n k in
    let other = grid turned n (suc k) in
    let both = both_good page room one other (before_next page room turned n k) in
    elim (cases_lt k d) [
      | inl last ↦
          let same : d ≡ suc k = omega (arith, last, most) in
          subst (λ m. IsAsGood page room (best_of page room turned n (suc k)) (grid turned n m)) (sym same) both.1
      | inr earlier ↦ good_trans page room (better page room one other) one (grid turned n d) both.0 (first_good page room turned n k d some earlier)
    ]

best_good : (page : Paper) (room : Room) (turned : Bool) (n : ℕ) → IsAsGood page room (best_grid page room n) (best_of page room turned n n)
best_good page room false n = (both_good page room (best_of page room false n n) (best_of page room true n n) (upright_first page room n)).0
best_good page room true n = (both_good page room (best_of page room false n n) (best_of page room true n n) (upright_first page room n)).1

-- rows

rows_fit : (n r c : ℕ) → 0 < c → n ≤ r * c → (n + (c - 1)) / c ≤ r
rows_fit n r c some h =
    let less : (n + (c - 1)) / c < suc r = (div-lt_iff_lt-mul some).1 (omega (arith, h, some, suc-mul r c)) in
    omega (arith, less)

some_rows : (n c : ℕ) → 0 < n → 0 < c → 0 < (n + (c - 1)) / c
some_rows n c many some = omega (arith, le-div 1 (n + (c - 1)) c some (omega (arith, many, some)))

-- a grid with no row too many is as good as each of so many columns or more
as_good : (page : Paper) (room : Room) (n r c d : ℕ) (b : Bool) → 0 < n → 0 < d → d ≤ c → n ≤ r * c → (n + (d - 1)) / d ≤ r → (n + (d - 1)) / d * d ≤ r * c
    → IsAsGood page room (grid b n d) (cells r c b)
as_good page room n r c d b many some fewer h rows size_ =
    record { large = scale_le page room r c ((n + (d - 1)) / d) d b (some_rows n d many some) some rows fewer; few = λ e. size_; upright = λ e s t. t; narrow = λ e s t. fewer }

among : (page : Paper) (room : Room) (n r c : ℕ) (b : Bool) → 0 < n → n ≤ r * c → IsAsGood page room (best_grid page room n) (cells r c b)
among page room n r c b many h =
    let (rows, columns) = some_each r c (omega (arith, many, h)) in
    let one = best_good page room b n in
    elim (cases_lt n c) [
      | inl wider ↦
          let few : (n + (n - 1)) / n ≤ 1 = rows_fit n 1 n many (omega arith) in
          let area : (n + (n - 1)) / n * n ≤ r * c = omega (arith, mul-le-mul_right n few, h) in
          good_trans page room (best_grid page room n) (best_of page room b n n) (cells r c b) one
          (good_trans page room (best_of page room b n n) (grid b n n) (cells r c b) (first_good page room b n n n many (omega arith)) (as_good page room n r c n b many many (omega (arith, wider)) h (omega (arith, few, rows)) area))
      | inr fits ↦
          let few : (n + (c - 1)) / c ≤ r = rows_fit n r c columns h in
          good_trans page room (best_grid page room n) (best_of page room b n n) (cells r c b) one
          (good_trans page room (best_of page room b n n) (grid b n c) (cells r c b) (first_good page room b n n c columns fits) (as_good page room n r c c b many columns (omega arith) h few (mul-le-mul_right c few)))
    ]

pub best_is_best : BestIsBest
best_is_best page room n g many h = among page room n g.rows g.columns g.turned many h

-- it has n cells

enough : (b : Bool) (n d : ℕ) → 0 < d → n ≤ size (grid b n d)
enough b n d some = omega (arith, some, lt-div-mul-add {a = n + (d - 1)} {b = d} some)

either_enough : (n : ℕ) (one other : Grid) (b : Bool) → n ≤ size one → n ≤ size other → n ≤ size (if b then other else one)
either_enough n one other true x y = y
either_enough n one other false x y = x

first_enough : (page : Paper) (room : Room) (turned : Bool) (n k : ℕ) → n ≤ size (best_of page room turned n k)
first_enough page room turned n zero = enough turned n 1 (omega arith)
first_enough page room turned n (suc k) =
    either_enough n (best_of page room turned n k) (grid turned n (suc k)) _ (first_enough page room turned n k) (enough turned n (suc k) (omega arith))

pub best_has_cells : BestHasCells
best_has_cells page room n some = either_enough n (best_of page room false n n) (best_of page room true n n) _ (first_enough page room false n n) (first_enough page room true n n)

-- one side: what an exact part allows is little more than what fits its cell
nearly : (a : Along) (side parts page t : ℕ) → 1_397_000_000_000 ≤ page → 0 < parts
    → AllowsAlong a side parts page t
    → t < fitting (cell a side parts) page + 1_000
nearly a side parts page t large some allows =
    let p = pitch a side parts in
    let d = kept_length a.trim a.gap in
    let q = fitting (p - d) page in
    let free = left_free a side + 1_270_000 * d in
    let cut : free < p * (1_270_000 * parts) + 1_270_000 * parts = lt-div-mul-add {a = free} {b = 1_270_000 * parts} (omega (arith, some)) in
    let one : parts * (t * page + 1_270_000_000_000_000 * d) ≡ t * page * parts + 1_270_000_000_000_000 * (d * parts) =
    omega (arith, mul-add parts (t * page) (1_270_000_000_000_000 * d), mul_comm (t * page) parts, mul_left_comm parts 1_270_000_000_000_000 d, mul_comm d parts) in
    let two : parts * (1_270_000_000_000_000 * p + 1_270_000_000_000_000) ≡ 1_270_000_000_000_000 * (p * parts) + 1_270_000_000_000_000 * parts =
    omega (arith, mul-add parts (1_270_000_000_000_000 * p) 1_270_000_000_000_000, mul_left_comm parts 1_270_000_000_000_000 p, mul_comm p parts, mul_comm parts 1_270_000_000_000_000) in
    let cut' : p * (1_270_000 * parts) ≡ 1_270_000 * (p * parts) = mul_left_comm p 1_270_000 parts in
    let less : parts * (t * page + 1_270_000_000_000_000 * d) < parts * (1_270_000_000_000_000 * p + 1_270_000_000_000_000) = omega (arith, cut, cut', allows, one, two) in
    let here : t * page + 1_270_000_000_000_000 * d < 1_270_000_000_000_000 * p + 1_270_000_000_000_000 = lt_of_mul-lt-mul_left parts less in
    let fits : 1_270_000_000_000_000 * (p - d) < q * page + page = lt-div-mul-add {a = 1_270_000_000_000_000 * (p - d)} {b = page} (omega (arith, large)) in
    lt_of_mul-lt-mul_left page {m = t} {n = q + 1_000} (omega (arith, here, fits, mul_comm t page, mul-add page q 1_000, mul_comm page q, large))

pub allowed : (page : Paper) (room : Room) (g : Grid) (t : ℕ) → IsNotTiny page room → 0 < g.rows → 0 < g.columns → Allows page room g t
    → t < scale_in page room g + 1_000
allowed page room g t sides rows columns allows =
    let across : t < fitting (wide room g) (trimmed_side room page.width) + 1_000 = nearly (held_across g.turned room) (held_width g.turned room.paper) g.columns (trimmed_side room page.width) t sides.0 columns allows.wide in
    let down : t < fitting (high room g) (trimmed_side room page.height) + 1_000 = nearly (held_down g.turned room) (held_height g.turned room.paper) g.rows (trimmed_side room page.height) t sides.1 rows allows.high in
    omega (arith, across, down)

-- and what exact parts allow at most is, too
product : (a b : ℕ) → 0 < a → 0 < b → 0 < a * b
product zero b some some' = absurd (omega (arith, some))
product (suc a) b some some' = omega (arith, some', suc-mul a b)

near_by : (a : Along) (side parts page t : ℕ) → 1_397_000_000_000 ≤ page → 0 < parts
    → t * (page * parts) ≤ 1_000_000_000 * left_free a side + 1_270_000_000_000_000 * kept_length a.trim a.gap - 1_270_000_000_000_000 * (kept_length a.trim a.gap * parts)
    → t < fitting (cell a side parts) page + 1_000
near_by a side parts page zero large some fits = omega arith
near_by a side parts page (suc t) large some fits =
    let here = product page parts (omega (arith, large)) some in
    nearly a side parts page (suc t) large some (omega (arith, fits, here, suc-mul t (page * parts), mul_assoc (suc t) page parts))

near_along : (a : Along) (side parts page : ℕ) → 1_397_000_000_000 ≤ page → 0 < parts
    → exact_along a side parts page < fitting (cell a side parts) page + 1_000
near_along a side parts page large some =
    near_by a side parts page (exact_along a side parts page) large some
    (div-mul-le_self (1_000_000_000 * left_free a side + 1_270_000_000_000_000 * kept_length a.trim a.gap - 1_270_000_000_000_000 * (kept_length a.trim a.gap * parts)) (page * parts))

near_exact : (page : Paper) (room : Room) (g : Grid) → IsNotTiny page room → 0 < g.rows → 0 < g.columns → exact_scale page room g < scale_in page room g + 1_000
near_exact page room g sides rows columns =
    omega (arith, near_along (held_across g.turned room) (held_width g.turned room.paper) g.columns (trimmed_side room page.width) sides.0 columns, near_along (held_down g.turned room) (held_height g.turned room.paper) g.rows (trimmed_side room page.height) sides.1 rows)

within_along : (a : Along) (side parts page t : ℕ) → 1_397_000_000_000 ≤ page → 0 < parts
    → AllowsAlong a side parts page t
    → t ≤ exact_along a side parts page
within_along a side parts page t large some allows =
    le-div t (1_000_000_000 * left_free a side + 1_270_000_000_000_000 * kept_length a.trim a.gap - 1_270_000_000_000_000 * (kept_length a.trim a.gap * parts)) (page * parts)
    (product page parts (omega (arith, large)) some) (omega (arith, allows, mul_assoc t page parts))

within_exact : (page : Paper) (room : Room) (g : Grid) (t : ℕ) → IsNotTiny page room → 0 < g.rows → 0 < g.columns → Allows page room g t → t ≤ exact_scale page room g
within_exact page room g t sides rows columns allows =
    omega (arith, within_along (held_across g.turned room) (held_width g.turned room.paper) g.columns (trimmed_side room page.width) t sides.0 columns allows.wide, within_along (held_down g.turned room) (held_height g.turned room.paper) g.rows (trimmed_side room page.height) t sides.1 rows allows.high)

pub best_is_large : BestIsLarge
best_is_large page room n g t sides many h allows =
    let (rows, columns) = some_each g.rows g.columns (omega (arith, many, h)) in
    let here = within_exact page room g t sides rows columns allows in
    let best : exact_scale page room g ≤ exact_scale page room (best_grid page room n) = (best_is_best page room n g many h).large in
    let enough : n ≤ (best_grid page room n).rows * (best_grid page room n).columns = best_has_cells page room n many in
    let (rows', columns') = some_each (best_grid page room n).rows (best_grid page room n).columns (omega (arith, many, enough)) in
    let near = near_exact page room (best_grid page room n) sides rows' columns' in
    omega (arith, here, best, near)

-- ---- so many columns and rows

some_formed : (t : Turned) (b : Bool) (columns rows : ℕ) → 0 < columns → 0 < rows → (0 < (formed t b columns rows).rows) × (0 < (formed t b columns rows).columns)
some_formed sideways.Upright b columns rows some some' = (some', some)
some_formed sideways.Left b columns rows some some' = (some, some')
some_formed sideways.Right b columns rows some some' = (some, some')

either_large : (page : Paper) (room : Room) (one other : Grid) → (more same fewer : Bool) → nat_lt (exact_scale page room one) (exact_scale page room other) ≡ more
    → (exact_scale page room one == exact_scale page room other) ≡ same
    → (exact_scale page room one ≤ exact_scale page room (if more || same && fewer then other else one)) × (exact_scale page room other ≤ exact_scale page room (if more || same && fewer then other else one))
either_large page room one other true same fewer e f =
    let h : exact_scale page room one < exact_scale page room other = search (rules, e) in (omega (arith, h), omega arith)
either_large page room one other false true true e f =
    let h : exact_scale page room one ≡ exact_scale page room other = search (rules, f) in (omega (arith, h), omega arith)
either_large page room one other false true false e f =
    let h : exact_scale page room one ≡ exact_scale page room other = search (rules, f) in (omega arith, omega (arith, h))
either_large page room one other false false fewer e f =
    let h : exact_scale page room other ≤ exact_scale page room one = search (rules, e) in (omega arith, h)

formed_large : (page : Paper) (room : Room) (t : Turned) (b : Bool) (columns rows : ℕ) → exact_scale page room (formed t b columns rows) ≤ exact_scale page room (best_formed page room t columns rows)
formed_large page room t false columns rows =
    (either_large page room (formed t false columns rows) (formed t true columns rows) _ _ (nat_lt (size (formed t true columns rows)) (size (formed t false columns rows))) refl refl).0
formed_large page room t true columns rows =
    (either_large page room (formed t false columns rows) (formed t true columns rows) _ _ (nat_lt (size (formed t true columns rows)) (size (formed t false columns rows))) refl refl).1

some_best : (t : Turned) (columns rows : ℕ) (b : Bool) → 0 < columns → 0 < rows
    → (0 < (if b then formed t true columns rows else formed t false columns rows).rows) × (0 < (if b then formed t true columns rows else formed t false columns rows).columns)
some_best t columns rows true some some' = some_formed t true columns rows some some'
some_best t columns rows false some some' = some_formed t false columns rows some some'

pub formed_is_large : (page : Paper) (room : Room) (t : Turned) (columns rows : ℕ) (b : Bool) (s : ℕ) → 0 < columns → 0 < rows → IsNotTiny page room → Allows page room (formed t b columns rows) s
    → s < scale_in page room (best_formed page room t columns rows) + 1_000
formed_is_large page room t columns rows b s some some' sides allows =
    let (in_rows, in_columns) = some_formed t b columns rows some some' in
    let best = some_best t columns rows (is_better page room (formed t false columns rows) (formed t true columns rows)) some some' in
    let near = near_exact page room (best_formed page room t columns rows) sides best.0 best.1 in
    omega (arith, within_exact page room (formed t b columns rows) s sides in_rows in_columns allows, formed_large page room t b columns rows, near)

-- one more number of columns
pub next_best : (page : Paper) (room : Room) (turned : Bool) (n k : ℕ) (best other result : Grid) → result ≡ better page room best other → best ≡ best_of page room turned n k → other ≡ grid turned n (k + 1)
    → result ≡ best_of page room turned n (k + 1)
next_best page room turned n k best other result e f g =
    let next : suc k ≡ k + 1 = omega arith in
    let back : better page room (best_of page room turned n k) (grid turned n (k + 1)) ≡ best_of page room turned n (k + 1) =
    subst (λ m. better page room (best_of page room turned n k) (grid turned n m) ≡ best_of page room turned n m) next refl in
    e ∙ (ap (λ b. better page room b other) f ∙ (ap (λ q. better page room (best_of page room turned n k) q) g ∙ back))

-- ---- one page on a sheet of its own paper

-- a gap alone
abbrev gap_in : (d : ℕ) → Along
gap_in d = record { before = 0; after = 0; gap = d; trim = 0 }

along_one : (side d page : ℕ) → exact_along (gap_in d) side 1 page ≡ 1_000_000_000 * side / page
along_one side d page =
    let all : 1_000_000_000 * left_free (gap_in d) side + 1_270_000_000_000_000 * d - 1_270_000_000_000_000 * (d * 1) ≡ 1_000_000_000 * side = omega arith in
    let one : page * 1 ≡ page = omega arith in
    ap (λ n. n / (page * 1)) all ∙ ap (λ m. 1_000_000_000 * side / m) one

at_most_whole : (side page : ℕ) → 0 < page → side ≤ page → 1_000_000_000 * side / page ≤ 1_000_000_000
at_most_whole side page some less =
    let h : 1_000_000_000 * side / page < 1_000_000_001 = (div-lt_iff_lt-mul some).1 (omega (arith, some, less)) in
    omega (arith, h)

whole_side : (side : ℕ) → 0 < side → 1_000_000_000 ≤ 1_000_000_000 * side / side
whole_side side some = le-div 1_000_000_000 (1_000_000_000 * side) side some (omega arith)

either_less : (w h : ℕ) → 0 < w → 0 < h → min (1_000_000_000 * h / w) (1_000_000_000 * w / h) ≤ min (1_000_000_000 * w / w) (1_000_000_000 * h / h)
either_less w h wide high =
    let a = whole_side w wide in
    let b = whole_side h high in
    elim (cases_lt w h) [
      | inl more ↦ omega (arith, a, b, at_most_whole w h high (omega (arith, more)))
      | inr less ↦ omega (arith, a, b, at_most_whole h w wide less)
    ]

upright_as_large : (page sheet : Paper) (d d' : ℕ) → nat_abs page.width ≡ nat_abs sheet.width → nat_abs page.height ≡ nat_abs sheet.height → 0 < nat_abs page.width → 0 < nat_abs page.height
    → exact_scale page (room_in sheet d d') (cells 1 1 true) ≤ exact_scale page (room_in sheet d d') (cells 1 1 false)
upright_as_large page sheet d d' same same' wide high =
    let w = nat_abs page.width in
    let h = nat_abs page.height in
    let all_wide : trimmed_side (room_in sheet d d') page.width ≡ nat_abs page.width = omega arith in
    let all_high : trimmed_side (room_in sheet d d') page.height ≡ nat_abs page.height = omega arith in
    let one : exact_scale page (room_in sheet d d') (cells 1 1 true) ≡ min (1_000_000_000 * h / w) (1_000_000_000 * w / h) =
    ap (λ x. min (exact_along (gap_in d') (nat_abs sheet.height) 1 x) (exact_along (gap_in d) (nat_abs sheet.width) 1 (trimmed_side (room_in sheet d d') page.height))) all_wide
    ∙ (ap (λ y. min (exact_along (gap_in d') (nat_abs sheet.height) 1 w) (exact_along (gap_in d) (nat_abs sheet.width) 1 y)) all_high
    ∙ (ap (λ x. min x (exact_along (gap_in d) (nat_abs sheet.width) 1 h)) (along_one (nat_abs sheet.height) d' w ∙ ap (λ m. 1_000_000_000 * m / w) (sym same'))
    ∙ ap (λ y. min (1_000_000_000 * h / w) y) (along_one (nat_abs sheet.width) d h ∙ ap (λ m. 1_000_000_000 * m / h) (sym same)))) in
    let two : exact_scale page (room_in sheet d d') (cells 1 1 false) ≡ min (1_000_000_000 * w / w) (1_000_000_000 * h / h) =
    ap (λ x. min (exact_along (gap_in d) (nat_abs sheet.width) 1 x) (exact_along (gap_in d') (nat_abs sheet.height) 1 (trimmed_side (room_in sheet d d') page.height))) all_wide
    ∙ (ap (λ y. min (exact_along (gap_in d) (nat_abs sheet.width) 1 w) (exact_along (gap_in d') (nat_abs sheet.height) 1 y)) all_high
    ∙ (ap (λ x. min x (exact_along (gap_in d') (nat_abs sheet.height) 1 h)) (along_one (nat_abs sheet.width) d w ∙ ap (λ m. 1_000_000_000 * m / w) (sym same))
    ∙ ap (λ y. min (1_000_000_000 * w / w) y) (along_one (nat_abs sheet.height) d' h ∙ ap (λ m. 1_000_000_000 * m / h) (sym same')))) in
    let done = either_less w h wide high in
    subst (λ m. m ≤ exact_scale page (room_in sheet d d') (cells 1 1 false)) (sym one)
    (subst (λ m. min (1_000_000_000 * h / w) (1_000_000_000 * w / h) ≤ m) (sym two) done)

-- the first of two grids is kept if the other isn't larger, and has no fewer cells
first_kept : (page : Paper) (room : Room) (one other : Grid) → (more same fewer : Bool) → nat_lt (exact_scale page room one) (exact_scale page room other) ≡ more → nat_lt (size other) (size one) ≡ fewer
    → exact_scale page room other ≤ exact_scale page room one → size one ≤ size other → (if more || same && fewer then other else one) ≡ one
first_kept page room one other true same fewer e f large few = let h : exact_scale page room one < exact_scale page room other = search (rules, e) in absurd (omega (arith, h, large))
first_kept page room one other false true true e f large few = let h : size other < size one = search (rules, f) in absurd (omega (arith, h, few))
first_kept page room one other false true false e f large few = refl
first_kept page room one other false false fewer e f large few = refl

kept_first : (page : Paper) (room : Room) (one other : Grid) → exact_scale page room other ≤ exact_scale page room one → size one ≤ size other → better page room one other ≡ one
kept_first page room one other large few =
    first_kept page room one other (nat_lt (exact_scale page room one) (exact_scale page room other)) (exact_scale page room one == exact_scale page room other) (nat_lt (size other) (size one)) refl refl large few

-- so it is upright
pub one_upright : (page sheet : Paper) (d d' : ℕ) → nat_abs page.width ≡ nat_abs sheet.width → nat_abs page.height ≡ nat_abs sheet.height → 0 < nat_abs page.width → 0 < nat_abs page.height
    → better page (room_in sheet d d') (cells 1 1 false) (cells 1 1 true) ≡ cells 1 1 false
one_upright page sheet d d' same same' wide high =
    kept_first page (room_in sheet d d') (cells 1 1 false) (cells 1 1 true) (upright_as_large page sheet d d' same same' wide high) (omega arith)

pub best_of_one : (page : Paper) (room : Room) (b : Bool) → best_of page room b 1 1 ≡ cells 1 1 b
best_of_one page room b = kept_first page room (cells 1 1 b) (cells 1 1 b) (omega arith) (omega arith)
